use Rattle.std.proofs.Common.{◌∙◌}
use Rattle.rls_rename.proofs.Patterns.{below_longer}
use Rattle.rls_rename.proofs.gap_maps.old_below_inverse.Goals as goal

pub high_inverse-requires-clause-longer : goal.high_inverse-requires-clause-longer
high_inverse-requires-clause-longer c =
    below_longer c.args.a.now c.args.x.first c.deref.result.now (c.deref.ensures.value ∙ c.in_ok-below_pattern.ensures.pattern) c.len.ensures.ident c.len-2.ensures.ident c.requires.less
