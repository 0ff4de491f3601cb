use Rattle.std.proofs.Common.{◌∙◌}
use Rattle.rls_rename.proofs.Patterns.{above_longer}
use Rattle.rls_rename.proofs.gap_maps.old_above_inverse.Goals as goal

pub low_inverse-requires-clause-longer : goal.low_inverse-requires-clause-longer
low_inverse-requires-clause-longer c =
    above_longer c.args.a.now c.args.x.first c.deref.result.now (c.deref.ensures.value ∙ c.in_ok-above_pattern.ensures.pattern) c.len-len.ensures.ident c.requires.less
