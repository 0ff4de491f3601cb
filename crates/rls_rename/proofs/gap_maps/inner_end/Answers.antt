use Rattle.std.proofs.Common.{ap, ◌∙◌}
use Rattle.rls_rename.specs.Renaming.{old_above_inverse}
use Rattle.rls_rename.proofs.Stretches.{goes_first}
use Rattle.rls_rename.proofs.gap_maps.inner_end.Goals as goal

pub returns : goal.returns
returns c =
    let a = c.args.a.now in
    let y = c.in_ok-first.field-0 in
    record { inner = goes_first (old_above_inverse a) c.one.result.first c.one.result.len y.first y.len y.some c.in_ok-first.ensures.old ∙ ap (old_above_inverse a) c.one.ensures.first }
