use Rattle.rls_rename.specs.Renaming.{old_above_inverse}
use Rattle.rls_rename.proofs.Lengths.{inner_less}
use Rattle.rls_rename.proofs.Stretches.{goes_first}
use Rattle.rls_rename.proofs.gap_maps.old_between_inverse.Goals as goal

pub old_below_inverse-requires : goal.old_below_inverse-requires
old_below_inverse-requires c =
    let a = c.args.a.now in
    let x = c.args.x in
    let y = c.in_ok-old_above_inverse.field-0 in
    let first = goes_first (old_above_inverse a) x.first x.len y.first y.len y.some c.in_ok-old_above_inverse.ensures.old in
    let inner = c.in_ok-inner.ensures.inner in
    record { less = rw (first, inner) (inner_less a x.first c.args.b c.len-2.ensures.ident c.len.ensures.ident c.requires.above c.requires.order c.requires.below) }
