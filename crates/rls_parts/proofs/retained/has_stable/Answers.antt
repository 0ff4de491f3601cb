use Rattle.rls_parts.proofs.Faults.{name_at_place}
use Rattle.rls_parts.proofs.retained.has_stable.Goals as goal

pub within-requires : goal.within-requires
within-requires c = record { member = c.requires.members _ (name_at_place c.as_slice-list.result.now c.args.parts.now.epochs c.loop-i.i c.index-list-i.result c.as_slice-list.ensures.items c.loop-i-test.true) }
