use Rattle.std.proofs.Common.{sym}
use Rattle.rls_rename.proofs.GapPlaces.{gap_most}
use Rattle.rls_rename.proofs.pairing.Pairing.forward_front.Goals as goal

pub forward_gap-requires-clause-within : goal.forward_gap-requires-clause-within
forward_gap-requires-clause-within c = gap_most c.args.self.now.former c.first.result.now c.in-Err.gap (sym c.in-Err.ensures.place)
