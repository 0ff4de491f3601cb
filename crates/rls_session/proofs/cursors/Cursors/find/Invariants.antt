use Rattle.std.proofs.Common.{take}
use Rattle.rls_session.specs.Cursors.{AreOthers}
use Rattle.rls_session.proofs.cursors.Cursors.find.Given as goal

-- none of the first ones has the number
abbrev pub invariant-cursors : goal.invariant-cursors
invariant-cursors l = AreOthers (take l.i l.self) l.number
