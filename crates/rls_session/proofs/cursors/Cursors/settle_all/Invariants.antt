use Rattle.std.proofs.Common.{◌≡◌}
use Rattle.rls_anchor.specs.Anchors.{settled_over}
use Rattle.rls_session.proofs.Numbered.{front_moved}
use Rattle.rls_session.proofs.cursors.Cursors.settle_all.Given as goal

-- the first ones are at the greatest epoch
abbrev pub invariant-cursors : goal.invariant-cursors
invariant-cursors l = l.self-inside.all.items ≡ front_moved (settled_over l.fn.replica) l.i l.fn.self
