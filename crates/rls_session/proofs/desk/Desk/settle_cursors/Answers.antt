use Rattle.std.proofs.Common.{◌∙◌, Err, ap}
use Rattle.rls_session.proofs.Resumed.{whole_cursors}
use Rattle.rls_session.proofs.desk.Desk.settle_cursors.Goals as goal

pub unsettled-requires : goal.unsettled-requires
unsettled-requires c = record { kept = λ e is. c.settle_all.ensures.kept e (c.in-Err.is ∙ ap Err is) (c.self.invariant).anchored }

pub invariant_of-self : goal.invariant_of-self
invariant_of-self c = let s = c.self.inside in whole_cursors s.replica s.undo s.cursors c.settle_all.new.self c.settle_all.ensures.anchored c.self.invariant
