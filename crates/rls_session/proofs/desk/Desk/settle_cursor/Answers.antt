use Rattle.std.proofs.Common.{◌∙◌, Err, ap}
use Rattle.rls_session.proofs.Whole.{whole_settled}
use Rattle.rls_session.proofs.desk.Desk.settle_cursor.Goals as goal

pub unsettled-requires : goal.unsettled-requires
unsettled-requires c = record { kept = λ e is. c.settle.ensures.kept e (c.in-Err.is ∙ ap Err is) (c.self.invariant).anchored }

pub invariant_of-self : goal.invariant_of-self
invariant_of-self c = let s = c.self.inside in whole_settled c.settle.result s.replica s.undo s.cursors c.settle.new.self c.args.number c.settle.ensures.settled c.settle.ensures.stays c.self.invariant
