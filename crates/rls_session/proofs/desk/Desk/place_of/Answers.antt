use Rattle.std.proofs.Common.{◌∙◌, Err, ap}
use Rattle.rls_session.proofs.desk.Desk.place_of.Goals as goal

pub unsettled-requires : goal.unsettled-requires
unsettled-requires c = record { kept = λ e is. c.place.ensures.kept e (c.in-Err.is ∙ ap Err is) (c.self.invariant).anchored }
