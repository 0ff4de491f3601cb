use Rattle.rls_session.proofs.Whole.{whole_on}
use Rattle.rls_session.proofs.desk.Desk.take_in.Goals as goal

pub invariant_of-self : goal.invariant_of-self
invariant_of-self c = let s = c.self.inside in whole_on s.replica c.take_message.new.replica s.undo s.cursors c.take_message.ensures.names c.self.invariant
