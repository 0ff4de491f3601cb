use Rattle.rls_session.proofs.Whole.{whole_on}
use Rattle.rls_session.proofs.desk.Desk.rest.Goals as goal

pub invariant_of-self : goal.invariant_of-self
invariant_of-self c = let s = c.self.inside in whole_on s.replica c.release_all.new.self s.undo s.cursors c.release_all.ensures.names c.self.invariant
