use Rattle.rls_session.proofs.Whole.{whole_with}
use Rattle.rls_session.proofs.desk.Desk.undo_last.Goals as goal

pub invariant_of-self : goal.invariant_of-self
invariant_of-self c = let s = c.self.inside in whole_with s.replica c.undo_last.new.replica s.undo c.undo_last.new.undo s.cursors c.undo_last.ensures.names c.undo_last.ensures.undoable c.self.invariant
