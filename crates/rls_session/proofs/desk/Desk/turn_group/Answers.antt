use Rattle.rls_session.specs.Desks.{sitting_of}
use Rattle.rls_session.proofs.Answered.{group_answered, group_told}
use Rattle.rls_session.proofs.Whole.{whole_on}
use Rattle.rls_session.proofs.desk.Desk.turn_group.Goals as goal

pub invariant_of-self : goal.invariant_of-self
invariant_of-self c = let s = c.self.inside in whole_on s.replica c.turn-done.new.replica s.undo s.cursors c.turn-done.ensures.names c.self.invariant

pub returns-clause-answered : goal.returns-clause-answered
returns-clause-answered c =
    let s = c.self.inside in
    let t = c.turn-done.ensures in
    group_answered c.tell_turn.result (λ reply. reply.items) c.args.turn (sitting_of s.replica s.undo s.cursors s.steps s.tells) _ _ c.turn-done.new.replica c.turn-done.new.self _ c.self.view_is
    t.nothing (λ h. let d = t.stays h in (d.0, d.1)) t.exact t.refused c.tell_turn.ensures.told

pub returns-clause-changes : goal.returns-clause-changes
returns-clause-changes c =
    let s = c.self.inside in
    let t = c.turn-done.ensures in
    group_told c.tell_turn.result (λ reply. reply.items) c.args.turn (sitting_of s.replica s.undo s.cursors s.steps s.tells) _ _ _ _ c.args.changes.now.items c.turn-done.new.changes.items c.self.view_is
    t.nothing (λ h. (t.stays h).2) t.edits t.refused_edits c.tell_turn.ensures.told
