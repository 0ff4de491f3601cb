use Rattle.std.proofs.Common.{◌∙◌, List, Err, IfOk, ap, refl, subst}
use Rattle.rls_seen.specs.Seen.{Seen}
use Rattle.rls_session.specs.Answering.{IsAnswered}
use Rattle.rls_session.specs.Answers.{Sitting, pointed}
use Rattle.rls_session.specs.declared.cursors.Cursor.{Cursor}
use Rattle.rls_session.specs.Desks.{sitting_of}
use Rattle.rls_session.specs.Sessions.{by_parts}
use Rattle.rls_session.proofs.Answered.{on_ok, pointed_past, pointed_there}
use Rattle.rls_session.proofs.Whole.{whole_pointed}
use Rattle.rls_session.proofs.desk.Desk.point.Goals as goal

pub returns-in-Err-Range : goal.returns-in-Err-Range
returns-in-Err-Range c =
    let s = c.self.inside in
    let d = sitting_of s.replica s.undo s.cursors s.steps s.tells in
    let e = c.in-Err-Range in
    let cause = (c.anchor_of.ensures.range e.at e.total).0 (e.is ∙ ap Err e.field-0-is) in
    record {
      answered = subst (λ (x : Sitting Seen). IfOk c.refused.result (λ reply. IsAnswered (pointed by_parts x c.args.side c.args.at c.args.number) reply.items x)) c.self.view_is
          (on_ok c.refused.result _ _ (λ reply text. pointed_past d d c.args.side c.args.at c.args.number e.at e.total reply.items cause.0 cause.1 cause.2 refl text) c.refused.ensures.text);
    }

pub returns-in_ok-put-in-Ok : goal.returns-in_ok-put-in-Ok
returns-in_ok-put-in-Ok c =
    let s = c.self.inside in
    let d = sitting_of s.replica s.undo s.cursors s.steps s.tells in
    let e = sitting_of s.replica s.undo c.put.new.self s.steps s.tells in
    record {
      answered = subst (λ (x : Sitting Seen). IfOk c.cursor.result (λ reply. IsAnswered (pointed by_parts x c.args.side c.args.at c.args.number) reply.items e)) c.self.view_is
          (on_ok c.cursor.result _ _ (λ reply text. pointed_there d e c.args.side c.args.at c.args.number c.in-Ok.anchor reply.items c.in-Ok.ensures.within c.in-Ok.ensures.anchor (ap (λ (cs : List Cursor). sitting_of s.replica s.undo cs s.steps s.tells) c.in_ok-put-in-Ok.ensures.ok) text) c.cursor.ensures.text);
    }

pub invariant_of-self : goal.invariant_of-self
invariant_of-self c = let s = c.self.inside in whole_pointed c.put.result s.replica s.undo s.cursors c.put.new.self c.in-Ok.anchor c.args.side c.args.at c.args.number c.put.ensures.ok c.put.ensures.err c.in-Ok.ensures.anchor c.self.invariant

pub invariant_of-self-in-Ok : goal.invariant_of-self-in-Ok
invariant_of-self-in-Ok c = let s = c.self.inside in whole_pointed c.put.result s.replica s.undo s.cursors c.put.new.self c.in-Ok.anchor c.args.side c.args.at c.args.number c.put.ensures.ok c.put.ensures.err c.in-Ok.ensures.anchor c.self.invariant
