use Rattle.std.proofs.Common.{List, ◌∙◌, IfOk, ap, subst}
use Rattle.rls_seen.specs.Seen.{Seen}
use Rattle.rls_changes.specs.declared.change.Change.{Change}
use Rattle.rls_changes.specs.Edits.{edit_changes}
use Rattle.rls_session.specs.Answering.{IsAnswered}
use Rattle.rls_session.specs.Answers.{Sitting, turn_edits, turn_told, turned_group, with_changes}
use Rattle.rls_session.specs.Sessions.{by_parts}
use Rattle.rls_session.proofs.Answered.{on_ok, tells_stay, turned_told}
use Rattle.rls_session.proofs.desk.Desk.turn.Goals as goal

pub returns : goal.returns
returns c =
    let b = c.begin.new.self in
    let e = c.release.new.self in
    let reply = c.in_ok-reply.reply.items in
    record {
      answered = subst (λ (x : Sitting Seen). IfOk c.tell.result (λ all. IsAnswered (turn_told by_parts c.args.turn x) all.items e)) c.begin.ensures.begun
          (on_ok c.tell.result _ _ (λ all told.
          turned_told b c.turn_group.new.self e (edit_changes (turn_edits by_parts c.args.turn b)) c.new-changes.result.items c.turn_group.new.changes.items c.release.new.changes.items (turned_group by_parts c.args.turn b) reply all.items
          c.in_ok-reply.ensures.answered (tells_stay c.args.turn b) c.new-changes.ensures.items c.in_ok-reply.ensures.changes c.in_ok-release.ensures.changes c.in_ok-release.ensures.released
          (told ∙ ap (λ (zs : List Change). with_changes e.tells zs reply) c.deref.ensures.value)) c.tell.ensures.told);
    }
