use Rattle.std.proofs.Common.{OnOk, subst}
use Rattle.rls_seen.specs.Seen.{Seen}
use Rattle.rls_session.specs.Answers.{Sitting}
use Rattle.rls_session.specs.Requests.{Does}
use Rattle.rls_session.specs.Seats.{seat_of}
use Rattle.rls_session.specs.Sent.{SendsMessage}
use Rattle.rls_session.proofs.Answered.{on_any, on_ok}
use Rattle.rls_session.proofs.Drafting.{none_drafted, ok_gives, worked_answered}
use Rattle.rls_session.proofs.Writable.{answered_writable}
use Rattle.rls_session.proofs.seat.answer.Goals as goal

pub returns-in_ok-make-in_default : goal.returns-in_ok-make-in_default
returns-in_ok-make-in_default c =
    let d = c.make.new.desk in
    let e = c.answer.new.self in
    record {
      answered = on_ok c.answer.result _ _ (λ reply a. worked_answered (seat_of c.args.desk.now c.args.draft.now) d e c.make.new.draft c.args.order reply.items c.in_ok-make-in_default.ensures.made c.make.ensures.none c.in_default.not-Change a) c.answer.ensures.answered;
      drafted = on_any c.answer.result _ (none_drafted e c.make.new.draft c.make.ensures.none);
      writable = λ w. ok_gives c.answer.result _ _ (λ reply a. answered_writable d e c.args.order reply.items a (c.in_ok-make-in_default.ensures.writable w)) c.answer.ensures.answered;
      sent = λ w. subst (λ (x : Sitting Seen). OnOk c.answer.result (SendsMessage x (Does c.args.order))) c.in_ok-make-in_default.ensures.made (c.answer.ensures.sent (c.in_ok-make-in_default.ensures.writable w));
    }
