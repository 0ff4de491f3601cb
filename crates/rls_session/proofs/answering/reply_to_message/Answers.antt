use Rattle.std.proofs.Common.{Ok, Some, true, false, length, ap, refl}
use Rattle.rls_io.specs.declared.reading.ReadError.TheVariants as read_error
use Rattle.rls_session.specs.Seats.{respond, seat_of}
use Rattle.rls_session.specs.Sessions.{by_parts}
use Rattle.rls_session.proofs.Found.{message_replied, bad_replied}
use Rattle.rls_session.proofs.Taking.{message_failed, message_given}
use Rattle.rls_session.proofs.answering.reply_to_message.Goals as goal

pub returns-in-Ok-clause-reply : goal.returns-in-Ok-clause-reply
returns-in-Ok-clause-reply g c =
    message_replied (respond by_parts) (seat_of c.args.desk.now c.args.draft.now) (seat_of c.take.new.desk c.take.new.draft) c.args.intake.now c.find_bytes.new.self c.use_up.new.self (g.S.Source.left c.args.input.now) (g.S.Source.left c.find_bytes.new.source) c.args.len c.waiting.result.now _ c.in-Ok.reply.items
    c.in-Ok-true.ensures.same c.in-Ok-true.ensures.used (c.in-Ok-true.ensures.there (ap Ok c.in-Ok-true.field-0-test)) c.waiting.ensures.waiting refl c.in-Ok.ensures.answered c.use_up.ensures.waiting c.use_up.ensures.used

pub returns-in-Ok-answer-clause-reply : goal.returns-in-Ok-answer-clause-reply
returns-in-Ok-answer-clause-reply g c =
    let end = c.in-Ok-false.ensures.end (ap Ok c.in-Ok-false.field-0-test) in
    bad_replied (respond by_parts) (seat_of c.args.desk.now c.args.draft.now) (seat_of c.answer.new.desk c.answer.new.draft) c.args.intake.now c.find_bytes.new.self c.use_up-in-Ok-false.new.self (g.S.Source.left c.args.input.now) (g.S.Source.left c.find_bytes.new.source) c.args.len (length c.waiting-n.result.now) c.in-Ok-answer.reply.items
    c.in-Ok-false.ensures.same c.in-Ok-false.ensures.used end.0 end.1 (ap length c.waiting-n.ensures.waiting) c.in-Ok-answer.ensures.answered c.use_up-in-Ok-false.ensures.waiting c.use_up-in-Ok-false.ensures.used (c.in-Ok-false.ensures.ended (ap Ok c.in-Ok-false.field-0-test)) c.use_up-in-Ok-false.ensures.ended

pub returns-in-Err-clause-given : goal.returns-in-Err-clause-given
returns-in-Err-clause-given g c = message_failed g.S.Source.read_gives (respond by_parts) (seat_of c.args.desk.now c.args.draft.now) c.in-Err.error c.args.len (seat_of c.args.desk.now c.args.draft.now) false c.args.intake.now c.find_bytes.new.self c.find_bytes.new.self c.args.input.now c.find_bytes.new.source
    c.in-Err.ensures.given refl (λ other. refl) c.in-Err.ensures.used c.in-Err.ensures.ahead

pub returns-in-Err-take-clause-given : goal.returns-in-Err-take-clause-given
returns-in-Err-take-clause-given g c = message_failed g.S.Source.read_gives (respond by_parts) (seat_of c.args.desk.now c.args.draft.now) read_error.OutOfMemory c.args.len (seat_of c.take.new.desk c.take.new.draft) true c.args.intake.now c.find_bytes.new.self c.find_bytes.new.self c.args.input.now c.find_bytes.new.source
    c.in-Ok-true.ensures.given refl (λ other. refl) c.in-Ok-true.ensures.used c.in-Ok-true.ensures.ahead

pub returns-in-Ok-clause-given : goal.returns-in-Ok-clause-given
returns-in-Ok-clause-given g c = message_given g.S.Source.read_gives (respond by_parts) (seat_of c.args.desk.now c.args.draft.now) c.args.len (seat_of c.take.new.desk c.take.new.draft) c.in-Ok.reply c.args.intake.now c.find_bytes.new.self c.use_up.new.self c.args.input.now c.find_bytes.new.source
    c.in-Ok-true.ensures.given c.use_up.ensures.ended
    (λ x y took. message_replied (respond by_parts) (seat_of c.args.desk.now c.args.draft.now) (seat_of c.take.new.desk c.take.new.draft) c.args.intake.now c.find_bytes.new.self c.use_up.new.self (Some x) (Some y) c.args.len c.waiting.result.now _ c.in-Ok.reply.items
    took.same c.in-Ok-true.ensures.used (c.in-Ok-true.ensures.there (ap Ok c.in-Ok-true.field-0-test)) c.waiting.ensures.waiting refl c.in-Ok.ensures.answered c.use_up.ensures.waiting c.use_up.ensures.used)
    c.in-Ok-true.ensures.ahead

pub returns-in-Err-answer-clause-given : goal.returns-in-Err-answer-clause-given
returns-in-Err-answer-clause-given g c = message_failed g.S.Source.read_gives (respond by_parts) (seat_of c.args.desk.now c.args.draft.now) read_error.OutOfMemory c.args.len (seat_of c.answer.new.desk c.answer.new.draft) true c.args.intake.now c.find_bytes.new.self c.use_up-in-Ok-false.new.self c.args.input.now c.find_bytes.new.source
    c.in-Ok-false.ensures.given c.use_up-in-Ok-false.ensures.ended (λ other. absurd (other refl)) c.in-Ok-false.ensures.used c.in-Ok-false.ensures.ahead

pub returns-in-Ok-answer-clause-given : goal.returns-in-Ok-answer-clause-given
returns-in-Ok-answer-clause-given g c =
    let end = c.in-Ok-false.ensures.end (ap Ok c.in-Ok-false.field-0-test) in
    let ended = c.in-Ok-false.ensures.ended (ap Ok c.in-Ok-false.field-0-test) in
    message_given g.S.Source.read_gives (respond by_parts) (seat_of c.args.desk.now c.args.draft.now) c.args.len (seat_of c.answer.new.desk c.answer.new.draft) c.in-Ok-answer.reply c.args.intake.now c.find_bytes.new.self c.use_up-in-Ok-false.new.self c.args.input.now c.find_bytes.new.source
    c.in-Ok-false.ensures.given c.use_up-in-Ok-false.ensures.ended
    (λ x y took. bad_replied (respond by_parts) (seat_of c.args.desk.now c.args.draft.now) (seat_of c.answer.new.desk c.answer.new.draft) c.args.intake.now c.find_bytes.new.self c.use_up-in-Ok-false.new.self (Some x) (Some y) c.args.len (length c.waiting-n.result.now) c.in-Ok-answer.reply.items
    took.same c.in-Ok-false.ensures.used end.0 (λ known. took.at_end ended) (ap length c.waiting-n.ensures.waiting) c.in-Ok-answer.ensures.answered c.use_up-in-Ok-false.ensures.waiting c.use_up-in-Ok-false.ensures.used ended c.use_up-in-Ok-false.ensures.ended)
    c.in-Ok-false.ensures.ahead
