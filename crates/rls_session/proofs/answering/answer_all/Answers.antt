use Rattle.std.proofs.Common.{◌≡◌, ◌++◌, ℕ, List, take, true, false, Err, Ok, Option, Some, ap, arith, inr, refl, subst, sym}
use Rattle.rls_io.specs.Device.{IsCutShort}
use Rattle.rls_session.specs.Seats.{respond, resumed_seat, seat_of, seated}
use Rattle.rls_session.specs.AsTold.{AllAnswered, Exchanged, OrderAnswered, OrderTaken}
use Rattle.rls_session.specs.Answering.{IsNext}
use Rattle.rls_session.specs.Intake.{known_come, to_come}
use Rattle.rls_session.specs.declared.answering.AnswerError.{AnswerError}
use Rattle.rls_session.specs.declared.orders.Order.{Order}
use Rattle.rls_file.specs.Stored.{AreWritable}
use Rattle.rls_session.specs.Courses.{course}
use Rattle.rls_session.specs.Sessions.{by_parts}
use Rattle.rls_session.specs.declared.draft.Draft.{Draft}
use Rattle.rls_session.proofs.AsTold.{exchanged_given, exchanged_none, exchanged_went}
use Rattle.rls_session.proofs.Drafting.{none_drafted}
use Rattle.rls_session.proofs.Exchanging.{Ordered, Replied, Way, begins, order_error, order_over, order_quit, order_store, reply_error, reply_unwritten, reply_written}
use Rattle.rls_session.proofs.Loop.{OnWay, between_full, between_near, between_part, between_prompt, cut_part, fault_of, not_sink, reply_cut, too_large_of, way_first, way_full, way_near, way_order, way_over, way_part, way_paused, way_prompt, way_quit, way_reply, way_store, written}
use Rattle.rls_session.proofs.Sent.{AreSent, sent_first, sent_over, sent_quit, sent_reply, sent_store}
use Rattle.rls_session.proofs.answering.answer_all.Goals as goal

pub loop-error-init : goal.loop-error-init
loop-error-init g c =
    let d = c.args.desk.now in
    let a = c.args.intake.now in
    let left = g.S.Source.left c.args.input.now in
    let told = g.W.Sink.told c.args.output.now in
    let none = sym c.requires.none in
    record {
      short = c.requires.short;
      ended = λ e. e;
      way = subst (λ (p : Draft). OnWay (respond by_parts) (seated d) (known_come a left) (seat_of d p) a left told told) none (way_first (respond by_parts) (seated d) a left told c.requires.fresh);
      drafted = none_drafted d c.args.draft.now c.requires.none;
      writable = λ w. w;
      sent = λ w. subst (λ (p : Draft). AreSent (seated d) (known_come a left) (seat_of d p) a left) none (sent_first (seated d) a left);
      as_told = exchanged_none g.S.Source.read_gives g.W.Sink.write_gives a.ended true c.args.input.now c.args.output.now (Way (seated d) a (AreWritable d.state) (seat_of d c.args.draft.now) a)
          (λ x o. subst (λ (p : Draft). Way (seated d) a (AreWritable d.state) (seat_of d p) a (Some x) (Some x) (Some o) (Some o)) none (begins (seated d) a (AreWritable d.state) (Some x) (Some o) c.requires.fresh));
      input_never_falls = omega arith;
      never_falls = omega arith;
    }

pub returns-in-Err-clause-part : goal.returns-in-Err-clause-part
returns-in-Err-clause-part g c =
    way_part (respond by_parts) (seated c.args.desk.now) (seat_of c.loop-error.desk c.loop-error.draft) (known_come c.args.intake.now (g.S.Source.left c.args.input.now)) c.loop-error.intake (g.S.Source.left c.loop-error.input) (g.W.Sink.told c.args.output.now) (g.W.Sink.told c.loop-error.output) c.loop-error.invariant.way

pub returns-in-Err-clause-too_large : goal.returns-in-Err-clause-too_large
returns-in-Err-clause-too_large g c = λ e.
    let full = c.in-Err.ensures.too_large (ap Err (too_large_of c.in-Err.error c.from.result c.from.ensures e)) in
    way_full (respond by_parts) (seated c.args.desk.now) (seat_of c.loop-error.desk c.loop-error.draft) (known_come c.args.intake.now (g.S.Source.left c.args.input.now)) c.loop-error.intake c.next_order.new.intake (g.S.Source.left c.loop-error.input) (g.S.Source.left c.next_order.new.input) (g.W.Sink.told c.args.output.now) (g.W.Sink.told c.loop-error.output) c.loop-error.invariant.way full.0 full.1 full.2

pub returns-in-Err-clause-prompt : goal.returns-in-Err-clause-prompt
returns-in-Err-clause-prompt g c = λ e.
    let unread = c.in-Err.ensures.unread (ap Err (fault_of c.in-Err.error c.from.result c.from.ensures e)) in
    way_prompt (respond by_parts) (resumed_seat by_parts) (seated c.args.desk.now) (seat_of c.loop-error.desk c.loop-error.draft) (known_come c.args.intake.now (g.S.Source.left c.args.input.now)) c.loop-error.intake c.next_order.new.intake (g.S.Source.left c.loop-error.input) (g.S.Source.left c.next_order.new.input) (g.W.Sink.told c.args.output.now) (g.W.Sink.told c.loop-error.output) c.loop-error.invariant.way unread.0 c.in-Err.ensures.stays_ended unread.1 unread.2

pub returns-in-Err-clause-near : goal.returns-in-Err-clause-near
returns-in-Err-clause-near g c = way_near _ _ _ _ _ _ _ _ _ c.loop-error.invariant.way (c.next_order.ensures.near c.loop-error.invariant.short)

pub returns-in-Ok-None-clause-near : goal.returns-in-Ok-None-clause-near
returns-in-Ok-None-clause-near g c = way_near _ _ _ _ _ _ _ _ _ c.loop-error.invariant.way (c.next_order.ensures.near c.loop-error.invariant.short)

pub returns-in-Quit-clause-near : goal.returns-in-Quit-clause-near
returns-in-Quit-clause-near g c = way_near _ _ _ _ _ _ _ _ _ c.loop-error.invariant.way (c.next_order.ensures.near c.loop-error.invariant.short)

pub returns-in-Quit-clause-done : goal.returns-in-Quit-clause-done
returns-in-Quit-clause-done g c = way_quit _ _ _ _ _ _ _ _ _ (way_order _ _ _ _ _ _ _ _ _ _ _ _ c.loop-error.invariant.way c.in-Ok-Some.field-0-is c.in-Ok-Some.ensures.next c.in-Ok-Some.ensures.known c.in-Ok-Some.ensures.stays_ended) c.in-Quit.is

pub returns-in-Err-reply_to-clause-part : goal.returns-in-Err-reply_to-clause-part
returns-in-Err-reply_to-clause-part g c =
    let between = way_order _ _ _ _ _ _ _ _ _ _ _ _ c.loop-error.invariant.way c.in-Ok-Some.field-0-is c.in-Ok-Some.ensures.next c.in-Ok-Some.ensures.known c.in-Ok-Some.ensures.stays_ended in
    between_part (respond by_parts) (seated c.args.desk.now) (seat_of c.loop-error.desk c.loop-error.draft) (known_come c.args.intake.now (g.S.Source.left c.args.input.now)) c.in-Ok-Some.order c.next_order.new.intake (g.S.Source.left c.next_order.new.input) (g.W.Sink.told c.args.output.now) (g.W.Sink.told c.loop-error.output) between

pub returns-in-Err-reply_to-clause-too_large : goal.returns-in-Err-reply_to-clause-too_large
returns-in-Err-reply_to-clause-too_large g c = λ e.
    let between = way_order _ _ _ _ _ _ _ _ _ _ _ _ c.loop-error.invariant.way c.in-Ok-Some.field-0-is c.in-Ok-Some.ensures.next c.in-Ok-Some.ensures.known c.in-Ok-Some.ensures.stays_ended in
    let full = c.in-Err-reply_to.ensures.too_large (ap Err (too_large_of c.in-Err-reply_to.error c.from-in-Err-reply_to.result c.from-in-Err-reply_to.ensures e)) in
    between_full (respond by_parts) (seated c.args.desk.now) (seat_of c.loop-error.desk c.loop-error.draft) (known_come c.args.intake.now (g.S.Source.left c.args.input.now)) c.in-Ok-Some.order c.next_order.new.intake c.reply_to.new.intake (g.S.Source.left c.next_order.new.input) (g.S.Source.left c.reply_to.new.input) (g.W.Sink.told c.args.output.now) (g.W.Sink.told c.loop-error.output) between full.0 full.1 full.2

pub returns-in-Err-reply_to-clause-prompt : goal.returns-in-Err-reply_to-clause-prompt
returns-in-Err-reply_to-clause-prompt g c = λ e.
    let between = way_order _ _ _ _ _ _ _ _ _ _ _ _ c.loop-error.invariant.way c.in-Ok-Some.field-0-is c.in-Ok-Some.ensures.next c.in-Ok-Some.ensures.known c.in-Ok-Some.ensures.stays_ended in
    let unread = c.in-Err-reply_to.ensures.unread (ap Err (fault_of c.in-Err-reply_to.error c.from-in-Err-reply_to.result c.from-in-Err-reply_to.ensures e)) in
    between_prompt (respond by_parts) (resumed_seat by_parts) (seated c.args.desk.now) (seat_of c.loop-error.desk c.loop-error.draft) (known_come c.args.intake.now (g.S.Source.left c.args.input.now)) c.in-Ok-Some.order c.next_order.new.intake c.reply_to.new.intake (g.S.Source.left c.next_order.new.input) (g.S.Source.left c.reply_to.new.input) (g.W.Sink.told c.args.output.now) (g.W.Sink.told c.loop-error.output) between unread.0 c.in-Err-reply_to.ensures.stays_ended unread.1 unread.2

pub returns-in-Err-reply_to-clause-near : goal.returns-in-Err-reply_to-clause-near
returns-in-Err-reply_to-clause-near g c =
    let between = way_order _ _ _ _ _ _ _ _ _ _ _ _ c.loop-error.invariant.way c.in-Ok-Some.field-0-is c.in-Ok-Some.ensures.next c.in-Ok-Some.ensures.known c.in-Ok-Some.ensures.stays_ended in
    between_near (respond by_parts) (seated c.args.desk.now) (seat_of c.loop-error.desk c.loop-error.draft) (known_come c.args.intake.now (g.S.Source.left c.args.input.now)) c.in-Ok-Some.order c.next_order.new.intake (g.S.Source.left c.next_order.new.input) (g.S.Source.left c.reply_to.new.input) (g.W.Sink.told c.args.output.now) (g.W.Sink.told c.loop-error.output) between (λ q. c.in_default.not-Quit q, λ q. c.in_default.not-Store q) (c.reply_to.ensures.near (c.in-Ok-Some.ensures.few c.loop-error.invariant.short))

pub returns-in-Err-write-clause-near : goal.returns-in-Err-write-clause-near
returns-in-Err-write-clause-near g c =
    let between = way_order _ _ _ _ _ _ _ _ _ _ _ _ c.loop-error.invariant.way c.in-Ok-Some.field-0-is c.in-Ok-Some.ensures.next c.in-Ok-Some.ensures.known c.in-Ok-Some.ensures.stays_ended in
    between_near (respond by_parts) (seated c.args.desk.now) (seat_of c.loop-error.desk c.loop-error.draft) (known_come c.args.intake.now (g.S.Source.left c.args.input.now)) c.in-Ok-Some.order c.next_order.new.intake (g.S.Source.left c.next_order.new.input) (g.S.Source.left c.reply_to.new.input) (g.W.Sink.told c.args.output.now) (g.W.Sink.told c.loop-error.output) between (λ q. c.in_default.not-Quit q, λ q. c.in_default.not-Store q) (c.reply_to.ensures.near (c.in-Ok-Some.ensures.few c.loop-error.invariant.short))

pub returns-in-Err-write-clause-cut : goal.returns-in-Err-write-clause-cut
returns-in-Err-write-clause-cut g c = λ e.
    let between = way_order _ _ _ _ _ _ _ _ _ _ _ _ c.loop-error.invariant.way c.in-Ok-Some.field-0-is c.in-Ok-Some.ensures.next c.in-Ok-Some.ensures.known c.in-Ok-Some.ensures.stays_ended in
    reply_cut (respond by_parts) (seated c.args.desk.now) (seat_of c.loop-error.desk c.loop-error.draft) (seat_of c.reply_to.new.desk c.reply_to.new.draft) (known_come c.args.intake.now (g.S.Source.left c.args.input.now)) c.in-Ok-Some.order c.in-Ok.reply.items c.next_order.new.intake c.reply_to.new.intake (g.S.Source.left c.next_order.new.input) (g.S.Source.left c.reply_to.new.input) (g.W.Sink.told c.args.output.now) (g.W.Sink.told c.loop-error.output) (g.W.Sink.told c.write.new.output) between (λ q. c.in_default.not-Quit q, λ q. c.in_default.not-Store q) c.in-Ok.ensures.reply
    (subst (IsCutShort (g.W.Sink.told c.loop-error.output) (g.W.Sink.told c.write.new.output)) c.deref.ensures.value c.in-Err-write.ensures.err)

pub returns-in-Err-write-clause-part : goal.returns-in-Err-write-clause-part
returns-in-Err-write-clause-part g c =
    cut_part (known_come c.args.intake.now (g.S.Source.left c.args.input.now)) (λ given. (course (respond by_parts) (seated c.args.desk.now) given).replies) (g.W.Sink.told c.args.output.now) (g.W.Sink.told c.write.new.output)
    (returns-in-Err-write-clause-cut g c (ap Err c.in-Err-write.ensures.error))

pub returns-in-Err-clause-cut : goal.returns-in-Err-clause-cut
returns-in-Err-clause-cut g c = λ e. absurd (not_sink c.in-Err.error c.from.result c.from.ensures e)

pub returns-in-Err-reply_to-clause-cut : goal.returns-in-Err-reply_to-clause-cut
returns-in-Err-reply_to-clause-cut g c = λ e. absurd (not_sink c.in-Err-reply_to.error c.from-in-Err-reply_to.result c.from-in-Err-reply_to.ensures e)

pub loop-error-preserved : goal.loop-error-preserved
loop-error-preserved g c =
    let ordered = exchanged_given g.S.Source.read_gives g.W.Sink.write_gives c.args.intake.now.ended c.loop-error.intake.ended true c.next_order.new.intake.ended c.args.input.now c.loop-error.input c.next_order.new.input c.args.output.now c.loop-error.output (Way (seated c.args.desk.now) c.args.intake.now (AreWritable c.args.desk.now.state) (seat_of c.loop-error.desk c.loop-error.draft) c.loop-error.intake)
    (OrderTaken (Ok c.in-Ok-Some.field-0) c.loop-error.intake c.next_order.new.intake)
    (Ordered (seated c.args.desk.now) c.args.intake.now (AreWritable c.args.desk.now.state) (seat_of c.loop-error.desk c.loop-error.draft) c.loop-error.intake c.next_order.new.intake c.in-Ok-Some.field-0)
    c.loop-error.invariant.as_told c.in-Ok-Some.ensures.given (λ x y z o n w t. record { mid = Some y; before = w; next = t }) in
    let replied = exchanged_given g.S.Source.read_gives g.W.Sink.write_gives c.args.intake.now.ended c.next_order.new.intake.ended true c.reply_to.new.intake.ended c.args.input.now c.next_order.new.input c.reply_to.new.input c.args.output.now c.loop-error.output (Ordered (seated c.args.desk.now) c.args.intake.now (AreWritable c.args.desk.now.state) (seat_of c.loop-error.desk c.loop-error.draft) c.loop-error.intake c.next_order.new.intake c.in-Ok-Some.field-0)
    (OrderAnswered (respond by_parts (seat_of c.loop-error.desk c.loop-error.draft)) c.in-Ok-Some.order (seat_of c.reply_to.new.desk c.reply_to.new.draft) (Ok c.in-Ok.reply) c.next_order.new.intake c.reply_to.new.intake)
    (Replied (seated c.args.desk.now) c.args.intake.now (AreWritable c.args.desk.now.state) (seat_of c.loop-error.desk c.loop-error.draft) (seat_of c.reply_to.new.desk c.reply_to.new.draft) c.loop-error.intake c.next_order.new.intake c.reply_to.new.intake c.in-Ok-Some.field-0 c.in-Ok-Some.order c.in-Ok.reply)
    ordered c.in-Ok.ensures.given (λ x y z o n w t. record { mid = Some y; before = w; given = t }) in
    let between = way_order _ _ _ _ _ _ _ _ _ _ _ _ c.loop-error.invariant.way c.in-Ok-Some.field-0-is c.in-Ok-Some.ensures.next c.in-Ok-Some.ensures.known c.in-Ok-Some.ensures.stays_ended in
    record {
      ended = λ e. c.in-Ok.ensures.stays_ended (c.in-Ok-Some.ensures.stays_ended (c.loop-error.invariant.ended e));
      short = c.in-Ok.ensures.few (c.in-Ok-Some.ensures.few c.loop-error.invariant.short);
      way = way_reply (respond by_parts) (seated c.args.desk.now) (seat_of c.loop-error.desk c.loop-error.draft) (seat_of c.reply_to.new.desk c.reply_to.new.draft) (known_come c.args.intake.now (g.S.Source.left c.args.input.now)) c.in-Ok-Some.order c.in-Ok.reply.items c.next_order.new.intake c.reply_to.new.intake (g.S.Source.left c.next_order.new.input) (g.S.Source.left c.reply_to.new.input) (g.W.Sink.told c.args.output.now) (g.W.Sink.told c.loop-error.output) (g.W.Sink.told c.write.new.output) between (λ q. c.in_default.not-Quit q, λ q. c.in_default.not-Store q) c.in-Ok.ensures.reply c.in-Ok.ensures.known c.in-Ok.ensures.stays_ended
          (written (g.W.Sink.told c.loop-error.output) (g.W.Sink.told c.write.new.output) c.deref.result.now c.in-Ok.reply.items c.deref.ensures.value c.in-Ok-write.ensures.ok);
      drafted = c.in-Ok.ensures.drafted;
      writable = λ w. c.in-Ok.ensures.writable (c.loop-error.invariant.writable w);
      sent = λ w. sent_reply (seated c.args.desk.now) (seat_of c.loop-error.desk c.loop-error.draft) (known_come c.args.intake.now (g.S.Source.left c.args.input.now)) c.loop-error.intake c.next_order.new.intake (g.S.Source.left c.loop-error.input) (g.S.Source.left c.next_order.new.input) (g.W.Sink.told c.args.output.now) (g.W.Sink.told c.loop-error.output) c.loop-error.invariant.way (c.loop-error.invariant.sent w) (seat_of c.reply_to.new.desk c.reply_to.new.draft) _ c.in-Ok-Some.order c.in-Ok.reply.items c.reply_to.new.intake (g.S.Source.left c.reply_to.new.input) c.in-Ok-Some.field-0-is c.in-Ok-Some.ensures.next
          c.in-Ok-Some.ensures.known (λ q. c.in_default.not-Quit q, λ q. c.in_default.not-Store q) c.in-Ok.ensures.reply (c.in-Ok.ensures.sent (c.loop-error.invariant.writable w));
      as_told = exchanged_went g.S.Source.read_gives g.W.Sink.write_gives _ true _ _ _ _ _ _ _ c.deref.result.now _ _ replied refl (c.in-Ok-write.ensures.gives)
          (λ x y o m n e w. reply_written (seated c.args.desk.now) c.args.intake.now (AreWritable c.args.desk.now.state) c.in-Ok-Some.field-0 c.in-Ok-Some.order c.in-Ok-Some.field-0-is (seat_of c.loop-error.desk c.loop-error.draft) c.loop-error.intake c.next_order.new.intake c.in-Ok-Some.ensures.stays_ended
          (λ q. c.in_default.not-Quit q, λ q. c.in_default.not-Store q) (seat_of c.reply_to.new.desk c.reply_to.new.draft) c.reply_to.new.intake c.in-Ok.ensures.stays_ended (c.in-Ok-Some.ensures.few c.loop-error.invariant.short) c.in-Ok.reply (Some x) (Some y) (Some o) (Some m) (Some n)
          (λ w. c.in-Ok.ensures.sent (c.loop-error.invariant.writable w)) (subst (λ (l : List ℕ). Some n ≡ Some (m ++ l)) c.deref.ensures.value (ap (λ (l : List ℕ). Some l) e)) w);
      input_never_falls = omega arith;
      never_falls = omega arith;
    }

pub returns-in-Ok-None-clause-sent : goal.returns-in-Ok-None-clause-sent
returns-in-Ok-None-clause-sent g c = λ w. sent_over (seated c.args.desk.now) (seat_of c.loop-error.desk c.loop-error.draft) (known_come c.args.intake.now (g.S.Source.left c.args.input.now)) c.loop-error.intake c.next_order.new.intake (g.S.Source.left c.loop-error.input) (g.S.Source.left c.next_order.new.input) (g.W.Sink.told c.args.output.now) (g.W.Sink.told c.loop-error.output) c.loop-error.invariant.way (c.loop-error.invariant.sent w) _ c.in-Ok-None.field-0-is c.in-Ok-None.ensures.next

pub returns-in-Quit-clause-sent : goal.returns-in-Quit-clause-sent
returns-in-Quit-clause-sent g c = λ w. sent_quit (seated c.args.desk.now) (seat_of c.loop-error.desk c.loop-error.draft) (known_come c.args.intake.now (g.S.Source.left c.args.input.now)) c.loop-error.intake c.next_order.new.intake (g.S.Source.left c.loop-error.input) (g.S.Source.left c.next_order.new.input) (g.W.Sink.told c.args.output.now) (g.W.Sink.told c.loop-error.output) c.loop-error.invariant.way (c.loop-error.invariant.sent w) _ c.in-Ok-Some.order c.in-Ok-Some.field-0-is c.in-Ok-Some.ensures.next c.in-Quit.is

pub returns-in-Store-clause-near : goal.returns-in-Store-clause-near
returns-in-Store-clause-near g c = way_near _ _ _ _ _ _ _ _ _ c.loop-error.invariant.way (c.next_order.ensures.near c.loop-error.invariant.short)

pub returns-in-Store-clause-done : goal.returns-in-Store-clause-done
returns-in-Store-clause-done g c = way_store _ _ _ _ _ _ _ _ _ (way_order _ _ _ _ _ _ _ _ _ _ _ _ c.loop-error.invariant.way c.in-Ok-Some.field-0-is c.in-Ok-Some.ensures.next c.in-Ok-Some.ensures.known c.in-Ok-Some.ensures.stays_ended) c.in-Store.is

pub returns-in-Store-clause-paused : goal.returns-in-Store-clause-paused
returns-in-Store-clause-paused g c = λ e.
    let between = way_order _ _ _ _ _ _ _ _ _ _ _ _ c.loop-error.invariant.way c.in-Ok-Some.field-0-is c.in-Ok-Some.ensures.next c.in-Ok-Some.ensures.known c.in-Ok-Some.ensures.stays_ended in
    way_paused (respond by_parts) (seated c.args.desk.now) (seat_of c.loop-error.desk c.loop-error.draft) (known_come c.args.intake.now (g.S.Source.left c.args.input.now)) c.in-Ok-Some.order c.next_order.new.intake (g.S.Source.left c.next_order.new.input) (g.W.Sink.told c.args.output.now) (g.W.Sink.told c.loop-error.output) between c.in-Store.is

pub returns-in-Store-clause-sent : goal.returns-in-Store-clause-sent
returns-in-Store-clause-sent g c = λ w. sent_store (seated c.args.desk.now) (seat_of c.loop-error.desk c.loop-error.draft) (known_come c.args.intake.now (g.S.Source.left c.args.input.now)) c.loop-error.intake c.next_order.new.intake (g.S.Source.left c.loop-error.input) (g.S.Source.left c.next_order.new.input) (g.W.Sink.told c.args.output.now) (g.W.Sink.told c.loop-error.output) c.loop-error.invariant.way (c.loop-error.invariant.sent w) _ c.in-Ok-Some.order c.in-Ok-Some.field-0-is c.in-Ok-Some.ensures.next c.in-Store.is

pub returns-in-Ok-None-clause-done : goal.returns-in-Ok-None-clause-done
returns-in-Ok-None-clause-done g c =
    way_over (respond by_parts) (seated c.args.desk.now) (seat_of c.loop-error.desk c.loop-error.draft) (known_come c.args.intake.now (g.S.Source.left c.args.input.now)) c.loop-error.intake c.next_order.new.intake (g.S.Source.left c.loop-error.input) (g.S.Source.left c.next_order.new.input) (g.W.Sink.told c.args.output.now) (g.W.Sink.told c.loop-error.output) c.loop-error.invariant.way
    (λ k. subst (λ (o : Option Order). IsNext (to_come c.loop-error.intake (g.S.Source.left c.loop-error.input)) o c.loop-error.intake c.next_order.new.intake (g.S.Source.left c.next_order.new.input)) c.in-Ok-None.field-0-is (c.in-Ok-None.ensures.next k))

pub returns-in-Err-clause-as_told : goal.returns-in-Err-clause-as_told
returns-in-Err-clause-as_told g c =
    exchanged_given g.S.Source.read_gives g.W.Sink.write_gives _ _ false _ _ _ _ _ _ _ _ _ c.loop-error.invariant.as_told c.in-Err.ensures.given
    (λ x y z o n w t. order_error (seated c.args.desk.now) c.args.intake.now (AreWritable c.args.desk.now.state) c.in-Err.error c.from.result (seat_of c.loop-error.desk c.loop-error.draft) c.loop-error.intake c.next_order.new.intake (Some x) (Some y) (Some z) (Some o) (Some n) c.from.ensures
    (λ e. let full = c.in-Err.ensures.too_large (ap Err e) in (full.1, full.2)) (λ e. let unread = c.in-Err.ensures.unread (ap Err e) in (unread.1, unread.2)) c.in-Err.ensures.stays_ended c.loop-error.invariant.short w t)

pub returns-in-Ok-None-clause-as_told : goal.returns-in-Ok-None-clause-as_told
returns-in-Ok-None-clause-as_told g c =
    exchanged_given g.S.Source.read_gives g.W.Sink.write_gives _ _ true _ _ _ _ _ _ _ _ _ c.loop-error.invariant.as_told c.in-Ok-None.ensures.given
    (λ x y z o n w t. order_over (seated c.args.desk.now) c.args.intake.now (AreWritable c.args.desk.now.state) c.in-Ok-None.field-0 (seat_of c.loop-error.desk c.loop-error.draft) c.loop-error.intake c.next_order.new.intake (Some x) (Some y) (Some z) (Some o) (Some n) c.in-Ok-None.field-0-is c.loop-error.invariant.short w t)

pub returns-in-Quit-clause-as_told : goal.returns-in-Quit-clause-as_told
returns-in-Quit-clause-as_told g c =
    exchanged_given g.S.Source.read_gives g.W.Sink.write_gives _ _ true _ _ _ _ _ _ _ _ _ c.loop-error.invariant.as_told c.in-Ok-Some.ensures.given
    (λ x y z o n w t. order_quit (seated c.args.desk.now) c.args.intake.now (AreWritable c.args.desk.now.state) c.in-Ok-Some.field-0 c.in-Ok-Some.order c.in-Ok-Some.field-0-is (seat_of c.loop-error.desk c.loop-error.draft) c.loop-error.intake c.next_order.new.intake c.in-Ok-Some.ensures.stays_ended
    (Some x) (Some y) (Some z) (Some o) (Some n) c.in-Quit.is c.loop-error.invariant.short w t)

pub returns-in-Store-clause-as_told : goal.returns-in-Store-clause-as_told
returns-in-Store-clause-as_told g c =
    exchanged_given g.S.Source.read_gives g.W.Sink.write_gives _ _ true _ _ _ _ _ _ _ _ _ c.loop-error.invariant.as_told c.in-Ok-Some.ensures.given
    (λ x y z o n w t. order_store (seated c.args.desk.now) c.args.intake.now (AreWritable c.args.desk.now.state) c.in-Ok-Some.field-0 c.in-Ok-Some.order c.in-Ok-Some.field-0-is (seat_of c.loop-error.desk c.loop-error.draft) c.loop-error.intake c.next_order.new.intake c.in-Ok-Some.ensures.stays_ended
    (Some x) (Some y) (Some z) (Some o) (Some n) c.in-Store.is c.loop-error.invariant.short w t)

pub returns-in-Err-reply_to-clause-as_told : goal.returns-in-Err-reply_to-clause-as_told
returns-in-Err-reply_to-clause-as_told g c =
    let ordered = exchanged_given g.S.Source.read_gives g.W.Sink.write_gives c.args.intake.now.ended c.loop-error.intake.ended true c.next_order.new.intake.ended c.args.input.now c.loop-error.input c.next_order.new.input c.args.output.now c.loop-error.output (Way (seated c.args.desk.now) c.args.intake.now (AreWritable c.args.desk.now.state) (seat_of c.loop-error.desk c.loop-error.draft) c.loop-error.intake)
    (OrderTaken (Ok c.in-Ok-Some.field-0) c.loop-error.intake c.next_order.new.intake)
    (Ordered (seated c.args.desk.now) c.args.intake.now (AreWritable c.args.desk.now.state) (seat_of c.loop-error.desk c.loop-error.draft) c.loop-error.intake c.next_order.new.intake c.in-Ok-Some.field-0)
    c.loop-error.invariant.as_told c.in-Ok-Some.ensures.given (λ x y z o n w t. record { mid = Some y; before = w; next = t }) in
    exchanged_given g.S.Source.read_gives g.W.Sink.write_gives _ _ false _ _ _ _ _ _ _ _ _ ordered c.in-Err-reply_to.ensures.given
    (λ x y z o n w t. reply_error (seated c.args.desk.now) c.args.intake.now (AreWritable c.args.desk.now.state) c.in-Ok-Some.field-0 c.in-Ok-Some.order c.in-Ok-Some.field-0-is (seat_of c.loop-error.desk c.loop-error.draft) c.loop-error.intake c.next_order.new.intake c.in-Ok-Some.ensures.stays_ended
    (λ q. c.in_default.not-Quit q, λ q. c.in_default.not-Store q) (seat_of c.reply_to.new.desk c.reply_to.new.draft) c.reply_to.new.intake c.in-Err-reply_to.ensures.stays_ended (c.in-Ok-Some.ensures.few c.loop-error.invariant.short)
    c.in-Err-reply_to.error c.from-in-Err-reply_to.result (Some x) (Some y) (Some z) (Some o) (Some n) c.from-in-Err-reply_to.ensures
    (λ e. let full = c.in-Err-reply_to.ensures.too_large (ap Err e) in (full.1, full.2)) (λ e. let unread = c.in-Err-reply_to.ensures.unread (ap Err e) in (unread.1, unread.2)) w t)

pub returns-in-Err-write-clause-as_told : goal.returns-in-Err-write-clause-as_told
returns-in-Err-write-clause-as_told g c =
    let ordered = exchanged_given g.S.Source.read_gives g.W.Sink.write_gives c.args.intake.now.ended c.loop-error.intake.ended true c.next_order.new.intake.ended c.args.input.now c.loop-error.input c.next_order.new.input c.args.output.now c.loop-error.output (Way (seated c.args.desk.now) c.args.intake.now (AreWritable c.args.desk.now.state) (seat_of c.loop-error.desk c.loop-error.draft) c.loop-error.intake)
    (OrderTaken (Ok c.in-Ok-Some.field-0) c.loop-error.intake c.next_order.new.intake)
    (Ordered (seated c.args.desk.now) c.args.intake.now (AreWritable c.args.desk.now.state) (seat_of c.loop-error.desk c.loop-error.draft) c.loop-error.intake c.next_order.new.intake c.in-Ok-Some.field-0)
    c.loop-error.invariant.as_told c.in-Ok-Some.ensures.given (λ x y z o n w t. record { mid = Some y; before = w; next = t }) in
    let replied = exchanged_given g.S.Source.read_gives g.W.Sink.write_gives c.args.intake.now.ended c.next_order.new.intake.ended true c.reply_to.new.intake.ended c.args.input.now c.next_order.new.input c.reply_to.new.input c.args.output.now c.loop-error.output (Ordered (seated c.args.desk.now) c.args.intake.now (AreWritable c.args.desk.now.state) (seat_of c.loop-error.desk c.loop-error.draft) c.loop-error.intake c.next_order.new.intake c.in-Ok-Some.field-0)
    (OrderAnswered (respond by_parts (seat_of c.loop-error.desk c.loop-error.draft)) c.in-Ok-Some.order (seat_of c.reply_to.new.desk c.reply_to.new.draft) (Ok c.in-Ok.reply) c.next_order.new.intake c.reply_to.new.intake)
    (Replied (seated c.args.desk.now) c.args.intake.now (AreWritable c.args.desk.now.state) (seat_of c.loop-error.desk c.loop-error.draft) (seat_of c.reply_to.new.desk c.reply_to.new.draft) c.loop-error.intake c.next_order.new.intake c.reply_to.new.intake c.in-Ok-Some.field-0 c.in-Ok-Some.order c.in-Ok.reply)
    ordered c.in-Ok.ensures.given (λ x y z o n w t. record { mid = Some y; before = w; given = t }) in
    let part = c.in-Err-write.ensures.gives_part in
    let bytes = c.deref.result.now in
    subst (λ (f : AnswerError). Exchanged g.S.Source.read_gives g.W.Sink.write_gives c.args.intake.now.ended false c.reply_to.new.intake.ended c.args.input.now c.reply_to.new.input c.args.output.now c.write.new.output (AllAnswered (seated c.args.desk.now) (seat_of c.reply_to.new.desk c.reply_to.new.draft) (Err f) c.args.intake.now c.reply_to.new.intake (AreWritable c.args.desk.now.state))) (sym c.in-Err-write.ensures.error)
    (exchanged_went g.S.Source.read_gives g.W.Sink.write_gives _ false _ _ _ _ _ _ _ (take part.0 bytes) _ _ replied refl (inr part.2)
    (λ x y o m n e w. reply_unwritten (seated c.args.desk.now) c.args.intake.now (AreWritable c.args.desk.now.state) c.in-Ok-Some.field-0 c.in-Ok-Some.order c.in-Ok-Some.field-0-is (seat_of c.loop-error.desk c.loop-error.draft) c.loop-error.intake c.next_order.new.intake c.in-Ok-Some.ensures.stays_ended
    (λ q. c.in_default.not-Quit q, λ q. c.in_default.not-Store q) (seat_of c.reply_to.new.desk c.reply_to.new.draft) c.reply_to.new.intake c.in-Ok.ensures.stays_ended (c.in-Ok-Some.ensures.few c.loop-error.invariant.short) c.in-Ok.reply (Some x) (Some y) (Some o) (Some m) (Some n)
    (subst (IsCutShort (Some m) (Some n)) c.deref.ensures.value (part.0, part.1, ap (λ (l : List ℕ). Some l) e)) w))
