use Rattle.std.proofs.Common.{is_ok, subst, sym}
use Rattle.rls_session.specs.AsTold.{Given, OrderAnswered}
use Rattle.rls_session.specs.Seats.{respond, seat_of}
use Rattle.rls_session.specs.Sessions.{by_parts}
use Rattle.rls_session.specs.declared.orders.Order.{Order}
use Rattle.rls_session.proofs.Found.{order_near, order_replied}
use Rattle.rls_session.proofs.Taking.{order_failed, order_given}
use Rattle.rls_session.proofs.answering.reply_to.Goals as goal

pub returns-in-Ok-clause-reply : goal.returns-in-Ok-clause-reply
returns-in-Ok-clause-reply g c =
    order_replied (respond by_parts) (seat_of c.args.desk.now c.args.draft.now) (seat_of c.answer.new.desk c.answer.new.draft) c.args.intake.now (g.S.Source.left c.args.input.now) c.args.order c.in-Ok.reply.items c.in_default.not-Take c.in-Ok.ensures.answered

pub returns-in-Ok-clause-near : goal.returns-in-Ok-clause-near
returns-in-Ok-clause-near g c = λ few. order_near c.args.order c.args.intake.now (g.S.Source.left c.args.input.now) few

pub returns-in-Err-clause-given : goal.returns-in-Err-clause-given
returns-in-Err-clause-given g c = order_failed g.S.Source.read_gives (respond by_parts) (seat_of c.args.desk.now c.args.draft.now) c.args.order (seat_of c.answer.new.desk c.answer.new.draft) c.args.intake.now c.args.input.now

pub returns-in-Ok-clause-given : goal.returns-in-Ok-clause-given
returns-in-Ok-clause-given g c = order_given g.S.Source.read_gives (respond by_parts) (seat_of c.args.desk.now c.args.draft.now) c.args.order (seat_of c.answer.new.desk c.answer.new.draft) c.in-Ok.reply c.args.intake.now c.args.input.now c.in_default.not-Take c.in-Ok.ensures.answered

pub returns-in-Take-clause-given : goal.returns-in-Take-clause-given
returns-in-Take-clause-given g c =
    subst (λ (o : Order). Given g.S.Source.read_gives c.args.intake.now.ended (is_ok c.reply_to_message.result) c.reply_to_message.new.intake.ended c.args.input.now c.reply_to_message.new.input
    (OrderAnswered (respond by_parts (seat_of c.args.desk.now c.args.draft.now)) o (seat_of c.reply_to_message.new.desk c.reply_to_message.new.draft) c.reply_to_message.result c.args.intake.now c.reply_to_message.new.intake))
    (sym c.in-Take.is) c.reply_to_message.ensures.given
