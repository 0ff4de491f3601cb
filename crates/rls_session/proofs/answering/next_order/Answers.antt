use Rattle.std.proofs.Common.{◌≡◌, ◌∙◌, ◌<◌, ℕ, List, [], length, true, false, sym, subst, arith, refl, Some}
use Rattle.std.proofs.lemmas.Bool.{eqb-true}
use Rattle.std.proofs.lemmas.List.{nil_from_length}
use Rattle.rls_io.specs.declared.reading.ReadError.TheVariants as read_error
use Rattle.rls_script.specs.Scripts.{is_line_feed}
use Rattle.rls_script.proofs.LineEnds.{is_longer, position_or_len_le}
use Rattle.rls_session.proofs.Found.{found_order, line_near}
use Rattle.rls_session.proofs.Taking.{line_failed, line_order, line_over}
use Rattle.rls_session.proofs.answering.next_order.Goals as goal

pub overflow_add-n : goal.overflow_add-n
overflow_add-n g c =
    let le = position_or_len_le is_line_feed c.find_line.new.self.waiting in
    let line = c.in-Ok.ensures.line in
    let few = c.waiting-waiting.ensures.few in
    omega arith

pub returns-in-Ok-order_of-clause-next : goal.returns-in-Ok-order_of-clause-next
returns-in-Ok-order_of-clause-next g c =
    let some : 0 < length c.find_line.new.self.waiting = subst (λ (l : List ℕ). 0 < length l) c.waiting-waiting.ensures.waiting (is_longer c.waiting-waiting.result.now (sym c.is_empty.ensures ∙ c.if-is_empty.false)) in
    found_order c.args.intake.now c.find_line.new.self c.use_up.new.self (g.S.Source.left c.args.input.now) (g.S.Source.left c.find_line.new.source) c.in-Ok.n c.min-size.result c.waiting-waiting.result.now _ c.in-Ok-order_of.order
    c.in-Ok.ensures.same c.in-Ok.ensures.used c.in-Ok.ensures.line c.in-Ok.ensures.few c.in-Ok.ensures.few_at_end c.in-Ok.ensures.end some c.waiting-waiting.ensures.waiting refl c.in-Ok-order_of.ensures.order c.min-size.ensures
    c.use_up.ensures.waiting c.use_up.ensures.used c.in-Ok.ensures.ended c.use_up.ensures.ended

pub returns-in-Err-clause-near : goal.returns-in-Err-clause-near
returns-in-Err-clause-near g c = λ few. line_near c.args.intake.now c.find_line.new.self (g.S.Source.left c.args.input.now) _ c.in-Err.ensures.same (c.in-Err.ensures.ahead few)

pub returns-in-Err-order_of-clause-near : goal.returns-in-Err-order_of-clause-near
returns-in-Err-order_of-clause-near g c = λ few. line_near c.args.intake.now c.find_line.new.self (g.S.Source.left c.args.input.now) _ c.in-Ok.ensures.same (c.in-Ok.ensures.ahead few)

pub returns-in-Ok-order_of-clause-near : goal.returns-in-Ok-order_of-clause-near
returns-in-Ok-order_of-clause-near g c = λ few. line_near c.args.intake.now c.find_line.new.self (g.S.Source.left c.args.input.now) _ c.in-Ok.ensures.same (c.in-Ok.ensures.ahead few)

pub returns-in-Err-clause-given : goal.returns-in-Err-clause-given
returns-in-Err-clause-given g c = line_failed g.S.Source.read_gives c.in-Err.error false c.args.intake.now c.find_line.new.self c.args.input.now c.find_line.new.source c.in-Err.ensures.given c.in-Err.ensures.used c.in-Err.ensures.ahead

pub returns-in-Err-order_of-clause-given : goal.returns-in-Err-order_of-clause-given
returns-in-Err-order_of-clause-given g c = line_failed g.S.Source.read_gives read_error.OutOfMemory true c.args.intake.now c.find_line.new.self c.args.input.now c.find_line.new.source c.in-Ok.ensures.given c.in-Ok.ensures.used c.in-Ok.ensures.ahead

pub returns-then-is_empty-clause-given : goal.returns-then-is_empty-clause-given
returns-then-is_empty-clause-given g c =
    let none : c.find_line.new.self.waiting ≡ [] = subst (λ (l : List ℕ). l ≡ []) c.waiting-waiting.ensures.waiting (nil_from_length c.waiting-waiting.result.now (eqb-true (length c.waiting-waiting.result.now) 0 (sym c.is_empty.ensures ∙ c.if-is_empty.true))) in
    line_over g.S.Source.read_gives c.args.intake.now c.find_line.new.self c.in-Ok.n c.args.input.now c.find_line.new.source c.in-Ok.ensures.given none c.in-Ok.ensures.line c.in-Ok.ensures.used c.in-Ok.ensures.ended c.in-Ok.ensures.few_at_end c.in-Ok.ensures.ahead

pub returns-in-Ok-order_of-clause-given : goal.returns-in-Ok-order_of-clause-given
returns-in-Ok-order_of-clause-given g c =
    let some : 0 < length c.find_line.new.self.waiting = subst (λ (l : List ℕ). 0 < length l) c.waiting-waiting.ensures.waiting (is_longer c.waiting-waiting.result.now (sym c.is_empty.ensures ∙ c.if-is_empty.false)) in
    line_order g.S.Source.read_gives c.in-Ok-order_of.order c.args.intake.now c.find_line.new.self c.use_up.new.self c.args.input.now c.find_line.new.source c.in-Ok.ensures.given c.use_up.ensures.ended
    (λ x y took. found_order c.args.intake.now c.find_line.new.self c.use_up.new.self (Some x) (Some y) c.in-Ok.n c.min-size.result c.waiting-waiting.result.now _ c.in-Ok-order_of.order
    took.same c.in-Ok.ensures.used c.in-Ok.ensures.line c.in-Ok.ensures.few c.in-Ok.ensures.few_at_end (λ all known. took.at_end (c.in-Ok.ensures.ended all)) some c.waiting-waiting.ensures.waiting refl c.in-Ok-order_of.ensures.order c.min-size.ensures
    c.use_up.ensures.waiting c.use_up.ensures.used c.in-Ok.ensures.ended c.use_up.ensures.ended)
    c.in-Ok.ensures.ahead
