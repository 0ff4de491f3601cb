use Rattle.std.proofs.Common.{◌≡◌, ◌∙◌, ◌+◌, ℕ, List, length, sym, ap, arith, subst, true, false, Ok, Err, refl, rules, length-append}
use Rattle.std.specs.List.{position_or_len}
use Rattle.rls_io.specs.declared.reading.ReadError.TheVariants as read
use Rattle.rls_script.specs.Scripts.{is_line_feed}
use Rattle.rls_script.proofs.LineEnds.{position_or_len_le}
use Rattle.rls_stages.proofs.Kept.{keeps_on}
use Rattle.rls_session.specs.Intake.{IntakeSeen}
use Rattle.rls_session.proofs.Positions.{looked_on, looked_at, none_found}
use Rattle.rls_session.proofs.Reading.{end_kept_on}
use Rattle.rls_session.proofs.Taking.{taken_none, taken_on}
use Rattle.rls_session.proofs.intake.Intake.find_line.Goals as goal

pub overflow_add-clear : goal.overflow_add-clear
overflow_add-clear g c =
    let le = position_or_len_le is_line_feed c.loop-clear.self.waiting in
    let few = c.waiting.ensures.few in
    let e = looked_on is_line_feed c.loop-clear.self.waiting c.waiting.result.now c.split_at.result.1.now c.loop-clear.clear c.line_end-n.result c.loop-clear.invariant.in_range c.loop-clear.invariant.clear
    c.waiting.ensures.waiting c.split_at.ensures.back c.line_end-n.ensures.end in
    omega arith

pub returns-then-n-len-clause-line : goal.returns-then-n-len-clause-line
returns-then-n-len-clause-line g c =
    looked_on is_line_feed c.loop-clear.self.waiting c.waiting.result.now c.split_at.result.1.now c.loop-clear.clear c.line_end-n.result c.loop-clear.invariant.in_range c.loop-clear.invariant.clear
    c.waiting.ensures.waiting c.split_at.ensures.back c.line_end-n.ensures.end

pub returns-in-Err-clause-too_large : goal.returns-in-Err-clause-too_large
returns-in-Err-clause-too_large g c =
    let none = none_found is_line_feed c.loop-clear.self.waiting c.waiting.result.now c.split_at.result.1.now c.loop-clear.clear c.line_end-n.result (length c.split_at.result.1.now) c.loop-clear.invariant.in_range c.loop-clear.invariant.clear
    c.waiting.ensures.waiting c.split_at.ensures.back c.line_end-n.ensures.end refl c.if-n-len.false in
    λ e. let same : c.in-Err.error ≡ read.TooLarge = cc in rw (c.in-Err.ensures.err) (c.in-Err.ensures.too_large (ap Err same), none.1)

pub loop-clear-preserved : goal.loop-clear-preserved
loop-clear-preserved g c =
    let none = none_found is_line_feed c.loop-clear.self.waiting c.waiting.result.now c.split_at.result.1.now c.loop-clear.clear c.line_end-n.result (length c.split_at.result.1.now) c.loop-clear.invariant.in_range c.loop-clear.invariant.clear
    c.waiting.ensures.waiting c.split_at.ensures.back c.line_end-n.ensures.end refl c.if-n-len.false in
    let grows = c.in-Ok-true.ensures.grows in
    let longer = c.in-Ok-true.ensures.more (ap Ok c.in-Ok-true.field-0-test) in
    record {
      in_range = omega (arith, none.0, ap length grows.waiting, length-append c.loop-clear.self.waiting grows.more);
      clear = looked_at is_line_feed c.loop-clear.self.waiting c.take_more.new.self.waiting grows.more (c.loop-clear.clear + c.line_end-n.result) none.0 none.1 grows.waiting;
      same = keeps_on _ _ _ c.loop-clear.invariant.same c.in-Ok-true.ensures.same;
      used = grows.used ∙ c.loop-clear.invariant.used;
      few = c.in-Ok-true.ensures.few;
      known = end_kept_on c.args.self.now c.loop-clear.self c.take_more.new.self (g.S.Source.left c.args.source.now) (g.S.Source.left c.loop-clear.source) (g.S.Source.left c.take_more.new.source) c.loop-clear.invariant.same c.loop-clear.invariant.known c.in-Ok-true.ensures.known;
      stays_ended = λ e. c.in-Ok-true.ensures.stays_ended (c.loop-clear.invariant.stays_ended e);
      ahead = λ few. let step = c.in-Ok-true.ensures.step in omega (arith, none.0);
      given = taken_on g.S.Source.read_gives true c.args.self.now c.loop-clear.self c.take_more.new.self c.args.source.now c.loop-clear.source c.take_more.new.source c.loop-clear.invariant.given c.in-Ok-true.ensures.given;
      never_falls = omega arith;
    }

pub returns-in-Ok-false-clause-line : goal.returns-in-Ok-false-clause-line
returns-in-Ok-false-clause-line g c =
    let none = none_found is_line_feed c.loop-clear.self.waiting c.waiting.result.now c.split_at.result.1.now c.loop-clear.clear c.line_end-n.result (length c.split_at.result.1.now) c.loop-clear.invariant.in_range c.loop-clear.invariant.clear
    c.waiting.ensures.waiting c.split_at.ensures.back c.line_end-n.ensures.end refl c.if-n-len.false in
    none.0 ∙ sym none.1 ∙ ap (position_or_len is_line_feed) (sym (c.in-Ok-false.ensures.end (ap Ok c.in-Ok-false.field-0-test)).0)

pub returns-then-n-len-clause-ahead : goal.returns-then-n-len-clause-ahead
returns-then-n-len-clause-ahead g c =
    let found = returns-then-n-len-clause-line g c in
    λ few. let most = c.loop-clear.invariant.ahead few in omega arith

pub returns-in-Err-clause-none : goal.returns-in-Err-clause-none
returns-in-Err-clause-none g c =
    let none = none_found is_line_feed c.loop-clear.self.waiting c.waiting.result.now c.split_at.result.1.now c.loop-clear.clear c.line_end-n.result (length c.split_at.result.1.now) c.loop-clear.invariant.in_range c.loop-clear.invariant.clear
    c.waiting.ensures.waiting c.split_at.ensures.back c.line_end-n.ensures.end refl c.if-n-len.false in
    subst (λ (a : IntakeSeen). position_or_len is_line_feed a.waiting ≡ length a.waiting) (sym c.in-Err.ensures.err) none.1

pub returns-in-Err-clause-ahead : goal.returns-in-Err-clause-ahead
returns-in-Err-clause-ahead g c = λ few. let none = returns-in-Err-clause-none g c in omega arith

pub returns-in-Ok-false-clause-ahead : goal.returns-in-Ok-false-clause-ahead
returns-in-Ok-false-clause-ahead g c =
    let none = none_found is_line_feed c.loop-clear.self.waiting c.waiting.result.now c.split_at.result.1.now c.loop-clear.clear c.line_end-n.result (length c.split_at.result.1.now) c.loop-clear.invariant.in_range c.loop-clear.invariant.clear
    c.waiting.ensures.waiting c.split_at.ensures.back c.line_end-n.ensures.end refl c.if-n-len.false in
    let same = (c.in-Ok-false.ensures.end (ap Ok c.in-Ok-false.field-0-test)).0 in
    let all : position_or_len is_line_feed c.take_more.new.self.waiting ≡ length c.take_more.new.self.waiting = subst (λ (w : List ℕ). position_or_len is_line_feed w ≡ length w) (sym same) none.1 in
    λ few. omega arith

pub loop-clear-init : goal.loop-clear-init
loop-clear-init g c = record {
  in_range = search rules;
  clear = search rules;
  same = search rules;
  used = search rules;
  few = search rules;
  known = search rules;
  stays_ended = λ e. e;
  ahead = search rules;
  given = taken_none g.S.Source.read_gives true c.args.self.now c.args.self.now c.args.source.now refl;
  never_falls = search rules;
}

pub returns-in-Err-clause-given : goal.returns-in-Err-clause-given
returns-in-Err-clause-given g c = taken_on g.S.Source.read_gives false c.args.self.now c.loop-clear.self c.take_more.new.self c.args.source.now c.loop-clear.source c.take_more.new.source c.loop-clear.invariant.given c.in-Err.ensures.given

pub returns-in-Ok-false-clause-given : goal.returns-in-Ok-false-clause-given
returns-in-Ok-false-clause-given g c = taken_on g.S.Source.read_gives true c.args.self.now c.loop-clear.self c.take_more.new.self c.args.source.now c.loop-clear.source c.take_more.new.source c.loop-clear.invariant.given c.in-Ok-false.ensures.given
