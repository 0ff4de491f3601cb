use Rattle.std.proofs.Common.{sym, subst}
use Rattle.rls_steps.specs.declared.interval.Interval.{Interval}
use Rattle.rls_steps.specs.Intervals.{IsBetween, LiesIn}
use Rattle.rls_steps.proofs.Intervals.{not_less_trans}
use Rattle.rls_steps.proofs.interval.joined.Goals as goal

pub returns-clause-own : goal.returns-clause-own
returns-clause-own c = λ x b. (not_less_trans x c.args.own.low c.in_ok-low.low b.0 c.in_ok-low.ensures.own, not_less_trans c.in_ok-high.high c.args.own.high x c.in_ok-high.ensures.own b.1)

pub returns-clause-before : goal.returns-clause-before
returns-clause-before c = λ f x b.
    let d = subst (λ o. LiesIn o x) c.in-Some.is b in
    let low = subst (λ (v : Interval). IsBetween v x) (sym c.deref.ensures) d in
    let high = subst (λ (v : Interval). IsBetween v x) (sym c.deref-2.ensures) d in
    (not_less_trans x c.deref.result.now.low c.in_ok-low.low low.0 c.in_ok-low.ensures.other, not_less_trans c.in_ok-high.high c.deref-2.result.now.high x c.in_ok-high.ensures.other high.1)
