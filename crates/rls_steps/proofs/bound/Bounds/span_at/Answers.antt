use Rattle.std.proofs.Common.{◌-◌, length, arith}
use Rattle.rls_steps.proofs.Bounded.{none_above, none_around}
use Rattle.rls_steps.proofs.bound.Bounds.span_at.Goals as goal

pub returns-then-label-self-clause-none : goal.returns-then-label-self-clause-none
returns-then-label-self-clause-none c = λ rs o. none_above rs c.args.self.now.counts.entries c.args.self.now.above (length rs) c.args.self.now.above 18446744073709551615 o.counted (omega arith)

pub returns-in-None-clause-none : goal.returns-in-None-clause-none
returns-in-None-clause-none c = λ rs o.
    none_around rs c.args.self.now.counts.entries c.args.self.now.above (length rs) c.args.label (c.args.self.now.above - 1) c.low_at-low.result o.counted c.low_at-low.ensures.bound (λ q h g. c.in-None.ensures.next q h)

pub returns-in-Some-clause-none : goal.returns-in-Some-clause-none
returns-in-Some-clause-none c = λ rs o.
    none_around rs c.args.self.now.counts.entries c.args.self.now.above (length rs) c.args.label (c.in-Some.next - 1) c.low_at-low.result o.counted c.low_at-low.ensures.bound
    (λ q h g. let w = c.in-Some.ensures.next in c.in-Some.ensures.next.1 q h (let less = w.0 in omega (arith, h, g, less)))
