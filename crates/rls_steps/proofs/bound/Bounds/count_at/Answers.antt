use Rattle.std.proofs.Common.{arith}
use Rattle.rls_steps.proofs.Bounded.{none_above, none_around, none_less}
use Rattle.rls_steps.proofs.bound.Bounds.count_at.Goals as goal

pub returns-then-label-self-clause-none : goal.returns-then-label-self-clause-none
returns-then-label-self-clause-none c = λ rs o. none_above rs c.args.self.now.counts.entries c.args.self.now.above c.args.runs c.args.label c.args.label o.counted c.if-label-self.true

pub returns-clause-none : goal.returns-clause-none
returns-clause-none c = λ rs o.
    let e = c.low_at-count.result in
    none_less rs e.1 c.min.result c.args.runs e.0 c.args.label c.args.label (none_around rs c.args.self.now.counts.entries c.args.self.now.above c.args.runs c.args.label c.args.label e o.counted c.low_at-count.ensures.bound (λ q h g. absurd (omega (arith, h, g)))) c.min.ensures c.low_at-count.ensures.low (omega arith)
