use Rattle.std.proofs.Common.{arith}
use Rattle.rls_steps.proofs.SweptRuns.{none_needed}
use Rattle.rls_steps.proofs.sweeping.any_needed.Goals as goal

pub returns-then-at-labels : goal.returns-then-at-labels
returns-then-at-labels c = record {
  none = λ t l a b. none_needed c.args.labels.now c.args.ahead.low c.args.ahead.high c.in-Err.at l c.in-Err.ensures.position c.requires.rising (λ h. absurd (omega (arith, c.if-at-labels.true, h))) a b;
}

pub returns-then-labels-at : goal.returns-then-labels-at
returns-then-labels-at c = record {
  none = λ t l a b. none_needed c.args.labels.now c.args.ahead.low c.args.ahead.high c.in-Err.at l c.in-Err.ensures.position c.requires.rising (λ h. omega (arith, c.if-labels-at.true)) a b;
}
