use Rattle.std.proofs.Common.{◌≡◌, ◌∙◌, ap, arith}
use Rattle.rls_log.specs.Latest.{excess}
use Rattle.rls_log.proofs.Bounds.{few_of}
use Rattle.rls_log.proofs.latest.Latest.uncovered.Goals as goal

pub returns-then-not-self : goal.returns-then-not-self
returns-then-not-self c = record { bound = λ os count before. omega (arith, few_of c.args.vector.now os, count) }

pub returns : goal.returns
returns c =
    let v = c.args.vector.now in
    let ns = c.args.self.now.counts.items in
    let same : excess c.deref.result.now c.counts.result.now ≡ excess ns v = ap (λ ms. excess ms c.counts.result.now) c.deref.ensures.value ∙ ap (excess ns) c.counts.ensures.counts in
    record { bound = λ os count before. omega (arith, few_of v os, count, c.ranges.count, before c.if-not-self.false v, c.excess.ensures.excess, same) }
