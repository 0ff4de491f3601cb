use Rattle.std.proofs.Common.{inr, refl}
use Rattle.rls_steps.proofs.finding.name_before.Goals as goal

pub returns-then-is_alone : goal.returns-then-is_alone
returns-then-is_alone c = record {
  after = λ n ms t. inr (refl, λ m k p q e. c.is_alone.ensures.alone c.if-is_alone.true m.0 k (c.in-Some-interval_before.ensures.between n m ms t p q) e);
}
