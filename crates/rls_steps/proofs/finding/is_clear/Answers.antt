use Rattle.std.proofs.Common.{subst}
use Rattle.std.specs.Prelude.{Option}
use Rattle.rls_steps.specs.declared.interval.Interval.{Interval}
use Rattle.rls_steps.specs.Rows.{LiesBefore}
use Rattle.rls_steps.proofs.finding.is_clear.Goals as goal

pub returns-in-Some : goal.returns-in-Some
returns-in-Some c = record { clear = λ t x k b e. absurd (let none = c.is_alone.ensures.alone t x k (subst (λ (o : Option Interval). LiesBefore o x) c.in-Some.is b) e in cc) }
