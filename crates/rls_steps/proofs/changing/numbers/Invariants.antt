use Rattle.std.proofs.Common.{◌≡◌}
use Rattle.rls_steps.specs.Marks.{numbers_from}
use Rattle.rls_steps.proofs.changing.numbers.Given as goal

abbrev pub invariant-numbers : goal.invariant-numbers
invariant-numbers l = l.numbers.items ≡ numbers_from l.first l.i
