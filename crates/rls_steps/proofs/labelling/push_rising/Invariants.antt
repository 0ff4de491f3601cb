use Rattle.std.proofs.Common.{◌≡◌, ◌++◌}
use Rattle.rls_steps.specs.Marks.{numbers_from}
use Rattle.rls_steps.proofs.labelling.push_rising.Given as goal

-- the first ones are there
abbrev pub invariant-numbers : goal.invariant-numbers
invariant-numbers l = l.numbers.items ≡ l.fn.numbers.items ++ numbers_from l.first l.i
