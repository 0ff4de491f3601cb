use Rattle.std.proofs.Common.{◌≡◌, length}
use Rattle.rls_replica.specs.declared.bounds.Edge.{Edge}
use Rattle.rls_replica.specs.Bounds.{IsBetween, number_in}
use Rattle.rls_replica.proofs.bounds.Bounds.clear.Given as goal

-- outside nothing has changed
abbrev pub invariant-loop-edge : goal.invariant-loop-edge
invariant-loop-edge l = (e : Edge) → (IsBetween l.first l.past e → ⊥) → number_in l.self.numbers.entries e ≡ number_in l.fn.self.numbers.entries e

abbrev pub decreases-loop-edge : goal.decreases-loop-edge
decreases-loop-edge l = length l.self.numbers.entries
