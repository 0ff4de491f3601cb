use Rattle.std.proofs.Common.{◌≡◌, ◌+◌, ◌<◌, ◌≤◌, ℕ, List, Some, drop}
use Rattle.std.specs.Prelude.{slice_get}
use Rattle.rls_ident.specs.declared.tuple.Tuple.{Tuple}
use Rattle.rls_ident.specs.Lists.{IsIn}
use Rattle.rls_runs.specs.Runs.{joined}
use Rattle.rls_replica.proofs.known.least_clear.Given as goal

-- so many are in none of the lists in front
abbrev pub invariant-loop-list : goal.invariant-loop-list
invariant-loop-list l = record {
  within : l.least ≤ l.count;
  clear : (k : ℕ) (x : List Tuple) → k < l.least → slice_get l.ids (l.at + k) ≡ Some x → IsIn x (joined l.lists) → IsIn x (joined (drop l.list-index l.lists));
}
