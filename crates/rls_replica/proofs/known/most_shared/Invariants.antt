use Rattle.std.proofs.Common.{◌≡◌, ◌+◌, ◌<◌, ◌≤◌, ℕ, List, Some, length}
use Rattle.std.specs.Prelude.{slice_get}
use Rattle.rls_ident.specs.declared.tuple.Tuple.{Tuple}
use Rattle.rls_ident.specs.Lists.{IsIn}
use Rattle.rls_runs.specs.Runs.{joined}
use Rattle.rls_replica.proofs.known.most_shared.Given as goal

-- so many are in one of the lists
abbrev pub invariant-loop-list : goal.invariant-loop-list
invariant-loop-list l = record {
  within : l.at + l.most ≤ length l.ids;
  there : (k : ℕ) (x : List Tuple) → k < l.most → slice_get l.ids (l.at + k) ≡ Some x → IsIn x (joined l.lists);
}
