use Rattle.std.proofs.Common.{◌≡◌, ℕ, ◌-◌, ◌<◌, ◌≤◌, List, length, slice_get, Some, IsTrue}
use Rattle.std.specs.Prelude.{IsFalse}
use Rattle.rls_ident.specs.declared.tuple.Tuple.{Tuple}
use Rattle.rls_ident.specs.Identifiers.{ident_lt}
use Rattle.rls_runs.proofs.runs.runs_up_to.Given as goal

-- the run before low begins at the identifier or below it, and that at high above it
abbrev pub invariant-loop-low : goal.invariant-loop-low
invariant-loop-low l = record {
  order : l.low ≤ l.high;
  within : l.high ≤ length l.runs;
  below : (r : List Tuple × ℕ) → 0 < l.low → slice_get l.runs (l.low - 1) ≡ Some r → IsFalse (ident_lt l.id r.0);
  above : (r : List Tuple × ℕ) → slice_get l.runs l.high ≡ Some r → IsTrue (ident_lt l.id r.0);
}

abbrev pub decreases-loop-low : goal.decreases-loop-low
decreases-loop-low l = l.high - l.low
