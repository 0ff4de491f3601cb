-- Which identifiers of a text are targets.
use Rattle.std.specs.Prelude.{◌≡◌, ℕ, ◌<◌, ◌≤◌, Bool, List, Some, slice_get}
use Rattle.rls_ident.specs.declared.tuple.Tuple.{Tuple}
use Rattle.rls_runs.specs.Entries.{has_ident}

-- each identifier between two places is one of these, or none is
abbrev pub AreMembers : Bool → List (List Tuple) → List (List Tuple) → ℕ → ℕ → Type 0
AreMembers is ts xs i j = (k : ℕ) (x : List Tuple) → i ≤ k → k < j → slice_get xs k ≡ Some x → has_ident ts x ≡ is
