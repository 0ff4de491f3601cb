-- How two lists of identifiers become one.
use Rattle.std.specs.Prelude.{◌≡◌, ℕ, ◌<◌, ◌≤◌, List, Some, length, slice_get, IsTrue}
use Rattle.rls_ident.specs.declared.tuple.Tuple.{Tuple}
use Rattle.rls_ident.specs.Identifiers.{ident_lt}
use Rattle.rls_ident.specs.Lists.{IsIn}

-- x stands from one place on and before another
abbrev pub Stands : List (List Tuple) → ℕ → ℕ → List Tuple → Type 0
Stands xs from to x = (k : ℕ) × (from ≤ k) × (k < to) × (slice_get xs k ≡ Some x)

-- each of these identifiers is less than x
abbrev pub AreBelow : List (List Tuple) → List Tuple → Type 0
AreBelow xs x = (y : List Tuple) → IsIn y xs → IsTrue (ident_lt y x)

-- so many of these identifiers are put into a list, and all of that are less than the next one
pub record IsPut (xs : List (List Tuple)) (i : ℕ) (both : List (List Tuple)) : Type 0 where
  pub within : i ≤ length xs
  pub has : (x : List Tuple) → Stands xs 0 i x → IsIn x both
  pub above : (x : List Tuple) → slice_get xs i ≡ Some x → AreBelow both x
