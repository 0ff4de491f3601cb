-- Fronts of runs, which a map takes along as one.
use Rattle.std.specs.Prelude.{◌≡◌, ℕ, ◌+◌, ◌<◌, ◌≤◌, pos, Bool, List, Some, slice_get}
use Rattle.std.specs.declared.cmp.Ordering.TheVariants.{Less}
use Rattle.rls_ident.specs.declared.tuple.Tuple.{Tuple}
use Rattle.rls_ident.specs.Tuples.{tuple_cmp}
use Rattle.rls_ident.specs.Maps.{under}
use Rattle.rls_ident.specs.Identifiers.{shifted, ident_cmp}

-- of the n identifiers from x on, with one base and consecutive offsets, f takes the first m to those from z on, one after another
pub record GoesAlong (f : List Tuple → List Tuple) (x : List Tuple) (n : ℕ) (z : List Tuple) (m : ℕ) : Type 0 where
  pub most : m ≤ n
  pub each : (k : ℕ) → k < m → f (shifted (pos k) x) ≡ shifted (pos k) z

-- of the n identifiers from x on, with one base and consecutive offsets, the first k, of which there is one, are less than the limit
pub record CutAt (x : List Tuple) (n : ℕ) (limit : List Tuple) (k : ℕ) : Type 0 where
  pub some : 0 < k
  pub most : k ≤ n
  pub below : (j : ℕ) → j < k → ident_cmp (shifted (pos j) x) limit ≡ Less

-- the identifiers from place i on, m of them and n at most, are those from a on, with one base and consecutive offsets
pub record StandsAt (xs : List (List Tuple)) (i n : ℕ) (a : List Tuple) (m : ℕ) : Type 0 where
  pub most : m ≤ n
  pub each : (k : ℕ) → k < m → slice_get xs (i + k) ≡ Some (shifted (pos k) a)

-- of the n identifiers from x on, with one base and consecutive offsets, the first m, of which y is the first, are all under the pattern if b, and otherwise all not
pub record OnOneSide (p x : List Tuple) (n : ℕ) (b : Bool) (y : List Tuple) (m : ℕ) : Type 0 where
  pub first : y ≡ x
  pub most : m ≤ n
  pub side : (k : ℕ) → k < m → under tuple_cmp (shifted (pos k) x) p ≡ b
