-- What identifiers begin with.
use Rattle.std.specs.Prelude.{◌≡◌, ℕ, suc, false, List, [], ◌∷◌, take, if◌then◌else◌}
use Rattle.rls_ident.specs.declared.tuple.Tuple.{Tuple}
use Rattle.rls_ident.specs.Tuples.{tuple_eq}
use Rattle.rls_ident.specs.Identifiers.{ident_lt}

-- all tuples but the last
abbrev pub front_of : List Tuple → List Tuple
front_of [] = []
front_of (t ∷ []) = []
front_of (t ∷ (u ∷ x)) = t ∷ front_of (u ∷ x)

-- how many first tuples two lists share
abbrev pub shared : List Tuple → List Tuple → ℕ
shared [] ys = 0
shared (t ∷ xs) [] = 0
shared (t ∷ xs) (u ∷ ys) = if tuple_eq t u then suc (shared xs ys) else 0

-- the first n tuples of none of these are less than those of x
abbrev pub AboveFront : ℕ → List Tuple → List (List Tuple) → Type 0
AboveFront n x [] = Unit {0}
AboveFront n x (y ∷ ys) = (ident_lt (take n y) (take n x) ≡ false) × AboveFront n x ys

-- the first n tuples of none of these are greater than those of x
abbrev pub BelowFront : ℕ → List Tuple → List (List Tuple) → Type 0
BelowFront n x [] = Unit {0}
BelowFront n x (y ∷ ys) = (ident_lt (take n x) (take n y) ≡ false) × BelowFront n x ys
