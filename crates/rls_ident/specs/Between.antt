-- A new identifier between two.
use Rattle.std.specs.Prelude.{ℕ, ◌+◌, ◌/◌, pos, negsuc, List, [], ◌∷◌, nat_le, if◌then◌else◌, Bool, true, Option, Some, None}
use Rattle.rls_ident.specs.declared.limits.TheConstants.{GREATEST_NUMBER}
use Rattle.rls_ident.specs.declared.tuple.Tuple.{Tuple}
use Rattle.rls_ident.specs.declared.tuple.Tuple.TheVariants.{Low, At, High}
use Rattle.rls_ident.specs.Tuples.{tuple_eq, raised}
use Rattle.rls_ident.specs.Identifiers.{ident_lt}

-- the greatest position
abbrev pub last_pos : ℕ
last_pos = GREATEST_NUMBER

-- the number of the rest of the lower bound, where no tuple means that the bound is missing
abbrev pub lower_number : List Tuple → ℕ
lower_number [] = 0
lower_number (Low ∷ ts) = 0
lower_number (At p r s o ∷ ts) = p
lower_number (High ∷ ts) = last_pos

-- the number of the rest of the upper bound
abbrev pub upper_number : List Tuple → ℕ
upper_number [] = last_pos
upper_number (Low ∷ ts) = 0
upper_number (At p r s o ∷ ts) = p
upper_number (High ∷ ts) = last_pos

-- the tuple in the middle
abbrev pub middle : ℕ → ℕ → ℕ → ℕ → Tuple
middle lower upper replica seq = At ((lower + upper) / 2) replica seq (pos 0)

-- an identifier below the rest of the upper bound, where no lower bound is left
abbrev pub below : List Tuple → ℕ → ℕ → List Tuple
below [] replica seq = middle 0 last_pos replica seq ∷ []
below (t ∷ []) replica seq =
    if nat_le 2 (upper_number (t ∷ []))
    then middle 0 (upper_number (t ∷ [])) replica seq ∷ []
    else raised (negsuc 0) t ∷ middle 0 last_pos replica seq ∷ []
below (t ∷ u ∷ us) replica seq =
    if nat_le 2 (upper_number (t ∷ []))
    then middle 0 (upper_number (t ∷ [])) replica seq ∷ []
    else t ∷ below (u ∷ us) replica seq

-- what is left of the upper bound after a copied tuple
abbrev pub upper_behind : Tuple → List Tuple → List Tuple
upper_behind t [] = []
upper_behind t (u ∷ us) = if tuple_eq t u then us else []

-- an identifier between the rests of the two bounds
abbrev pub between : List Tuple → List Tuple → ℕ → ℕ → List Tuple
between [] hi replica seq = below hi replica seq
between (t ∷ ts) hi replica seq =
    if nat_le (lower_number (t ∷ []) + 2) (upper_number hi)
    then middle (lower_number (t ∷ [])) (upper_number hi) replica seq ∷ []
    else t ∷ between ts (upper_behind t hi) replica seq

-- the tuples of a bound, of which a missing one has none
abbrev pub bound_tuples : Option (List Tuple) → List Tuple
bound_tuples None = []
bound_tuples (Some x) = x

-- the lower bound is less than the upper one, where both are given
abbrev pub are_bounds : Option (List Tuple) → Option (List Tuple) → Bool
are_bounds None hi = true
are_bounds (Some x) None = true
are_bounds (Some x) (Some y) = ident_lt x y
