-- One renaming: forward from the former identifiers to the new ones, and back.
use Rattle.std.specs.Prelude.{ℕ, suc, ◌+◌, pos, negsuc, List, [], ◌∷◌, ◌++◌, ◌≡◌, drop}
use Rattle.std.specs.declared.cmp.Ordering.TheVariants.{Less}
use Rattle.rls_ident.specs.declared.tuple.Spot.{Spot}
use Rattle.rls_ident.specs.declared.tuple.Tuple.{Tuple}
use Rattle.rls_ident.specs.declared.tuple.Tuple.TheVariants.{Low, At, High}
use Rattle.rls_ident.specs.Tuples.{tuple_cmp, at_offset}
use Rattle.rls_ident.specs.Identifiers.{IsIdent, ident_cmp, pred}
use Rattle.rls_ident.specs.Maps.{by_order, low, high, low_inverse, high_inverse}

-- the former identifiers, and the author and the number of the rename
pub record Renaming : Type 0 where
  pub former : List (List Tuple)
  pub replica : ℕ
  pub seq : ℕ

-- a strictly increasing nonempty list of identifiers
abbrev pub IsFormer : List (List Tuple) → Type 0
IsFormer [] = ⊥
IsFormer (a ∷ []) = IsIdent a
IsFormer (a ∷ (b ∷ rest)) = IsIdent a × (ident_cmp a b ≡ Less) × IsFormer (b ∷ rest)

-- ---- the new identifiers

-- the pos of the first `At`
abbrev pub first_pos : List Tuple → ℕ
first_pos [] = 0
first_pos (Low ∷ x) = first_pos x
first_pos (At p r s o ∷ x) = p
first_pos (High ∷ x) = first_pos x

-- the pos of all new identifiers
abbrev pub new_pos : List (List Tuple) → ℕ
new_pos [] = 0
new_pos (a ∷ rest) = first_pos a

-- the tuple of the first new identifier
abbrev pub new_spot : Renaming → Spot
new_spot R = record { pos = new_pos R.former; replica = R.replica; seq = R.seq; offset = pos 0 }

-- the new identifier at place i
abbrev pub new_at : Spot → ℕ → List Tuple
new_at s i = at_offset s (pos i) ∷ []

-- the new identifiers from place i on, as many as these
abbrev pub new_from : Spot → ℕ → List (List Tuple) → List (List Tuple)
new_from s i [] = []
new_from s i (a ∷ rest) = new_at s i ∷ new_from s (suc i) rest

-- the new identifiers
abbrev pub new_idents : Renaming → List (List Tuple)
new_idents R = new_from (new_spot R) 0 R.former

-- ---- the maps of a gap: from all identifiers onto those of the gap

-- the old map below the former identifier a
abbrev pub old_below : List Tuple → List Tuple → List Tuple
old_below a y = high tuple_cmp (pred a ++ (High ∷ [])) y

-- the old map above the last former identifier a
abbrev pub old_above : List Tuple → List Tuple → List Tuple
old_above a y = low tuple_cmp (a ++ (Low ∷ [])) y

-- its inverse
abbrev pub old_above_inverse : List Tuple → List Tuple → List Tuple
old_above_inverse a x = low_inverse tuple_cmp (a ++ (Low ∷ [])) x

-- the old map between the neighbours a and b: in the gap above a, below what that gap's map takes to b
abbrev pub old_between : List Tuple → List Tuple → List Tuple → List Tuple
old_between a b y = old_above a (old_below (old_above_inverse a b) y)

-- the inverse of the map below a
abbrev pub old_below_inverse : List Tuple → List Tuple → List Tuple
old_below_inverse a x = high_inverse tuple_cmp (pred a ++ (High ∷ [])) x

-- the inverse of the map between a and b
abbrev pub old_between_inverse : List Tuple → List Tuple → List Tuple → List Tuple
old_between_inverse a b x = old_below_inverse (old_above_inverse a b) (old_above_inverse a x)

-- the new map below the first new identifier
abbrev pub new_below : Spot → List Tuple → List Tuple
new_below s y = high tuple_cmp (at_offset s (negsuc 0) ∷ []) y

-- the new map between those at the places i and i + 1
abbrev pub new_between : Spot → ℕ → List Tuple → List Tuple
new_between s i y = at_offset s (pos i) ∷ y

-- the new map above the one at the last place i
abbrev pub new_above : Spot → ℕ → List Tuple → List Tuple
new_above s i y = low tuple_cmp (new_at s i) y

-- the inverse of the map below
abbrev pub new_below_inverse : Spot → List Tuple → List Tuple
new_below_inverse s z = high_inverse tuple_cmp (at_offset s (negsuc 0) ∷ []) z

-- the inverse of the map between
abbrev pub new_between_inverse : List Tuple → List Tuple
new_between_inverse z = drop 1 z

-- the inverse of the map above
abbrev pub new_above_inverse : Spot → ℕ → List Tuple → List Tuple
new_above_inverse s i z = low_inverse tuple_cmp (new_at s i) z

-- ---- forward and back

-- forward for what stands above the former identifier a at place i, where these follow
unfoldable pub forward_above : Spot → ℕ → List Tuple → List (List Tuple) → List Tuple → List Tuple
forward_above s i a [] x = new_above s i (old_above_inverse a x)
forward_above s i a (b ∷ rest) x =
    by_order (ident_cmp x b) (new_between s i (old_between_inverse a b x)) (new_at s (i + 1)) (forward_above s (i + 1) b rest x)

-- a former identifier goes to the new one at its place; any other goes through the inverse of its gap's old map and then the new map
unfoldable pub forward_by : Spot → List (List Tuple) → List Tuple → List Tuple
forward_by s [] x = x
forward_by s (a ∷ rest) x = by_order (ident_cmp x a) (new_below s (old_below_inverse a x)) (new_at s 0) (forward_above s 0 a rest x)

-- back for what stands above the new identifier at place i
unfoldable pub back_above : Spot → ℕ → List Tuple → List (List Tuple) → List Tuple → List Tuple
back_above s i a [] z = old_above a (new_above_inverse s i z)
back_above s i a (b ∷ rest) z =
    by_order (ident_cmp z (new_at s (i + 1))) (old_between a b (new_between_inverse z)) b (back_above s (i + 1) b rest z)

-- a new identifier goes to the former one at its place; any other goes through the inverse of its gap's new map and then the old map
unfoldable pub back_by : Spot → List (List Tuple) → List Tuple → List Tuple
back_by s [] z = z
back_by s (a ∷ rest) z = by_order (ident_cmp z (new_at s 0)) (old_below a (new_below_inverse s z)) a (back_above s 0 a rest z)

-- the renaming of an identifier
unfoldable pub forward : Renaming → List Tuple → List Tuple
forward R x = forward_by (new_spot R) R.former x

-- its inverse
unfoldable pub back : Renaming → List Tuple → List Tuple
back R z = back_by (new_spot R) R.former z

-- x is none of these
abbrev pub IsNoneOf : List Tuple → List (List Tuple) → Type 0
IsNoneOf x [] = Unit {0}
IsNoneOf x (a ∷ rest) = (x ≡ a → ⊥) × IsNoneOf x rest
