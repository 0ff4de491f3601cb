-- Where an identifier stands in a strictly increasing list of identifiers.
use Rattle.std.specs.Prelude.{ℕ, suc, min, Bool, true, false, List, [], ◌∷◌, Option, Some, None, Result, Ok, Err, if◌then◌else◌}
use Rattle.rls_ident.specs.declared.tuple.Tuple.{Tuple}
use Rattle.rls_ident.specs.Identifiers.{ident_lt, follows}
use Rattle.rls_runs.specs.Entries.{has_ident}
use Rattle.rls_runs.specs.Runs.{runs_of}

-- how many of these identifiers are less than x
abbrev pub below_count : List (List Tuple) → List Tuple → ℕ
below_count [] x = 0
below_count (y ∷ ys) x = if ident_lt y x then suc (below_count ys x) else below_count ys x

-- the same as `place_of` of a strictly increasing list, by a test and a count: the place of x, or where it isn't there the number of identifiers less than it
abbrev pub find_ident : List (List Tuple) → List Tuple → Result ℕ ℕ
find_ident xs x = if has_ident xs x then Ok (below_count xs x) else Err (below_count xs x)

-- the last of these identifiers, if there is one
abbrev pub last_ident : List (List Tuple) → Option (List Tuple)
last_ident [] = None
last_ident (x ∷ []) = Some x
last_ident (x ∷ (y ∷ ys)) = last_ident (y ∷ ys)

-- x is above the identifier before it, where there is one
abbrev pub is_above : Option (List Tuple) → List Tuple → Bool
is_above None x = true
is_above (Some before) x = ident_lt before x

-- x has the base of the identifier before it and the next offset
abbrev pub touches : Option (List Tuple) → List Tuple → Bool
touches None x = false
touches (Some before) x = follows x before

-- how many identifiers the first of these runs has, or 0 if there is none
abbrev pub first_len : List (List Tuple × ℕ) → ℕ
first_len [] = 0
first_len (r ∷ rs) = r.1

-- how many identifiers two lists have in common from their first one on, which is the same, up to where a maximal run of either ends
abbrev pub common_len : List (List Tuple) → List (List Tuple) → ℕ
common_len xs ys = min (first_len (runs_of xs)) (first_len (runs_of ys))
