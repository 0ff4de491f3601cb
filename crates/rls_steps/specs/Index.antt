-- Names that are looked up, by identifier and by label. The newest comes first, if nothing else is said.
use Rattle.std.specs.Prelude.{◌≡◌, ℕ, suc, ◌==◌, List, [], ◌∷◌, ◌++◌, length, Option, Some, None, Result, Ok, Err, if◌then◌else◌, ◌⊎◌}
use Rattle.rls_ident.specs.declared.tuple.Tuple.{Tuple}
use Rattle.rls_ident.specs.Lists.{IsIn}
use Rattle.rls_runs.specs.Runs.{place_of}
use Rattle.rls_steps.specs.Labelled.{Names, label_of}

-- ---- names

-- an identifier is there once
abbrev pub AreApart : Names → Type 0
AreApart [] = Unit {0}
AreApart (n ∷ ns) = (label_of ns n.0 ≡ None) × AreApart ns

-- the place of a label's newest name, where the oldest has place 0
abbrev pub newest_at : Names → ℕ → Option ℕ
newest_at [] l = None
newest_at (n ∷ ns) l = if n.1 == l then Some (length ns) else newest_at ns l

-- the name at a place, and those that are older
abbrev pub tail_at : Names → ℕ → Names
tail_at [] i = []
tail_at (n ∷ ns) i = if length ns == i then n ∷ ns else tail_at ns i

-- ---- places in a text

abbrev pub place_list : Result ℕ ℕ → List ℕ
place_list (Ok at) = at ∷ []
place_list (Err at) = []

-- where identifiers of this label stand in a text of these identifiers
abbrev pub named_places : List (List Tuple) → ℕ → Names → List ℕ
named_places xs l [] = []
named_places xs l (n ∷ ns) = if n.1 == l then place_list (place_of n.0 xs) ++ named_places xs l ns else named_places xs l ns

-- and those of each of these labels
abbrev pub all_places : List (List Tuple) → List ℕ → Names → List ℕ
all_places xs [] ns = []
all_places xs (l ∷ ls) ns = named_places xs l ns ++ all_places xs ls ns

-- those from a place on
abbrev pub rest_places : List (List Tuple) → ℕ → Names → Option ℕ → List ℕ
rest_places xs l ns None = []
rest_places xs l ns (Some i) = named_places xs l (tail_at ns i)

-- a name of this label is there, or none is left
abbrev pub IsCursor : Names → ℕ → Option ℕ → Type 0
IsCursor ns l None = Unit {0}
IsCursor ns l (Some i) = (n : List Tuple × ℕ) × (ms : Names) × (tail_at ns i ≡ n ∷ ms) × (n.1 ≡ l)

-- how many names are left at most
abbrev pub cursor_rank : Option ℕ → ℕ
cursor_rank None = 0
cursor_rank (Some i) = suc i

-- ---- names that are passed over

-- the names from the one at a place on, if one is there
abbrev pub names_from : Names → Option ℕ → Names
names_from ns None = []
names_from ns (Some i) = tail_at ns i

-- none of these names stands at the place that was found, if one was
abbrev pub AreElsewhere : List (List Tuple) → Names → Option ℕ → Type 0
AreElsewhere xs ns None = Unit {0}
AreElsewhere xs ns (Some k) = (n : List Tuple × ℕ) → IsIn n ns → place_of n.0 xs ≡ Ok k → ⊥

-- after a name comes the next one of its label among those that are older, or none, where each of these that is in the text stands at the
-- place that was found
abbrev pub IsAfter : List (List Tuple) → List Tuple × ℕ → Names → Option ℕ → Option ℕ → Type 0
IsAfter xs n ms found next =
    (next ≡ newest_at ms n.1) ⊎ ((next ≡ None) × ((m : List Tuple × ℕ) (k : ℕ) → IsIn m ms → m.1 ≡ n.1 → place_of m.0 xs ≡ Ok k → found ≡ Some k))
