-- Lists of identifiers with their characters.
use Rattle.std.specs.Prelude.{ℕ, Bool, not, List, [], ◌∷◌, map, filter, if◌then◌else◌}
use Rattle.std.specs.List.{list_any}
use Rattle.rls_ident.specs.declared.tuple.Tuple.{Tuple}
use Rattle.rls_ident.specs.Identifiers.{ident_lt, ident_eq}

-- characters, each with its identifier
abbrev pub Entries : Type 0
Entries = List (List Tuple × ℕ)

-- the identifiers
abbrev pub idents_in : Entries → List (List Tuple)
idents_in es = map (λ e. e.0) es

-- the characters
abbrev pub chars_in : Entries → List ℕ
chars_in es = map (λ e. e.1) es

-- one of these identifiers is x
abbrev pub has_ident : List (List Tuple) → List Tuple → Bool
has_ident xs x = list_any (λ y. ident_eq y x) xs

-- the list with the entry before the first one whose identifier isn't less
abbrev pub put : List Tuple × ℕ → List (List Tuple × ℕ) → List (List Tuple × ℕ)
put entry [] = entry ∷ []
put entry (x ∷ xs) = if ident_lt x.0 entry.0 then x ∷ put entry xs else entry ∷ x ∷ xs

-- the list with each of these entries put in turn
abbrev pub put_all : List (List Tuple × ℕ) → List (List Tuple × ℕ) → List (List Tuple × ℕ)
put_all [] xs = xs
put_all (entry ∷ entries) xs = put_all entries (put entry xs)

-- the entries but those of these identifiers
abbrev pub without_all : List (List Tuple) → Entries → Entries
without_all targets es = filter (λ e. not (has_ident targets e.0)) es

-- each entry with the identifier that takes its place
abbrev pub with_idents : (List Tuple → List Tuple) → Entries → Entries
with_idents f es = map (λ e. (f e.0, e.1)) es
