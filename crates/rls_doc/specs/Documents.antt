-- What a document's calls speak of.
use Rattle.std.specs.Prelude.{◌≡◌, true, false, List, [], ◌∷◌}
use Rattle.rls_ident.specs.declared.tuple.Tuple.{Tuple}
use Rattle.rls_ident.specs.Identifiers.{is_ident, ident_lt}
use Rattle.rls_runs.specs.Entries.{has_ident}

-- none of the first identifiers is one of the others
abbrev pub AreNew : List (List Tuple) → List (List Tuple) → Type 0
AreNew [] ys = Unit {0}
AreNew (x ∷ xs) ys = (has_ident ys x ≡ false) × AreNew xs ys

-- the map keeps the order of identifiers
abbrev pub KeepsOrder : (List Tuple → List Tuple) → Type 0
KeepsOrder f = (x y : List Tuple) → is_ident x ≡ true → is_ident y ≡ true → ident_lt x y ≡ true → ident_lt (f x) (f y) ≡ true
