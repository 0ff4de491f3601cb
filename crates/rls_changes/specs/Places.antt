-- Where identifiers go in, and which aren't there.
use Rattle.std.specs.Prelude.{◌≡◌, ℕ, false, List, [], ◌∷◌}
use Rattle.rls_ident.specs.declared.tuple.Tuple.{Tuple}
use Rattle.rls_runs.specs.Entries.{has_ident}
use Rattle.rls_runs.specs.Places.{below_count}

-- so many of xs are below each of these
abbrev pub AreAt : ℕ → List (List Tuple) → List (List Tuple) → Type 0
AreAt g xs [] = Unit {0}
AreAt g xs (y ∷ ys) = (below_count xs y ≡ g) × AreAt g xs ys

-- none of these is there
abbrev pub AreMissing : List (List Tuple) → List (List Tuple) → Type 0
AreMissing [] xs = Unit {0}
AreMissing (y ∷ ys) xs = (has_ident xs y ≡ false) × AreMissing ys xs
