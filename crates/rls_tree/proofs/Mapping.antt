-- Entries with other identifiers, run by run.
use Rattle.std.proofs.Common.{◌≡◌, ℕ, List, [], ◌∷◌, map, refl, ap}
use Rattle.std.specs.Prelude.{zip}
use Rattle.rls_ident.specs.declared.tuple.Tuple.{Tuple}
use Rattle.rls_runs.specs.Entries.{with_idents}

pub zip_mapped : (f : List Tuple → List Tuple) (xs : List (List Tuple)) (cs : List ℕ) → zip (map f xs) cs ≡ with_idents f (zip xs cs)
zip_mapped f [] cs = refl
zip_mapped f (x ∷ xs) [] = refl
zip_mapped f (x ∷ xs) (c ∷ cs) = ap (λ es. (f x, c) ∷ es) (zip_mapped f xs cs)
