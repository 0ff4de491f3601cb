-- What a search of an increasing list tells.
use Rattle.std.proofs.Common.{◌≡◌, ℕ, true, false, List, Ok, Err, ◌∙◌}
use Rattle.rls_ident.specs.declared.tuple.Tuple.{Tuple}
use Rattle.rls_runs.specs.Entries.{has_ident}
use Rattle.rls_runs.specs.Places.{below_count}
use Rattle.rls_runs.specs.Runs.{is_increasing, place_of}
use Rattle.rls_runs.proofs.Gaps.{read_err, read_ok}
use Rattle.rls_runs.proofs.RunOrder.{rising_of}
use Rattle.rls_runs.proofs.RunPlaces.{found_is}

pub found_at : (xs : List (List Tuple)) (x : List Tuple) (i : ℕ) → is_increasing xs ≡ true → place_of x xs ≡ Ok i → (has_ident xs x ≡ true) × (below_count xs x ≡ i)
found_at xs x i r h = read_ok xs x i (found_is xs x (rising_of xs r) ∙ h)

pub missed_at : (xs : List (List Tuple)) (x : List Tuple) (i : ℕ) → is_increasing xs ≡ true → place_of x xs ≡ Err i → (has_ident xs x ≡ false) × (below_count xs x ≡ i)
missed_at xs x i r h = read_err xs x i (found_is xs x (rising_of xs r) ∙ h)
