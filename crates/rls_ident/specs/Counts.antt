-- The counts of a vector, whichever way they stand.
use Rattle.std.specs.Prelude.{ℕ, ◌≤◌, List, take}
use Rattle.rls_ident.specs.declared.vector.Counts.{Counts}
use Rattle.rls_ident.specs.declared.vector.Counts.TheVariants as standing

abbrev pub counts_of : Counts → List ℕ
counts_of (standing.Few few) = take few.len few.places
counts_of (standing.Many list) = list.items

-- no more counts stand in the vector itself than it has places
abbrev pub FitPlaces : Counts → Type 0
FitPlaces (standing.Few few) = few.len ≤ 4
FitPlaces (standing.Many list) = Unit {0}
