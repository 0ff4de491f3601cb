-- What is read at a place of a list.
use Rattle.std.proofs.Common.{◌≡◌, ℕ, zero, suc, ◌<◌, List, [], ◌∷◌, length, refl, arith}
use Rattle.std.specs.Prelude.{Some, slice_get}

pub get_of : {A : Type 0} (xs : List A) (k : ℕ) → k < length xs → (x : A) × (slice_get xs k ≡ Some x)
get_of [] k h = absurd (omega arith)
get_of (x ∷ xs) zero h = (x, refl)
get_of (x ∷ xs) (suc k) h = get_of xs k (omega arith)
