-- The mark of one epoch as a number.
use Rattle.std.specs.Prelude.{◌≡◌, ℕ, zero, suc}
use Rattle.std.proofs.Common.{refl}
use Rattle.rls_epoch.specs.declared.mark.State.{State}
use Rattle.rls_epoch.specs.declared.mark.State.TheVariants.{Unmarked, Marked, Kept}

-- 0 if it isn't marked, 1 if it is marked and has no new place, or else its new place and 2
abbrev pub number_of : State → ℕ
number_of Unmarked = 0
number_of Marked = 1
number_of (Kept place) = suc (suc place)

-- the mark that has this number
abbrev pub state_of : ℕ → State
state_of zero = Unmarked
state_of (suc zero) = Marked
state_of (suc (suc place)) = Kept place

pub state_again : (s : State) → state_of (number_of s) ≡ s
state_again Unmarked = refl
state_again Marked = refl
state_again (Kept place) = refl
