-- The stems of one author, by number.
use Rattle.std.specs.Prelude.{◌≡◌, ℕ, length, slice_get, zero, suc, ◌+◌, ◌<◌, ℤ, pos, List, [], ◌∷◌, ◌==◌, nat_lt, Option, Some, None, if◌then◌else◌, IsTrue}
use Rattle.std.specs.List.{list_all}
use Rattle.std.specs.Ordering.{int_eq}
use Rattle.rls_model.specs.declared.parts.Stem.{Stem}
use Rattle.rls_parts.specs.declared.line.Reach.{Reach}

-- the author's stem that reaches so far
abbrev pub stem_at : ℕ → Reach → Stem
stem_at a r = record { author = a; s0 = r.s0; low = r.low; next = r.next }

-- the one of this number
abbrev pub reach_of : List Reach → ℕ → Option Reach
reach_of [] s = None
reach_of (r ∷ rs) s = if r.s0 == s then Some r else reach_of rs s

-- with this one in its place by number, in place of one of the same number
abbrev pub with_reach : Reach → List Reach → List Reach
with_reach new [] = new ∷ []
with_reach new (r ∷ rs) =
    if r.s0 == new.s0 then new ∷ rs
    else if nat_lt r.s0 new.s0 then r ∷ with_reach new rs
    else new ∷ r ∷ rs

-- the first n offsets of this number are used
abbrev pub begun : ℕ → ℕ → Reach
begun s n = record { s0 = s; low = pos 0; next = n }

-- n more offsets from k on are used: after the end, or else before the low
abbrev pub grown : Reach → ℤ → ℕ → Reach
grown r k n = if int_eq k (pos r.next) then record r { next = r.next + n } else record r { low = k }

-- with this one grown, where there is one
abbrev pub with_grown : Option Reach → ℤ → ℕ → List Reach → List Reach
with_grown None k n rs = rs
with_grown (Some r) k n rs = with_reach (grown r k n) rs

-- each number is below s
abbrev pub AreBelow : ℕ → List Reach → Type 0
AreBelow s rs = IsTrue (list_all (λ r. nat_lt r.s0 s) rs)

-- in increasing order of their numbers
abbrev pub AreRising : List Reach → Type 0
AreRising [] = Unit {0}
AreRising (r ∷ rs) = IsTrue (list_all (λ q. nat_lt r.s0 q.s0) rs) × AreRising rs

-- how many of the first ones have numbers below s
abbrev pub place_in : List Reach → ℕ → ℕ
place_in [] s = zero
place_in (r ∷ rs) s = if nat_lt r.s0 s then suc (place_in rs s) else zero

-- the number s is there, at this place
pub record IsPlaceOf (rs : List Reach) (s i : ℕ) : Type 0 where
  pub place : i ≡ place_in rs s
  pub within : i < length rs
  pub there : reach_of rs s ≡ slice_get rs i
