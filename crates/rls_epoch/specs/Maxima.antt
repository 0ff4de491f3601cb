-- Maxima: the greatest of the epochs that a member opened up to one of its own, by its number.
use Rattle.std.specs.Prelude.{◌≡◌, ℕ, ◌<◌, ◌≤◌, Bool, true, false, ◌&&◌, List, length, nat_eq, nat_le, slice_index}
use Rattle.std.specs.declared.cmp.Ordering.{Ordering}
use Rattle.std.specs.declared.cmp.Ordering.TheVariants.{Less}
use Rattle.rls_ident.specs.declared.epoch_name.EpochName.{EpochName}
use Rattle.rls_ident.specs.declared.epoch_name.EpochName.TheVariants.{Origin, Of}
use Rattle.rls_epoch.specs.declared.placed.Placed.{Placed}
use Rattle.rls_epoch.specs.Climbing.{name_cmp}
use Rattle.rls_epoch.specs.Links.{epoch_at}
use Rattle.rls_epoch.specs.Sorted.{place_name}

-- whether the second epoch is of the member of the first, with its number or a lesser one
abbrev pub up_to : EpochName → EpochName → Bool
up_to Origin f = false
up_to (Of r s) Origin = false
up_to (Of r s) (Of q t) = nat_eq q r && nat_le t s

-- the epoch of the same member with the number that the vector counts
abbrev pub last_counted : List ℕ → EpochName → EpochName
last_counted v Origin = Origin
last_counted v (Of r s) = Of r (slice_index v r)

-- the epoch of the same member with the number 0
abbrev pub first_of : EpochName → EpochName
first_of Origin = Origin
first_of (Of r s) = Of r 0

-- the epoch of the node at an index of these places
abbrev pub name_in : List Placed → List ℕ → ℕ → EpochName
name_in ps places i = place_name ps (slice_index places i)

-- the greatest of the epochs up to e has this number, which is 0 if there is none
pub record IsMaximum (cmp : EpochName → EpochName → Ordering) (top : EpochName) (ps : List Placed) (e : EpochName) (n : ℕ) : Type 0 where
  pub in_range : n ≤ length ps
  pub held : 0 < n → up_to e (epoch_at top ps n) ≡ true
  pub most : (k : ℕ) → k < length ps → up_to e (place_name ps k) ≡ true → cmp (epoch_at top ps n) (place_name ps k) ≡ Less → ⊥

-- those of the names of all nodes
pub record AreMaxima (cmp : EpochName → EpochName → Ordering) (top : EpochName) (ps : List Placed) (maxima : List ℕ) : Type 0 where
  pub whole : length maxima ≡ length ps
  pub each : (k : ℕ) → k < length ps → IsMaximum cmp top ps (place_name ps k) (slice_index maxima k)

-- ---- on the way there

-- n of these places, in increasing order of names, have this name or a lesser one
pub record IsEnd (ps : List Placed) (by_name : List ℕ) (e : EpochName) (n : ℕ) : Type 0 where
  pub in_range : n ≤ length by_name
  pub below : (a : ℕ) → a < n → name_cmp e (name_in ps by_name a) ≡ Less → ⊥
  pub above : (a : ℕ) → n ≤ a → a < length by_name → name_cmp e (name_in ps by_name a) ≡ Less

-- no two elements are equal
abbrev pub AreDistinct : List ℕ → Type 0
AreDistinct xs = (a b : ℕ) → a < length xs → b < length xs → slice_index xs a ≡ slice_index xs b → a ≡ b

-- the first nodes in order of names have their maxima
pub record AreFirst (cmp : EpochName → EpochName → Ordering) (top : EpochName) (ps : List Placed) (by_name : List ℕ) (i : ℕ) (maxima : List ℕ) : Type 0 where
  pub whole : length maxima ≡ length ps
  pub first : (a : ℕ) → a < i → a < length by_name → IsMaximum cmp top ps (name_in ps by_name a) (slice_index maxima (slice_index by_name a))
