-- Places of nodes in increasing order of names, or of the epochs.
use Rattle.std.specs.Prelude.{◌≡◌, ℕ, zero, suc, ◌-◌, ◌<◌, ◌≤◌, List, [], ◌∷◌, Some, length, map, slice_get}
use Rattle.std.specs.declared.cmp.Ordering.{Ordering}
use Rattle.std.specs.declared.cmp.Ordering.TheVariants.{Less}
use Rattle.std.proofs.Props as below
use Rattle.rls_ident.specs.declared.epoch_name.EpochName.{EpochName}
use Rattle.rls_ident.specs.declared.epoch_name.EpochName.TheVariants.{Origin}
use Rattle.rls_ident.specs.Lists.{IsIn}
use Rattle.rls_rename.specs.Tree.{name_of}
use Rattle.rls_epoch.specs.declared.placed.Placed.{Placed}

-- the epoch of the node at a place
abbrev pub place_name : List Placed → ℕ → EpochName
place_name [] k = Origin
place_name (p ∷ ps) zero = name_of p.renaming
place_name (p ∷ ps) (suc k) = place_name ps k

-- the epochs of the nodes at these places
abbrev pub names_at : List Placed → List ℕ → List EpochName
names_at ps places = map (place_name ps) places

-- the epoch is less than each of these
abbrev pub IsBefore : (EpochName → EpochName → Ordering) → EpochName → List EpochName → Type 0
IsBefore cmp e [] = Unit {0}
IsBefore cmp e (f ∷ fs) = (cmp e f ≡ Less) × IsBefore cmp e fs

-- each is less than all later ones
abbrev pub AreRising : (EpochName → EpochName → Ordering) → List EpochName → Type 0
AreRising cmp [] = Unit {0}
AreRising cmp (e ∷ es) = IsBefore cmp e es × AreRising cmp es

-- the places of all nodes, in increasing order
pub record AreSorted (cmp : EpochName → EpochName → Ordering) (ps : List Placed) (places : List ℕ) : Type 0 where
  pub within : (k : ℕ) → IsIn k places → k < length ps
  pub rising : AreRising cmp (names_at ps places)
  pub complete : (k : ℕ) → k < length ps → ∥ IsIn k places ∥₁

-- a proof of that is as good as any other
before_prop : (cmp : EpochName → EpochName → Ordering) (e : EpochName) (es : List EpochName) → IsProp (IsBefore cmp e es)
before_prop cmp e [] = hlevel
before_prop cmp e (f ∷ es) = hlevel (below.props, before_prop cmp e es)

rising_prop : (cmp : EpochName → EpochName → Ordering) (es : List EpochName) → IsProp (AreRising cmp es)
rising_prop cmp [] = hlevel
rising_prop cmp (e ∷ es) = hlevel (below.props, before_prop cmp e es, rising_prop cmp es)

pub sorted_prop : (cmp : EpochName → EpochName → Ordering) (ps : List Placed) (places : List ℕ) → IsProp (AreSorted cmp ps places)
sorted_prop cmp ps places = hlevel (below.props, rising_prop cmp (names_at ps places))

-- the epoch before place i is less than e, and the one at it isn't
pub record IsCut (cmp : EpochName → EpochName → Ordering) (es : List EpochName) (e : EpochName) (i : ℕ) : Type 0 where
  pub in_range : i ≤ length es
  pub below : (f : EpochName) → 0 < i → slice_get es (i - 1) ≡ Some f → cmp f e ≡ Less
  pub above : (f : EpochName) → slice_get es i ≡ Some f → cmp f e ≡ Less → ⊥
