-- The numbers of epochs: 0 is that of the topmost one, and any other's is one more than the place of its node.
use Rattle.std.specs.Prelude.{◌≡◌, ℕ, zero, suc, ◌≤◌, List, [], ◌∷◌, Option, Some, slice_get}
use Rattle.std.specs.Option.{option_map}
use Rattle.rls_ident.specs.declared.epoch_name.EpochName.{EpochName}
use Rattle.rls_rename.specs.Tree.{name_of}
use Rattle.rls_epoch.specs.declared.placed.Placed.{Placed}
use Rattle.rls_epoch.specs.Sorted.{place_name}

-- the epoch with a number, if there is one
abbrev pub name_at : EpochName → List Placed → ℕ → Option EpochName
name_at top ps zero = Some top
name_at top ps (suc k) = option_map (λ p. name_of p.renaming) (slice_get ps k)

-- the same, if it is the number of an epoch
abbrev pub epoch_at : EpochName → List Placed → ℕ → EpochName
epoch_at top ps zero = top
epoch_at top ps (suc k) = place_name ps k

-- the number of the parent of the node at a place
abbrev pub up_at : List Placed → ℕ → ℕ
up_at [] k = 0
up_at (p ∷ ps) zero = p.up
up_at (p ∷ ps) (suc k) = up_at ps k

-- each parent's number is at most the place of its child
abbrev pub AreEarlier : List Placed → Type 0
AreEarlier ps = (k : ℕ) (p : Placed) → slice_get ps k ≡ Some p → p.up ≤ k

-- and is that of the parent
pub record AreLinked (top : EpochName) (ps : List Placed) : Type 0 where
  pub earlier : AreEarlier ps
  pub parents : (k : ℕ) (p : Placed) → slice_get ps k ≡ Some p → name_at top ps p.up ≡ Some p.parent
