-- Jumps: for each node how deep its epoch lies, and the number of an epoch further up on its way.
use Rattle.std.specs.Prelude.{◌≡◌, ℕ, zero, suc, ◌-◌, ◌≤◌, List, ◌++◌, Option, Some, None, length, nat_eq, slice_get, if◌then◌else◌}
use Rattle.rls_ident.specs.declared.epoch_name.EpochName.{EpochName}
use Rattle.rls_rename.specs.Renaming.{Renaming}
use Rattle.rls_rename.specs.Tree.{path}
use Rattle.rls_epoch.specs.declared.jumps.Jump.{Jump}
use Rattle.rls_epoch.specs.declared.placed.Placed.{Placed}
use Rattle.rls_epoch.specs.Links.{epoch_at}
use Rattle.rls_epoch.specs.Seen.{nodes_of}

-- ---- what is true of the tree

-- how many renamings lie above the epoch with a number
abbrev pub depth_at : EpochName → List Placed → ℕ → ℕ
depth_at top ps n = length (path (nodes_of ps) (epoch_at top ps n))

-- the way up from the epoch with the first number goes over that with the second
abbrev pub IsUpFrom : EpochName → List Placed → ℕ → ℕ → Type 0
IsUpFrom top ps n m = (Xs : List Renaming) × (path (nodes_of ps) (epoch_at top ps n) ≡ path (nodes_of ps) (epoch_at top ps m) ++ Xs)

-- two epochs at one depth
pub record AreLevel (top : EpochName) (ps : List Placed) (a b : ℕ) : Type 0 where
  pub apart : a ≡ b → ⊥
  pub level : depth_at top ps a ≡ depth_at top ps b

-- ---- what the jumps say

-- the depth that a jump gives, if there is one
abbrev pub depth_given : Option Jump → ℕ
depth_given None = 0
depth_given (Some j) = j.depth

-- the number to which a jump leads
abbrev pub target_given : Option Jump → ℕ
target_given None = 0
target_given (Some j) = j.to

-- the same by the number of the epoch, of which the topmost one has no jump
abbrev pub depth_in : List Jump → ℕ → ℕ
depth_in js zero = 0
depth_in js (suc k) = depth_given (slice_get js k)

abbrev pub target_in : List Jump → ℕ → ℕ
target_in js zero = 0
target_in js (suc k) = target_given (slice_get js k)

-- how far the jump from an epoch goes
abbrev pub reach : List Jump → ℕ → ℕ
reach js n = depth_in js n - depth_in js (target_in js n)

-- where the jump from a child of this epoch leads: over two jumps that reach as far as one another, or else to the parent
abbrev pub jump_over : List Jump → ℕ → ℕ
jump_over js n = if nat_eq (reach js n) (reach js (target_in js n)) then target_in js (target_in js n) else n

-- the jump of the node at a place leads to a lesser number, which isn't deeper, and its depth is at most its number
pub record IsLow (js : List Jump) (k : ℕ) (j : Jump) : Type 0 where
  pub shallow : j.depth ≤ suc k
  pub earlier : j.to ≤ k
  pub rising : depth_in js j.to ≤ j.depth

-- so do all
abbrev pub AreLow : List Jump → Type 0
AreLow js = (k : ℕ) (j : Jump) → slice_get js k ≡ Some j → IsLow js k j

-- ---- what the jumps of a tree are

-- that of the node at a place has the depth of its epoch, and leads to one further up
pub record IsJump (top : EpochName) (ps : List Placed) (k : ℕ) (j : Jump) : Type 0 where
  pub depth_is : j.depth ≡ depth_at top ps (suc k)
  pub shallow : j.depth ≤ suc k
  pub earlier : j.to ≤ k
  pub above : IsUpFrom top ps (suc k) j.to

-- these are the jumps of the first nodes
abbrev pub AreJumps : EpochName → List Placed → List Jump → Type 0
AreJumps top ps js = (k : ℕ) (j : Jump) → slice_get js k ≡ Some j → IsJump top ps k j
