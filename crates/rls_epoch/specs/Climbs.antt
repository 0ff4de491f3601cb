-- Ways up from two epochs, until they meet.
use Rattle.std.specs.Prelude.{◌≡◌, ℕ, List, [], ◌∷◌, ◌++◌, slice_get, Option, Some, None, IsFalse}
use Rattle.rls_ident.specs.declared.epoch_name.EpochName.{EpochName}
use Rattle.rls_ident.specs.EpochNames.{name_eq}
use Rattle.rls_rename.specs.Renaming.{Renaming}
use Rattle.rls_rename.specs.Tree.{Node, name_of, has_node, path}
use Rattle.rls_epoch.specs.declared.climb.Climb.{Climb}
use Rattle.rls_epoch.specs.declared.placed.Placed.{Placed}
use Rattle.rls_epoch.specs.Links.{epoch_at}
use Rattle.rls_epoch.specs.Seen.{nodes_of}
use Rattle.rls_epoch.specs.Sorted.{place_name}

-- what was passed begins at the child at this place
abbrev pub StartsAt : List Placed → Option ℕ → List Renaming → Type 0
StartsAt ps None Xs = Xs ≡ []
StartsAt ps (Some h) Xs = (p : Placed) × (Ys : List Renaming) × (slice_get ps h ≡ Some p) × (Xs ≡ p.renaming ∷ Ys)

-- from the epoch up to this one
abbrev pub IsAbove : EpochName → List Placed → EpochName → Climb → Type 0
IsAbove top ps e c = (Xs : List Renaming) × (path (nodes_of ps) e ≡ path (nodes_of ps) (epoch_at top ps c.at) ++ Xs) × StartsAt ps c.below Xs

-- the places of the children differ, if both ways have one
abbrev pub AreTwo : Option ℕ → Option ℕ → Type 0
AreTwo (Some h) (Some k) = h ≡ k → ⊥
AreTwo _ _ = Unit {0}

-- ---- an epoch that is to be opened

-- the node has this name, which none of these has and e hasn't
pub record IsOpened (nodes : List Node) (node : Node) (e name : EpochName) : Type 0 where
  pub named : name_of node.renaming ≡ name
  pub apart : IsFalse (name_eq name e)
  pub fresh : IsFalse (has_node nodes name)

-- the name of the child at the place, or else this one
abbrev pub below_or : List Placed → Option ℕ → EpochName → EpochName
below_or ps None name = name
below_or ps (Some k) name = place_name ps k
