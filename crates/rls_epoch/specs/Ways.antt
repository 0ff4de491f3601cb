-- Ways from one epoch to another, over the nodes between them.
use Rattle.std.specs.Prelude.{◌≡◌, ℕ, suc, ◌<◌, List, [], ◌∷◌, Option, Some, None, length, slice_get}
use Rattle.rls_ident.specs.declared.tuple.Tuple.{Tuple}
use Rattle.rls_ident.specs.declared.epoch_name.EpochName.{EpochName}
use Rattle.rls_ident.specs.Identifiers.{IsIdent}
use Rattle.rls_rename.specs.Renaming.{forward, back}
use Rattle.rls_rename.specs.Tree.{translate}
use Rattle.rls_epoch.specs.declared.placed.Placed.{Placed}
use Rattle.rls_epoch.specs.Links.{up_at}
use Rattle.rls_epoch.specs.Seen.{nodes_of}
use Rattle.rls_epoch.specs.declared.ways.Step.{Step}
use Rattle.rls_epoch.specs.declared.ways.Step.TheVariants.{Back, Forward}

-- from one number up or down over these steps to another
abbrev pub Leads : List Placed → ℕ → List Step → ℕ → Type 0
Leads ps n [] m = n ≡ m
Leads ps n (Back k ∷ steps) m = (k < length ps) × (n ≡ suc k) × Leads ps (up_at ps k) steps m
Leads ps n (Forward k ∷ steps) m = (k < length ps) × (up_at ps k ≡ n) × Leads ps (suc k) steps m

-- the place of the node that a step goes over
abbrev pub place_of_step : Step → ℕ
place_of_step (Back k) = k
place_of_step (Forward k) = k

-- each step goes over one of n nodes
abbrev pub AreWithin : ℕ → List Step → Type 0
AreWithin n [] = Unit {0}
AreWithin n (s ∷ steps) = (place_of_step s < n) × AreWithin n steps

-- by the node's renaming, if there is one
abbrev pub back_at : Option Placed → List Tuple → List Tuple
back_at None x = x
back_at (Some p) x = back p.renaming x

abbrev pub forward_at : Option Placed → List Tuple → List Tuple
forward_at None x = x
forward_at (Some p) x = forward p.renaming x

-- one step on
unfoldable pub step_map : List Placed → Step → List Tuple → List Tuple
step_map ps (Back k) x = back_at (slice_get ps k) x
step_map ps (Forward k) x = forward_at (slice_get ps k) x

-- all steps on
abbrev pub led : List Placed → List Step → List Tuple → List Tuple
led ps [] x = x
led ps (s ∷ steps) x = led ps steps (step_map ps s x)

-- the steps lead each identifier of the one epoch to the other
pub record IsWay (ps : List Placed) (steps : List Step) (e f : EpochName) : Type 0 where
  pub within : AreWithin (length ps) steps
  pub leads : (x : List Tuple) → IsIdent x → led ps steps x ≡ translate (nodes_of ps) e f x
