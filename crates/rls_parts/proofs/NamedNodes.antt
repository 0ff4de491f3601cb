-- Epochs as parts, one after another.
use Rattle.std.proofs.Common.{◌≡◌, ℕ, ◌<◌, List, [], ◌∷◌, length, get_or, refl, sym, ap, subst, inr, Some}
use Rattle.std.specs.Prelude.{if◌then◌else◌}
use Rattle.std.proofs.lemmas.Option.{slice_get-get_or}
use Rattle.rls_ident.specs.declared.epoch_name.EpochName.{EpochName}
use Rattle.rls_ident.specs.declared.epoch_name.EpochName.TheVariants.{Origin}
use Rattle.rls_ident.specs.Lists.{IsIn}
use Rattle.rls_ident.proofs.Members.{get_in}
use Rattle.rls_rename.specs.Tree.{Node, is_of}
use Rattle.rls_epoch.specs.Seen.{node_for}
use Rattle.rls_model.specs.Parts.{node_of}

-- both words name the node of an epoch
pub node_same : (nodes : List Node) (e : EpochName) → node_of nodes e ≡ node_for nodes e
node_same [] e = refl
node_same (n ∷ nodes) e = ap (λ x. if is_of n e then Some n else x) (node_same nodes e)

-- a name after the topmost one is among the names
pub name_in : {top : EpochName} {names others : List EpochName} (i : ℕ) → names ≡ top ∷ others → i < length others → IsIn (get_or others i Origin) names
name_in {others} i all within =
    subst (λ (xs : List EpochName). IsIn (get_or others i Origin) xs) (sym all) (inr (get_in others i (get_or others i Origin) (slice_get-get_or others i Origin within)))
