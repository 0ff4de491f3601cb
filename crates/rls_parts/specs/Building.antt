-- The tree of epochs on the way.
use Rattle.std.specs.Prelude.{◌≡◌, ℕ, ◌<◌, ◌≤◌, Bool, true, ◌&&◌, List, [], ◌∷◌, ◌++◌, length, take, slice_index, Some, None}
use Rattle.rls_ident.specs.declared.limits.TheConstants.{IDENTIFIERS}
use Rattle.rls_ident.specs.declared.epoch_name.EpochName.TheVariants.{Of}
use Rattle.rls_ident.specs.Lists.{IsIn}
use Rattle.rls_rename.specs.Tree.{Epochs}
use Rattle.rls_model.specs.declared.parts.EpochPart.{EpochPart}
use Rattle.rls_model.specs.declared.parts.Parts.{Parts}
use Rattle.rls_parts.specs.Reading.{nodes_of, names_of}
use Rattle.rls_parts.specs.Rules.{is_new, is_opened, is_place_below, is_former_count, is_covered_by}

-- an entry after others keeps its rule, but for its order
abbrev pub opens : Parts → List EpochPart → EpochPart → Bool
opens p earlier e =
    is_new earlier e.name && is_opened p e.name && is_place_below (length earlier) e.parent
    && is_former_count (length e.former) && is_covered_by p.stems e.name (length e.former)

-- what its rule says of an entry past the first
pub record IsEntry (p : Parts) (earlier : List EpochPart) (e : EpochPart) : Type 0 where
  pub replica : ℕ
  pub seq : ℕ
  pub named : e.name ≡ Of replica seq
  pub member : replica < p.members
  pub begun : 0 < seq
  pub counted : seq ≤ slice_index p.vector replica
  pub place : ℕ
  pub parent : e.parent ≡ Some place
  pub below : place < length earlier
  pub new : IsIn e.name (names_of earlier) → ⊥
  pub some : 0 < length e.former
  pub few : length e.former ≤ IDENTIFIERS
  pub covered : is_covered_by p.stems (Of replica seq) (length e.former) ≡ true

-- each entry stands by the rule, but for the order, after the first one and those before it
abbrev pub AreEntries : Parts → EpochPart → List EpochPart → List EpochPart → Type 0
AreEntries p f fs [] = Unit {0}
AreEntries p f fs (e ∷ es) = IsEntry p (f ∷ fs) e × AreEntries p f (fs ++ e ∷ []) es

-- this is the tree of the first i entries, which keep their rule but for their order
pub record IsTreeBefore (p : Parts) (i : ℕ) (E : Epochs) : Type 0 where
  pub first : EpochPart
  pub rest : List EpochPart
  pub is : take i p.epochs ≡ first ∷ rest
  pub alone : first.parent ≡ None
  pub entries : AreEntries p first [] rest
  pub tree : E ≡ record { top = first.name; nodes = nodes_of (first ∷ rest) }
