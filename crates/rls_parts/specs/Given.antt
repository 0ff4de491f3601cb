-- What is known of parts before their rules are tested.
use Rattle.std.specs.Prelude.{◌≡◌, ℕ, suc, ◌+◌, ◌^◌, ◌<◌, ◌≤◌, List, [], ◌∷◌, length, map, All, Some, None, IsTrue}
use Rattle.std.specs.List.{list_all}
use Rattle.rls_ident.specs.declared.limits.TheConstants.{MEMBERS}
use Rattle.rls_ident.specs.Lists.{IsIn}
use Rattle.rls_runs.specs.Runs.{AreIdents, are_apart, is_run}
use Rattle.rls_ops.specs.declared.op.Op.{Op}
use Rattle.rls_ops.specs.Rows.{HaveLength}
use Rattle.rls_ops.specs.WellFormed.{IsInRange}
use Rattle.rls_model.specs.WellFormed.{IsSmall, IsLarge, IsOp}
use Rattle.rls_model.specs.declared.parts.EpochPart.{EpochPart}
use Rattle.rls_model.specs.declared.parts.TextRun.{TextRun}
use Rattle.rls_model.specs.declared.parts.Parts.{Parts}

-- each epoch has a parent
abbrev pub HaveParents : List EpochPart → Type 0
HaveParents [] = Unit {0}
HaveParents (e ∷ es) = ((k : ℕ) × (e.parent ≡ Some k)) × HaveParents es

-- the first epoch has no parent and no former identifier, and each other has a parent
abbrev pub AreEpochParts : List EpochPart → Type 0
AreEpochParts [] = ⊥
AreEpochParts (e ∷ es) = (e.parent ≡ None) × (e.former ≡ []) × HaveParents es

-- each run has as many characters as identifiers
abbrev pub HaveTexts : List TextRun → Type 0
HaveTexts [] = Unit {0}
HaveTexts (r ∷ rs) = (length r.text ≡ r.run.1) × HaveTexts rs

-- each run is above the one before and doesn't touch it, and has as many characters as identifiers
abbrev pub AreTextRuns : List TextRun → Type 0
AreTextRuns rs = IsTrue (are_apart None (map (λ r. r.run) rs)) × HaveTexts rs

-- members in increasing order, from this number on and below n
abbrev pub AreMembersFrom : ℕ → ℕ → List ℕ → Type 0
AreMembersFrom low n [] = Unit {0}
AreMembersFrom low n (a ∷ ms) = (low ≤ a) × (a < n) × AreMembersFrom (suc a) n ms

-- parts that may be tested
pub record AreGiven (p : Parts) : Type 0 where
  pub some : 0 < p.members
  pub few : p.members ≤ MEMBERS
  pub me : p.me < p.members
  pub vector : length p.vector ≡ p.members
  -- a row for each member but the own one
  pub rows : length p.rows + 1 ≡ p.members
  pub rows_counts : HaveLength p.members p.rows
  pub log_counts : HaveLength p.members (map (λ o. o.context) p.log)
  pub held_counts : HaveLength p.members (map (λ o. o.context) p.held)
  pub epochs : AreEpochParts p.epochs
  pub epochs_few : length p.epochs < 2 ^ 32
  pub text : AreTextRuns p.text
  pub text_few : length p.text < 2 ^ 32
  pub left : AreMembersFrom 0 p.members p.left

-- their numbers, identifiers and operations are in range, as those of a file are
pub record AreRanged (p : Parts) : Type 0 where
  pub group : IsLarge p.group
  pub vector : All IsSmall p.vector
  pub former : (e : EpochPart) → IsIn e p.epochs → AreIdents e.former
  pub runs : IsTrue (list_all is_run (map (λ r. r.run) p.text))
  pub log : (o : Op) → IsIn o p.log → IsOp o
  pub held : (o : Op) → IsIn o p.held → IsOp o × IsInRange o.body
