-- What rules look at, whatever it is read from.
-- Why: docs/DECISIONS.md, 110.
use Rattle.std.specs.Prelude.{ℕ, Bool, List, length, sum_by}
use Rattle.rls_ident.specs.declared.tuple.Tuple.{Tuple}
use Rattle.rls_ident.specs.declared.epoch_name.EpochName.{EpochName}
use Rattle.rls_ops.specs.declared.op.Op.{Op}
use Rattle.rls_model.specs.declared.parts.Stem.{Stem}
use Rattle.rls_model.specs.Document.{idents}
use Rattle.rls_model.specs.Epochs.{greatest, greatest_within}
use Rattle.rls_model.specs.History.{History, group_of, me_of, members_of, count, row, has_left}
use Rattle.rls_model.specs.Known.{is_known}
use Rattle.rls_model.specs.RetainedEpochs.{retained, retained_renamings}
use Rattle.rls_model.specs.Stability.{unstable}
use Rattle.rls_model.specs.Stems.{stems}

-- plain values
pub record Plain : Type 0 where
  pub group : ℕ
  pub me : ℕ
  pub members : ℕ
  -- how many operations of each member were accepted
  pub vector : List ℕ
  -- the replica itself has left
  pub has_left : Bool
  pub stems : List Stem
  pub greatest : EpochName
  pub idents : List (List Tuple)
  pub unstable : List Op
  pub retained : List EpochName
  -- former identifiers below the topmost of these
  pub former : ℕ

-- and what is read of members, vectors and targets
pub record View : Type 0 where
  pub plain : Plain
  -- what each member has accepted, and whether it has left
  pub row : ℕ → List ℕ
  pub has_left : ℕ → Bool
  -- the greatest epoch within a vector
  pub due : List ℕ → EpochName
  -- whether a target is that of a live character or of an unstable deletion
  pub is_known : EpochName → List Tuple → Bool

-- of a history
abbrev pub plain_of : History → Plain
plain_of H = record {
  group = group_of H;
  me = me_of H;
  members = members_of H;
  vector = count H;
  has_left = has_left H (me_of H);
  stems = stems H;
  greatest = greatest H;
  idents = idents H;
  unstable = unstable H;
  retained = retained H;
  former = sum_by (λ R. length R.former) (retained_renamings H);
}

abbrev pub view_of : History → View
view_of H = record { plain = plain_of H; row = row H; has_left = has_left H; due = greatest_within H; is_known = is_known H }
