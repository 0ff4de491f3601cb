-- Edits, seen by a history that the replica stands for.
use Rattle.std.specs.Prelude.{sum_by}
use Rattle.std.proofs.Common.{◌≡◌, ℕ, slice_index, List, length, map, sym, ap, ◌∙◌, subst, None}
use Rattle.rls_ident.specs.declared.tuple.Tuple.{Tuple}
use Rattle.rls_rename.specs.Connected.{spanned, spanned_renamings}
use Rattle.rls_ops.specs.Rows.{left}
use Rattle.rls_model.specs.declared.edit.Edit.{Edit}
use Rattle.rls_model.specs.Document.{idents}
use Rattle.rls_model.specs.Editing.{made, edit_fault}
use Rattle.rls_model.specs.History.{me_of, count, count_of}
use Rattle.rls_model.specs.Receiving.{State, accept}
use Rattle.rls_model.specs.WellFormed.{IsEdit}
use Rattle.rls_model.specs.Retained.{retained, retained_renamings, counts}
use Rattle.rls_model.specs.Rules as rules
use Rattle.rls_model.specs.Stability.{stable, unstable}
use Rattle.rls_model.specs.View.{plain_of}
use Rattle.rls_model.proofs.Counted.{former_window}
use Rattle.rls_model.proofs.Dropping.{needed_over, retained_same}
use Rattle.rls_model.proofs.Made as made_fits
use Rattle.rls_model.proofs.Made.{foot}
use Rattle.rls_seen.specs.Seen.{Seen, own_count, unstable_over, greatest_over, idents_over}
use Rattle.rls_seen.specs.Over.{accepted}
use Rattle.rls_seen.specs.Edits.{made_over, edit_fault_over, edited}
use Rattle.rls_seen.specs.Kept as kept
use Rattle.rls_seen.specs.Kept.{retained_over, counts_over}
use Rattle.rls_seen.specs.View.{plain}
use Rattle.rls_seen.specs.Stands.{StandsFor}
use Rattle.rls_seen.proofs.Alike.{members_alike, greatest_alike, stable_alike, unstable_alike, keeping}
use Rattle.rls_seen.proofs.Accepting.{accepted_stands}

pub idents_alike : (s : Seen) (t : State) → StandsFor s t → idents_over s ≡ idents t.history
unfolding idents
idents_alike s t h = ap (map (λ (e : List Tuple × ℕ). e.0)) h.text

pub own_alike : (s : Seen) (t : State) → StandsFor s t → own_count s ≡ count_of t.history (me_of t.history)
own_alike s t h = ap (λ v. slice_index v s.acks.me) h.vector ∙ ap (slice_index (count t.history)) h.me

-- ---- retained epochs

needed_alike : (s : Seen) (t : State) → StandsFor s t → kept.needed_over s ≡ needed_over s.epochs.top s.epochs.nodes (stable t.history) (unstable t.history)
needed_alike s t h =
    ap (λ v. needed_over s.epochs.top s.epochs.nodes v (unstable_over s)) (stable_alike s t h)
    ∙ ap (needed_over s.epochs.top s.epochs.nodes (stable t.history)) (unstable_alike s t h)

pub retained_alike : (s : Seen) (t : State) → StandsFor s t → retained_over s ≡ retained t.history
unfolding retained_over
retained_alike s t h =
    ap (spanned s.epochs.top s.epochs.nodes (greatest_over s)) (needed_alike s t h) ∙ retained_same t.history s.epochs.top s.epochs.nodes h.legal (keeping s t h)

former_alike : (s : Seen) (t : State) → StandsFor s t →
    sum_by (λ R. length R.former) (spanned_renamings s.epochs.nodes (greatest_over s) (kept.needed_over s)) ≡ sum_by (λ R. length R.former) (retained_renamings t.history)
former_alike s t h =
    ap (λ es. sum_by (λ R. length R.former) (spanned_renamings s.epochs.nodes (greatest_over s) es)) (needed_alike s t h) ∙ former_window t.history s.epochs.top s.epochs.nodes h.legal (keeping s t h)

-- ---- rules

-- the plain values
pub plain_alike : (s : Seen) (t : State) → StandsFor s t → plain s ≡ plain_of t.history
plain_alike s t h = λ i. record {
  group = h.group i;
  me = h.me i;
  members = members_alike s t h i;
  vector = h.vector i;
  has_left = (ap (left s.acks) h.me ∙ h.left (me_of t.history) (foot t.history h.legal).0) i;
  stems = h.stems i;
  greatest = greatest_alike s t h i;
  idents = idents_alike s t h i;
  unstable = unstable_alike s t h i;
  retained = retained_alike s t h i;
  former = former_alike s t h i;
}

-- the same operation is made
pub made_alike : (s : Seen) (t : State) (edit : Edit) → StandsFor s t → made_over s edit ≡ made t.history edit
unfolding made_over made
made_alike s t edit h = ap (λ v. rules.made v edit) (plain_alike s t h)

-- the same fault
pub edit_faults_alike : (s : Seen) (t : State) (edit : Edit) → StandsFor s t → edit_fault_over s edit ≡ edit_fault t.history edit
unfolding edit_fault_over edit_fault made_over made
edit_faults_alike s t edit h = ap (λ v. rules.edit_fault_of v edit (rules.made v edit)) (plain_alike s t h)

-- the same numbers
pub counts_alike : (s : Seen) (t : State) → StandsFor s t → counts_over s ≡ counts t
unfolding counts_over counts
counts_alike s t h = ap (λ v. rules.counts v s.waiting) (plain_alike s t h) ∙ ap (rules.counts (plain_of t.history)) h.waiting

-- the edit's operation is accepted by both
pub edited_stands : (s : Seen) (t : State) (edit : Edit) → IsEdit edit → edit_fault_over s edit ≡ None → StandsFor s t → StandsFor (edited s edit) (accept t (made t.history edit))
edited_stands s t edit w f h =
    let H = t.history in
    let l = made_fits.law H edit h.legal w (sym (edit_faults_alike s t edit h) ∙ f) in
    subst (λ o. StandsFor (accepted s o) (accept t (made H edit))) (sym (made_alike s t edit h)) (accepted_stands s t (made H edit) l.1 l.2 h)
