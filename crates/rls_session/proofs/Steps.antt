-- What is recorded of a session's steps is the same over a replica's parts and over each history that they stand for.
use Rattle.std.proofs.Common.{◌≡◌, ◌∙◌, ◌/◌, ℕ, Bool, true, false, cond, length, [], ◌∷◌, ap}
use Rattle.std.specs.Prelude.{IsTrue, nat_le}
use Rattle.rls_ident.specs.declared.epoch_name.EpochName.{EpochName}
use Rattle.rls_rename.proofs.Kept.{greatest_kept}
use Rattle.rls_model.specs.declared.edit.Edit.{Edit}
use Rattle.rls_model.specs.declared.edit.Edit.TheVariants as edits
use Rattle.rls_model.specs.Editing.{made}
use Rattle.rls_model.specs.Receiving.{State, accept}
use Rattle.rls_seen.specs.Edits.{edited, made_over}
use Rattle.rls_seen.specs.Seen.{Seen, greatest_over, idents_over}
use Rattle.rls_seen.specs.Stands.{StandsFor}
use Rattle.rls_seen.proofs.Alike.{greatest_alike}
use Rattle.rls_replica.specs.Names.{KeepsNames, keeps}
use Rattle.rls_replica.proofs.KeptNames.{accepted_names}
use Rattle.rls_steps.specs.Forgetting.{lightened, without_first, without_overfull}
use Rattle.rls_steps.specs.Grounds.{over, within, begun_on, epoch_or, recorded_on, kept_on, settled_on}
use Rattle.rls_steps.specs.GroundLaws as steps
use Rattle.rls_steps.specs.Labelled.{Names}
use Rattle.rls_steps.specs.Recorded.{Recorded}
use Rattle.rls_steps.specs.Sweeping.{swept}
use Rattle.rls_steps.proofs.Agreeing.{kept_alike, recorded_alike, settled_to}
use Rattle.rls_session.specs.declared.desk.TheConstants.{KEPT_STEPS, KEPT_CHARACTERS}
use Rattle.rls_session.specs.Desks.{AreKept}

are_kept : (s : Seen) (e : EpochName) (ns : Names) → IsTrue (keeps s e) → AreKept s e ns
are_kept s e [] k = tt
are_kept s e (n ∷ ns) k = k

-- the same is recorded, its epoch is kept, and its texts consist of characters
pub record AreStepsAlike (s : Seen) (r q : Recorded) : Type 0 where
  pub same : r ≡ q
  pub kept : AreKept s r.epoch r.names
  pub spelled : steps.IsWhole r

-- it has begun
pub record AreBegun (s : Seen) (r q : Recorded) : Type 0 where
  pub same : r ≡ q
  pub kept : IsTrue (keeps s r.epoch)
  pub spelled : steps.IsWhole r

pub steps_alike : (s : Seen) (r q : Recorded) → AreBegun s r q → AreStepsAlike s r q
steps_alike s r q h = record { same = h.same; kept = are_kept s r.epoch r.names h.kept; spelled = h.spelled }

pub steps_begun : (s : Seen) (t : State) (r q : Recorded) → StandsFor s t → AreStepsAlike s r q → AreBegun s (begun_on over s r) (begun_on within t q)
steps_begun s t r q p h = record {
  same = ap (λ (e : EpochName). record { epoch = epoch_or r.names e r.epoch; next = r.next; names = r.names; past = r.past; future = r.future; group = r.group; overfull = r.overfull; after_sweep = r.after_sweep }) (greatest_alike s t p) ∙ ap (begun_on within t) h.same;
  kept = go r.names h.kept;
  spelled = h.spelled;
}
  where
    go : (ns : Names) → AreKept s r.epoch ns → IsTrue (keeps s (epoch_or ns (greatest_over s) r.epoch))
    go [] k = greatest_kept s.epochs.top s.epochs.nodes
    go (n ∷ ns) k = k

-- after more has happened
pub steps_after : (s n : Seen) (r q : Recorded) → KeepsNames s n → AreStepsAlike s r q → AreStepsAlike n r q
steps_after s n r q k h = record { same = h.same; kept = go r.names h.kept; spelled = h.spelled }
  where
    go : (ns : Names) → AreKept s r.epoch ns → AreKept n r.epoch ns
    go [] h = tt
    go (x ∷ ns) h = k r.epoch h

begun_after : (s n : Seen) (r q : Recorded) → KeepsNames s n → AreBegun s r q → AreBegun n r q
begun_after s n r q k h = record { same = h.same; kept = k r.epoch h.kept; spelled = h.spelled }

-- within bounds
kept_kept : (s : Seen) (steps chars : ℕ) (r : Recorded) → IsTrue (keeps s r.epoch) → IsTrue (keeps s (kept_on over s steps chars r).epoch)
kept_kept s steps chars r k = go (nat_le (length r.names / 2) r.after_sweep)
  where
    rest : (b : Bool) → IsTrue (keeps s (cond b (without_first (length r.past) r) r).epoch)
    rest true = k
    rest false = k

    go : (b : Bool) → IsTrue (keeps s (cond b (without_overfull r) (swept (idents_over s) (lightened steps chars (settled_on over s r)))).epoch)
    go true = rest r.overfull
    go false = greatest_kept s.epochs.top s.epochs.nodes

pub kept_steps : (s : Seen) (t : State) (r q : Recorded) → StandsFor s t → AreBegun s r q → AreStepsAlike s (kept_on over s KEPT_STEPS KEPT_CHARACTERS r) (kept_on within t KEPT_STEPS KEPT_CHARACTERS q)
kept_steps s t r q p h =
    let a = kept_alike s t KEPT_STEPS KEPT_CHARACTERS r p h.kept h.spelled in
    steps_alike s _ _ (record {
      same = a.0 ∙ ap (λ (x : Recorded). kept_on within t KEPT_STEPS KEPT_CHARACTERS x) h.same;
      kept = kept_kept s KEPT_STEPS KEPT_CHARACTERS r h.kept;
      spelled = a.1;
    })

-- after an edit
pub recorded_kept : (s : Seen) (edit : Edit) (r : Recorded) → IsTrue (keeps s r.epoch) → IsTrue (keeps s (recorded_on over s edit r).epoch)
recorded_kept s (edits.Insert at cs) r k = greatest_kept s.epochs.top s.epochs.nodes
recorded_kept s (edits.Delete at n) r k = greatest_kept s.epochs.top s.epochs.nodes
recorded_kept s edits.Rename r k = k
recorded_kept s edits.Leave r k = k

pub made_steps : (s : Seen) (t : State) (edit : Edit) (r q : Recorded) → StandsFor s t → StandsFor (edited s edit) (accept t (made t.history edit)) → AreStepsAlike s r q →
    AreStepsAlike (edited s edit) (kept_on over (edited s edit) KEPT_STEPS KEPT_CHARACTERS (recorded_on over s edit (begun_on over s r)))
    (kept_on within (accept t (made t.history edit)) KEPT_STEPS KEPT_CHARACTERS (recorded_on within t edit (begun_on within t q)))
made_steps s t edit r q p n h =
    let b = begun_on over s r in
    let c = begun_on within t q in
    let g = steps_begun s t r q p h in
    let a = recorded_alike s t edit b p g.kept g.spelled in
    kept_steps (edited s edit) (accept t (made t.history edit)) (recorded_on over s edit b) (recorded_on within t edit c) n
    (begun_after s (edited s edit) (recorded_on over s edit b) (recorded_on within t edit c) (accepted_names s (made_over s edit))
    (record { same = a.0 ∙ ap (recorded_on within t edit) g.same; kept = recorded_kept s edit b g.kept; spelled = a.1 }))

-- taken to the greatest epoch
pub settled_steps : (s n : Seen) (t : State) (r q : Recorded) → StandsFor s t → IsTrue (keeps n (greatest_over s)) → AreStepsAlike s r q → AreStepsAlike n (settled_on over s (begun_on over s r)) (settled_on within t (begun_on within t q))
settled_steps s n t r q p k h =
    let g = steps_begun s t r q p h in
    steps_alike n _ _ (record { same = settled_to s t (begun_on over s r) p g.kept ∙ ap (settled_on within t) g.same; kept = k; spelled = g.spelled })
