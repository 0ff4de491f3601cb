-- A machine that tells its changes does what it does without telling them, and its changes lead from text to text.
use Rattle.std.proofs.Common.{◌≡◌, ◌∙◌, ℕ, false, List, [], ◌∷◌, ◌++◌, Option, Some, None, refl, sym, ap}
use Rattle.rls_ops.specs.declared.op.Op.{Op}
use Rattle.rls_ops.specs.declared.message.Message.{Message}
use Rattle.rls_ops.specs.WellFormed.{IsInRange}
use Rattle.rls_model.specs.Answers.{Reason, Answer, Applies, Repeats, Waits, Refuses}
use Rattle.rls_model.specs.Machine.{started, acknowledge_on, take_on}
use Rattle.rls_model.specs.MachineLaws.{StepsKeep}
use Rattle.rls_model.specs.WellFormed.{IsOp}
use Rattle.rls_model.proofs.Machines.{acknowledge_keeps, states_after_ops}
use Rattle.rls_seen.specs.Over.{after_answer, after_refusal, after_release, answer_over, first_ready, holding, received, refusal_over, released, acknowledged}
use Rattle.rls_seen.specs.Sane.{IsSane}
use Rattle.rls_seen.specs.Seen.{Seen, text_over}
use Rattle.rls_seen.proofs.Receiving.{applies}
use Rattle.rls_seen.proofs.Staying.{ready_may, received_sane, released_sane}
use Rattle.rls_seen.proofs.Taking.{op_in}
use Rattle.rls_changes.specs.declared.change.Change.{Change}
use Rattle.rls_changes.specs.Changes.{played, changes_over}
use Rattle.rls_replica.specs.Watching.{if_applied, if_fits, Told, told_at, told_on, watched_within, taken_told, all_released_told, Step, Receives, Releases, Notes, after_step, step_told, IsStep, Leads, IsTold}
use Rattle.rls_replica.proofs.Told.{watched_beside}
use Rattle.rls_changes.specs.Telling.{received_changes, ready_changes, released_changes, all_released_changes, taken_changes, tells_parts, told_within}
use Rattle.rls_changes.specs.ChangesLaws.{Lead, TellsBeside, TakenPlayed}
use Rattle.rls_changes.proofs.Joining.{played_append}
use Rattle.rls_changes.proofs.Played.{changes_played}

-- ---- the same without telling

pub tells_beside : TellsBeside
unfolding told_within watched_within
tells_beside limit s m = watched_beside changes_over limit s m

-- ---- from text to text

holding_text : (s : Seen) (W : List Op) → text_over (holding s W) ≡ text_over s
unfolding holding
holding_text s W = refl

answer_plays : (s : Seen) (o : Op) (a : Answer) → IsSane s → IsOp o → answer_over false s o ≡ a → played (if_applied a (changes_over s o)) (text_over s) ≡ text_over (after_answer a s o)
answer_plays s o Applies sane w e = changes_played s o sane (applies false s o w e)
answer_plays s o Waits sane w e = sym (holding_text s _)
answer_plays s o Repeats sane w e = refl
answer_plays s o (Refuses r) sane w e = refl

pub received_plays : (s : Seen) (o : Op) → IsSane s → IsOp o → played (received_changes s o) (text_over s) ≡ text_over (received s o)
unfolding received
received_plays s o sane w = answer_plays s o (answer_over false s o) sane w refl

fits_plays : (s : Seen) (w : Op) (r : Option Reason) → IsSane s → first_ready s ≡ Some w → refusal_over s w ≡ r → played (if_fits r (changes_over s w)) (text_over s) ≡ text_over (after_refusal r s w)
fits_plays s w None sane e f = changes_played s w sane (ready_may s w sane e f)
fits_plays s w (Some r) sane e f = sym (holding_text s _)

ready_plays : (s : Seen) (o : Option Op) → IsSane s → first_ready s ≡ o → played (ready_changes s o) (text_over s) ≡ text_over (after_release s o)
ready_plays s None sane e = refl
ready_plays s (Some w) sane e = fits_plays s w (refusal_over s w) sane e refl

pub released_plays : (s : Seen) → IsSane s → played (released_changes s) (text_over s) ≡ text_over (released s)
unfolding released
released_plays s sane = ready_plays s (first_ready s) sane refl

acknowledged_text : (s : Seen) (a : ℕ) (v : List ℕ) → text_over (acknowledged s a v) ≡ text_over s
unfolding acknowledged
acknowledged_text s a v = refl

-- the changes lead from this text to that of the state, which is sane
abbrev Plays : List ℕ → Told Seen Change → Type 0
Plays text t = IsSane t.state × (played t.told text ≡ text_over t.state)

on_plays : (text : List ℕ) (t : Told Seen Change) (s : Seen) (cs : List Change) → Plays text t → IsSane s → played cs (text_over t.state) ≡ text_over s → Plays text (told_on t s cs)
on_plays text t s cs h sane k = (sane, played_append t.told cs text ∙ (ap (played cs) h.1 ∙ k))

steps_play : (text : List ℕ) → StepsKeep tells_parts (λ o. IsOp o × IsInRange o.body) (Plays text)
steps_play text = record {
  receives = λ t o w h. on_plays text t (received t.state o) (received_changes t.state o) h (received_sane t.state o h.0 w.0 w.1) (received_plays t.state o h.0 w.0);
  releases = λ t h. on_plays text t (released t.state) (released_changes t.state) h (released_sane t.state h.0) (released_plays t.state h.0);
}

pub taken_played : TakenPlayed
unfolding told_within
taken_played limit s m sane w r =
    let p = take_on tells_parts (started limit (told_at s)) m.ops in
    let ops : Plays (text_over s) p.state = states_after_ops tells_parts (λ o. IsOp o × IsInRange o.body) (Plays (text_over s)) (steps_play (text_over s)) m.ops (started limit (told_at s)) (λ o u. (op_in m.ops o w.ops u, r o u)) (sane, refl) in
    let last : played (acknowledge_on tells_parts p m.from m.vector).state.told (text_over s) ≡ text_over (acknowledge_on tells_parts p m.from m.vector).state.state =
    acknowledge_keeps tells_parts (λ (t : Told Seen Change). played t.told (text_over s) ≡ text_over t.state) p m.from m.vector (ops.1 ∙ sym (acknowledged_text p.state.state m.from m.vector)) ops.1 in
    last ∙ ap (λ (u : Seen). text_over u) (tells_beside limit s m).states

-- ---- for calls

-- one step
step_plays : (s : Seen) (x : Step) → IsSane s → IsStep x → played (step_told changes_over s x) (text_over s) ≡ text_over (after_step s x)
step_plays s (Receives o) sane w = received_plays s o sane w
step_plays s Releases sane w = released_plays s sane
step_plays s (Notes a v) sane w = sym (acknowledged_text s a v)

steps_lead : (xs : List Step) (s u : Seen) (cs : List Change) → Leads changes_over xs s u cs → played cs (text_over s) ≡ text_over u
steps_lead [] s u cs h = ap (λ zs. played zs (text_over s)) h.1 ∙ ap (λ (r : Seen). text_over r) (sym h.0)
steps_lead (x ∷ xs) s u cs h =
    ap (λ zs. played zs (text_over s)) h.3
    ∙ (played_append (step_told changes_over s x) h.2 (text_over s)
    ∙ (ap (played h.2) (step_plays s x h.0 h.1) ∙ steps_lead xs (after_step s x) u h.2 h.4))

-- what is told of the steps that were made leads from text to text
pub told_leads : (s u : Seen) (bs cs ds : List Change) → bs ≡ cs → IsTold changes_over s u bs ds → Lead cs ds (text_over s) (text_over u)
told_leads s u bs cs ds e h = record { fresh = h.fresh; added = h.added ∙ ap (λ zs. zs ++ h.fresh) e; leads = steps_lead h.steps s u h.fresh h.led }

-- the words of this crate are those of a watcher that tells changes
pub all_told : (s : Seen) (bs cs ds : List Change) → bs ≡ cs → ds ≡ bs ++ all_released_told changes_over s → ds ≡ cs ++ all_released_changes s
unfolding all_released_told all_released_changes
all_told s bs cs ds e h = h ∙ ap (λ zs. zs ++ all_released_told changes_over s) e

pub message_told : (s : Seen) (m : Message) (bs cs ds : List Change) → bs ≡ cs → ds ≡ bs ++ taken_told changes_over s m → ds ≡ cs ++ taken_changes s m
unfolding watched_within told_within
message_told s m bs cs ds e h = h ∙ ap (λ zs. zs ++ taken_told changes_over s m) e
