-- What a message and releases change is the same over a replica and over each history that it stands for.
use Rattle.std.proofs.Common.{◌≡◌, ◌∙◌, ℕ, zero, suc, List, ◌++◌, false, length, Option, Some, None, refl, sym, ap}
use Rattle.rls_ops.specs.declared.op.Op.{Op}
use Rattle.rls_ops.specs.WellFormed.{IsInRange}
use Rattle.rls_model.specs.Answers.{Reason, Answer, Applies, Repeats, Waits, Refuses, Released}
use Rattle.rls_model.specs.Fitting.{refusal}
use Rattle.rls_model.specs.Machine.{started, take_on}
use Rattle.rls_model.specs.MachineLaws.{StepsAgree}
use Rattle.rls_model.specs.Receiving.{State, receive, release, release_after}
use Rattle.rls_model.specs.Receiving as model
use Rattle.rls_model.specs.WellFormed.{IsOp}
use Rattle.rls_model.proofs.Machines.{acknowledge_alike, taking_alike}
use Rattle.rls_seen.specs.Over.{answer_over, first_ready, refusal_over, release_of, release_over, released}
use Rattle.rls_seen.specs.Sane.{IsSane, MayApply}
use Rattle.rls_seen.specs.Seen.{Seen}
use Rattle.rls_seen.specs.Stands.{StandsFor}
use Rattle.rls_seen.proofs.Agreeing.{machines_agree}
use Rattle.rls_seen.proofs.Fitting.{facts}
use Rattle.rls_seen.proofs.Receiving.{applies}
use Rattle.rls_seen.proofs.Releasing.{first_alike}
use Rattle.rls_seen.proofs.Staying.{ready_may, received_sane, released_sane}
use Rattle.rls_seen.proofs.Taking.{op_in}
use Rattle.rls_replica.specs.Watching.{if_applied, if_fits, Told, told_at}
use Rattle.rls_changes.specs.declared.change.Change.{Change}
use Rattle.rls_changes.specs.Changes.{changes_over, changes_in}
use Rattle.rls_changes.specs.ChangesLaws.{TakenAlike, ReleasedAlike}
use Rattle.rls_changes.specs.Telling.{received_changes, received_changes_in, ready_changes, ready_changes_in, released_changes, released_changes_in, times_changes, times_changes_in, all_released_changes, all_released_changes_in, tells_parts, tells_history, told_within, told_in}
use Rattle.rls_changes.proofs.Alike.{changes_alike}

-- ---- one step

may_alike : (s : Seen) (t : State) (o : Op) → StandsFor s t → MayApply s o → changes_over s o ≡ changes_in t.history o
may_alike s t o h m = changes_alike s t o h (facts s o m).kept

answered_alike : (s : Seen) (t : State) (o : Op) (a : Answer) → StandsFor s t → IsOp o → answer_over false s o ≡ a → if_applied a (changes_over s o) ≡ if_applied a (changes_in t.history o)
answered_alike s t o Applies h w e = may_alike s t o h (applies false s o w e)
answered_alike s t o Repeats h w e = refl
answered_alike s t o Waits h w e = refl
answered_alike s t o (Refuses r) h w e = refl

received_alike : (s : Seen) (t : State) (o : Op) → StandsFor s t → IsOp o → received_changes s o ≡ received_changes_in t o
received_alike s t o h w = answered_alike s t o (answer_over false s o) h w refl ∙ ap (λ a. if_applied a (changes_in t.history o)) (machines_agree.0.answers s t o w h)

refusal_in : Option Released → Option Reason
refusal_in None = None
refusal_in (Some r) = r.refusal

refusals_alike : (s : Seen) (t : State) (w : Op) → StandsFor s t → first_ready s ≡ Some w → refusal_over s w ≡ refusal t.history w
unfolding release_over refusal_in
refusals_alike s t w h e =
    let a : release_of s (first_ready s) ≡ model.release_of t (model.first_ready t) = machines_agree.0.next_releases s t h in
    let b : model.first_ready t ≡ Some w = sym (first_alike s t h) ∙ e in
    let c : release_of s (Some w) ≡ model.release_of t (Some w) = sym (ap (release_of s) e) ∙ (a ∙ ap (model.release_of t) b) in
    ap refusal_in c

fitting_alike : (s : Seen) (t : State) (w : Op) (r : Option Reason) → IsSane s → StandsFor s t → first_ready s ≡ Some w → refusal_over s w ≡ r → if_fits r (changes_over s w) ≡ if_fits r (changes_in t.history w)
fitting_alike s t w None sane h e f = may_alike s t w h (ready_may s w sane e f)
fitting_alike s t w (Some r) sane h e f = refl

ready_alike : (s : Seen) (t : State) (o : Option Op) → IsSane s → StandsFor s t → first_ready s ≡ o → ready_changes s o ≡ ready_changes_in t o
ready_alike s t None sane h e = refl
ready_alike s t (Some w) sane h e = fitting_alike s t w (refusal_over s w) sane h e refl ∙ ap (λ r. if_fits r (changes_in t.history w)) (refusals_alike s t w h e)

step_alike : (s : Seen) (t : State) → IsSane s → StandsFor s t → released_changes s ≡ released_changes_in t
step_alike s t sane h = ready_alike s t (first_ready s) sane h refl ∙ ap (ready_changes_in t) (first_alike s t h)

-- ---- releases until none is ready

times_alike : (n : ℕ) (s : Seen) (t : State) → IsSane s → StandsFor s t → times_changes n s ≡ times_changes_in n t
times_alike zero s t sane h = refl
times_alike (suc n) s t sane h =
    ap (λ cs. cs ++ times_changes n (released s)) (step_alike s t sane h)
    ∙ ap (λ cs. released_changes_in t ++ cs) (times_alike n (released s) (release_after t) (released_sane s sane) (machines_agree.0.releases s t h))

pub released_alike : ReleasedAlike
unfolding all_released_changes all_released_changes_in
released_alike s t sane h = times_alike (length s.waiting) s t sane h ∙ ap (λ (ws : List Op). times_changes_in (length ws) t) h.waiting

-- ---- a message

abbrev Both : Told Seen Change → Told State Change → Type 0
Both t u = IsSane t.state × StandsFor t.state u.state × (t.told ≡ u.told)

abbrev Same : Told Seen Change → Told State Change → Type 0
Same t u = t.told ≡ u.told

both_more : (cs ds es fs : List Change) → cs ≡ ds → es ≡ fs → cs ++ es ≡ ds ++ fs
both_more cs ds es fs h k = ap (λ zs. zs ++ es) h ∙ ap (λ zs. ds ++ zs) k

telling_agrees : StepsAgree tells_parts tells_history (λ o. IsOp o × IsInRange o.body) Both
telling_agrees = record {
  answers = λ t u o w h. machines_agree.0.answers t.state u.state o w.0 h.1;
  receives = λ t u o w h. (
    received_sane t.state o h.0 w.0 w.1,
    machines_agree.0.receives t.state u.state o w.0 h.1,
    both_more t.told u.told (received_changes t.state o) (received_changes_in u.state o) h.2 (received_alike t.state u.state o h.1 w.0),
  );
  waiting = λ t u h. h.1.waiting;
  next_releases = λ t u h. machines_agree.0.next_releases t.state u.state h.1;
  releases = λ t u h. (
    released_sane t.state h.0,
    machines_agree.0.releases t.state u.state h.1,
    both_more t.told u.told (released_changes t.state) (released_changes_in u.state) h.2 (step_alike t.state u.state h.0 h.1),
  );
}

pub taken_alike : TakenAlike
unfolding told_within told_in
taken_alike limit s t m sane h w r =
    let p = take_on tells_parts (started limit (told_at s)) m.ops in
    let q = take_on tells_history (started limit (told_at t)) m.ops in
    let a = taking_alike Both tells_parts tells_history (λ o. IsOp o × IsInRange o.body) telling_agrees m.ops (started limit (told_at s)) (started limit (told_at t)) (λ o u. (op_in m.ops o w.ops u, r o u)) (record { states = (sane, h, refl); limit = refl; counts = refl }) in
    (acknowledge_alike Same tells_parts tells_history p q m.from m.vector a.states.2 (record { states = a.states.2; limit = a.limit; counts = a.counts })).states
