-- What a member's history was stays a front of it.
use Rattle.std.proofs.Common.{◌≡◌, ℕ, zero, suc, Bool, true, false, List, [], ◌∷◌, length, refl, sym, ap, ◌∙◌, subst, inr}
use Rattle.std.specs.Prelude.{if◌then◌else◌, slice_get, Option, Some, None}
use Rattle.rls_ident.proofs.Members.{lt_test}
use Rattle.rls_ops.specs.declared.op.Op.{Op}
use Rattle.rls_ops.specs.declared.message.Message.{Message}
use Rattle.rls_model.specs.declared.edit.Edit.{Edit}
use Rattle.rls_model.specs.declared.event.Event.{Event}
use Rattle.rls_model.specs.declared.event.Event.TheVariants as events
use Rattle.rls_model.specs.declared.event.StepError.{StepError}
use Rattle.rls_model.specs.declared.event.StepError.TheVariants as faults
use Rattle.rls_model.specs.Answers.{Reason, Answer, Applies, Repeats, Waits, Refuses}
use Rattle.rls_model.specs.History.{History}
use Rattle.rls_model.specs.History as history
use Rattle.rls_model.specs.Stability.{is_counted}
use Rattle.rls_model.specs.Fitting.{refusal}
use Rattle.rls_model.specs.Receiving.{State, accept, after, receive, first_ready, after_refusal, after_release}
use Rattle.rls_model.specs.Editing.{made, edit_fault}
use Rattle.rls_model.specs.Taking.{by_history, Limit, has_room, Progress, started, moved, with_releases, acknowledge_step, take_ops, take_within}
use Rattle.rls_model.specs.EditRun.{edit_step, edit_within}
use Rattle.rls_model.specs.Worlds.{World, of_edit, or_else, edit_fault_at, fault_of, with_state, edit_at, send_at, deliver_at, step_of, unless, happens, Happening, run}
use Rattle.rls_model.specs.Laws.{edited, IsAt, IsFront, IsPast, PastKept}
use Rattle.rls_model.specs.MachineLaws.{StepsKeep}
use Rattle.rls_model.proofs.Machines.{acknowledge_keeps, edit_keeps, states_after_ops, states_after_releases}
use Rattle.rls_model.proofs.OnePlace.{get_set_same, got_below}
use Rattle.rls_model.proofs.HistoryNumbers.{front_self, front_trans}
use Rattle.rls_model.proofs.WorldsInvariant.{at_later}

-- ---- steps

-- the progress q goes on from p
abbrev pub GoesOn : Progress → Progress → Type 0
GoesOn p q = IsFront (p.state).history (q.state).history

on_trans : (p q r : Progress) → GoesOn p q → GoesOn q r → GoesOn p r
on_trans p q r h k = front_trans (p.state).history (q.state).history (r.state).history h k

-- a history goes on through each step
steps_go_on : (H : History) → StepsKeep by_history (λ o. Unit {0}) (λ t. IsFront H t.history)
steps_go_on H = record { receives = λ s o u h. answered (receive s o) s o h; releases = λ s h. ready (first_ready s) s h }
  where
    answered : (r : Answer) (s : State) (o : Op) → IsFront H s.history → IsFront H (after r s o).history
    answered Applies s o h = inr h
    answered Waits s o h = h
    answered Repeats s o h = h
    answered (Refuses r) s o h = h

    fits : (r : Option Reason) (s : State) (w : Op) → IsFront H s.history → IsFront H (after_refusal r s w).history
    fits None s w h = inr h
    fits (Some r) s w h = h

    ready : (w : Option Op) (s : State) → IsFront H s.history → IsFront H (after_release s w).history
    ready None s h = h
    ready (Some w) s h = fits (refusal s.history w) s w h

pub releases_go_on : (p : Progress) → GoesOn p (with_releases p)
releases_go_on p = let H = (p.state).history in states_after_releases by_history (λ t. IsFront H t.history) (steps_go_on H).releases (length (p.state).waiting) p (front_self H)

pub ops_go_on : (p : Progress) (os : List Op) → GoesOn p (take_ops p os)
ops_go_on p os = let H = (p.state).history in states_after_ops by_history (λ o. Unit {0}) (λ t. IsFront H t.history) (steps_go_on H) os p (λ o u. tt) (front_self H)

pub noting_goes_on : (p : Progress) (a : ℕ) (v : List ℕ) → GoesOn p (acknowledge_step p a v)
noting_goes_on p a v = let H = (p.state).history in acknowledge_keeps by_history (λ t. IsFront H t.history) p a v (note (is_counted H a v)) (front_self H)
  where
    note : (b : Bool) → IsFront (p.state).history (if b then record { history = history.Then (p.state).history (history.Acknowledged a v); waiting = (p.state).waiting } else p.state).history
    note true = inr (front_self (p.state).history)
    note false = front_self (p.state).history

pub taking_goes_on : (limit : Limit) (s : State) (m : Message) → IsFront s.history (take_within limit s m).state.history
unfolding take_within
taking_goes_on limit s m =
    let p = started limit s in
    let q = take_ops p m.ops in
    on_trans p q (acknowledge_step q m.from m.vector) (ops_go_on p m.ops) (noting_goes_on q m.from m.vector)

pub edit_goes_on : (p : Progress) (edit : Edit) → GoesOn p (edit_step p edit)
edit_goes_on p edit = let H = (p.state).history in edit_keeps by_history (λ t. IsFront H t.history) p edit (inr (front_self H)) (front_self H)

pub editing_goes_on : (limit : Limit) (s : State) (edit : Edit) → IsFront s.history (edit_within limit s edit).state.history
unfolding edit_within
editing_goes_on limit s edit = let p = started limit s in let q = edit_step p edit in on_trans p q (with_releases q) (edit_goes_on p edit) (releases_go_on q)

-- the history right after the edit
right_after : (limit : Limit) (s : State) (edit : Edit) → has_room limit ≡ true → IsFront (edited s.history edit) (edit_within limit s edit).state.history
unfolding edit_within
right_after limit s edit h =
    let p = moved (started limit s) (accept s (made s.history edit)) in
    subst (λ b. IsFront (edited s.history edit) ((with_releases (if b then p else started limit s)).state).history) (sym h) (releases_go_on p)

-- ---- events

past_set : (w : World) (i : ℕ) (s t : State) → IsAt w i s → IsFront s.history t.history → (j : ℕ) (H : History) → IsPast w j H → IsPast (with_state w i t) j H
past_set w i s t h f j H k = let r = at_later w i j s t k.0 h f k.1 in (r.0, r.1, front_trans H (k.0).history (r.0).history k.2 r.2)

edit_past : (limit : Limit) (w : World) (i : ℕ) (edit : Edit) (m : Option State) → slice_get w.states i ≡ m → (j : ℕ) (H : History) → IsPast w j H → IsPast (edit_at limit w i m edit) j H
edit_past limit w i edit None e j H k = k
edit_past limit w i edit (Some s) e j H k = past_set w i s (edit_within limit s edit).state e (editing_goes_on limit s edit) j H k

send_past : (limit : Limit) (w : World) (m : Option State) (to j : ℕ) (H : History) → IsPast w j H → IsPast (send_at limit w m to) j H
send_past None w None to j H k = k
send_past (Some zero) w None to j H k = k
send_past (Some (suc n)) w None to j H k = k
send_past None w (Some s) to j H k = k
send_past (Some zero) w (Some s) to j H k = k
send_past (Some (suc n)) w (Some s) to j H k = k

deliver_past : (limit : Limit) (w : World) (i : ℕ) (a : Option State) (b : Option Message) → slice_get w.states i ≡ a → (j : ℕ) (H : History) → IsPast w j H → IsPast (deliver_at limit w i a b) j H
deliver_past limit w i None None e j H k = k
deliver_past limit w i None (Some m) e j H k = k
deliver_past limit w i (Some s) None e j H k = k
deliver_past limit w i (Some s) (Some m) e j H k = past_set w i s (take_within limit s m).state e (taking_goes_on limit s m) j H k

step_past : (limit : Limit) (w : World) (e : Event) (j : ℕ) (H : History) → IsPast w j H → IsPast (step_of limit w e) j H
step_past limit w (events.Edit i edit) j H k = edit_past limit w i edit (slice_get w.states i) refl j H k
step_past limit w (events.Send from to) j H k = send_past limit w (slice_get w.states from) to j H k
step_past limit w (events.Deliver n to) j H k = deliver_past limit w to (slice_get w.states to) (slice_get w.sent n) refl j H k
step_past limit w (events.Drop i) j H k = k

happens_past : (limit : Limit) (w : World) (e : Event) (j : ℕ) (H : History) → IsPast w j H → IsPast (happens limit w e) j H
unfolding happens
happens_past limit w e j H k = go (fault_of w e)
  where
    go : (f : Option StepError) → IsPast (unless f w (step_of limit w e)) j H
    go None = step_past limit w e j H k
    go (Some x) = k

pub run_past : (w : World) (hs : List Happening) (j : ℕ) (H : History) → IsPast w j H → IsPast (run w hs) j H
run_past w [] j H k = k
run_past w (h ∷ hs) j H k = run_past (happens h.limit w h.event) hs j H (happens_past h.limit w h.event j H k)

pub edit_none : (w : World) (i : ℕ) (s : State) (edit : Edit) → IsAt w i s → edit_fault s.history edit ≡ None → fault_of w (events.Edit i edit) ≡ None
edit_none w i s edit h f =
    ap (λ b. or_else (if b then None else Some (faults.NoMember i)) (edit_fault_at (slice_get w.states i) edit)) (lt_test i (length w.states) (got_below w.states i s h))
    ∙ (ap (λ m. edit_fault_at m edit) h ∙ ap of_edit f)

edit_is_past : (w : World) (i : ℕ) (s : State) (edit : Edit) (limit : Limit) → IsAt w i s → edit_fault s.history edit ≡ None → has_room limit ≡ true → IsPast (happens limit w (events.Edit i edit)) i (edited s.history edit)
unfolding happens
edit_is_past w i s edit limit h f r =
    let t = (edit_within limit s edit).state in
    let e : happens limit w (events.Edit i edit) ≡ with_state w i t =
    ap (λ x. unless x w (step_of limit w (events.Edit i edit))) (edit_none w i s edit h f) ∙ ap (λ m. edit_at limit w i m edit) h in
    subst (λ v. IsPast v i (edited s.history edit)) (sym e) (t, get_set_same w.states i s t h, right_after limit s edit r)

pub law : PastKept
law = (run_past, edit_is_past)
