-- Lines that are run to their end lead to the world that whole events lead to.
use Rattle.std.proofs.Common.{◌≡◌, ℕ, zero, suc, List, [], ◌∷◌, ◌++◌, length, refl, sym, ap, ◌∙◌, subst}
use Rattle.std.specs.Prelude.{if◌then◌else◌, slice_get, Option, Some, None}
use Rattle.rls_ident.proofs.Members.{lt_test}
use Rattle.rls_ops.specs.declared.op.Op.{Op}
use Rattle.rls_model.specs.declared.edit.Edit.{Edit}
use Rattle.rls_model.specs.declared.edit.EditError.{EditError}
use Rattle.rls_model.specs.declared.event.Event.TheVariants as events
use Rattle.rls_model.specs.declared.event.StepError.TheVariants as faults
use Rattle.rls_model.specs.Receiving.{State, accept, first_ready, after_release, release_after, released_times}
use Rattle.rls_model.specs.Editing.{made, edit_fault}
use Rattle.rls_model.specs.Taking.{by_history, one_less, Progress, started, release_step, release_steps, with_releases}
use Rattle.rls_model.specs.EditRun.{edit_step, edit_within, Done, go_on, run_from, run_lines, unless_fault, read_edit}
use Rattle.rls_model.specs.Worlds.{World, or_else, of_edit, edit_fault_at, fault_of, with_state, edit_at, step_of, unless, happens, Happening, run, AreEvents, AreWhole}
use Rattle.rls_model.specs.Laws.{IsAt, IsAfter, edit_events, EditsAreEvents}
use Rattle.rls_model.proofs.OnePlace.{get_set_same, got_below, set_get, set_set}
use Rattle.rls_model.proofs.MemberSteps.{released_by, release_is}
use Rattle.rls_model.proofs.Machines.{end_or, edit_unlimited, release_unlimited}

-- ---- steps without a limit

-- without a limit, at this state
abbrev pub IsWhole : Progress → State → Type 0
IsWhole p s = (p.limit ≡ None) × (p.state ≡ s)

release_whole : (p : Progress) → p.limit ≡ None → IsWhole (release_step p) (release_after p.state)
release_whole p e =
    let step : release_step p ≡ released_by p (first_ready p.state) = release_unlimited by_history p e ∙ release_is p (first_ready p.state) refl in
    subst (λ (q : Progress). IsWhole q (release_after p.state)) (sym step) (go (first_ready p.state))
  where
    go : (m : Option Op) → IsWhole (released_by p m) (after_release p.state m)
    go None = (e, refl)
    go (Some x) = (ap one_less e, refl)

steps_whole : (n : ℕ) (p : Progress) → p.limit ≡ None → IsWhole (release_steps n p) (released_times n p.state)
steps_whole zero p e = (e, refl)
steps_whole (suc n) p e =
    let r = release_whole p e in
    let s = steps_whole n (release_step p) r.0 in
    (s.0, s.1 ∙ ap (released_times n) r.1)

edit_whole : (p : Progress) (edit : Edit) → p.limit ≡ None → IsWhole (edit_step p edit) (accept p.state (made (p.state).history edit))
edit_whole p edit e = subst (λ (x : Progress). IsWhole x (accept p.state (made (p.state).history edit))) (sym (edit_unlimited by_history p edit e)) (ap one_less e, refl)

-- the state after an edit and what it releases
abbrev pub state_after : State → Edit → State
state_after s edit = let t = accept s (made s.history edit) in released_times (length t.waiting) t

with_edit : (p : Progress) (edit : Edit) → p.limit ≡ None → IsWhole (with_releases (edit_step p edit)) (state_after p.state edit)
with_edit p edit e =
    let q = edit_step p edit in
    let r = edit_whole p edit e in
    let s = steps_whole (length (q.state).waiting) q r.0 in
    (s.0, s.1 ∙ ap (λ (t : State). released_times (length t.waiting) t) r.1)

-- so the event of the edit
edit_event : (w : World) (i : ℕ) (p : Progress) (edit : Edit) → IsAt w i p.state → p.limit ≡ None → edit_fault (p.state).history edit ≡ None → happens None w (events.Edit i edit) ≡ with_state w i (with_releases (edit_step p edit)).state
unfolding happens edit_within
edit_event w i p edit h l f =
    let s = p.state in
    let e : fault_of w (events.Edit i edit) ≡ None =
    ap (λ b. or_else (if b then None else Some (faults.NoMember i)) (edit_fault_at (slice_get w.states i) edit)) (lt_test i (length w.states) (got_below w.states i s h)) ∙ (ap (λ m. edit_fault_at m edit) h ∙ ap of_edit f) in
    ap (λ x. unless x w (step_of None w (events.Edit i edit))) e
    ∙ (ap (λ m. edit_at None w i m edit) h ∙ ap (with_state w i) ((with_edit (started None s) edit refl).1 ∙ sym (with_edit p edit l).1))

-- ---- lines

same_world : (w : World) (i : ℕ) (s : State) → IsAt w i s → with_state w i s ≡ w
same_world w i s h = ap (λ xs. record w { states = xs }) (set_get w.states i s h)

-- events that lead from one world to another
abbrev pub Leads : World → World → Type 0
Leads w v = (hs : List Happening) × AreEvents hs × AreWhole hs × (run w hs ≡ v)

-- ---- edits

from_edits : (w : World) (i : ℕ) (line : ℕ) (p q : Progress) (es : List Edit) → IsAt w i p.state → p.limit ≡ None → run_from read_edit line p es ≡ Done q → run w (edit_events i es) ≡ with_state w i q.state
from_edits w i line p q [] h l e =
    let f : p ≡ q = ap (end_or p) e in
    sym (same_world w i q.state (subst (λ (x : Progress). IsAt w i x.state) f h))
from_edits w i line p q (x ∷ es) h l e = go (edit_fault (p.state).history x) refl e (λ r v k n c. from_edits v i (suc line) r q es k n c)
  where
    go : (f : Option EditError) → edit_fault (p.state).history x ≡ f → go_on line (unless_fault f x) (λ edit. run_from read_edit (suc line) (with_releases (edit_step p edit)) es) ≡ Done q →
        ((r : Progress) (v : World) → IsAt v i r.state → r.limit ≡ None → run_from read_edit (suc line) r es ≡ Done q → run v (edit_events i es) ≡ with_state v i q.state) → run w (edit_events i (x ∷ es)) ≡ with_state w i q.state
    go None f k ih =
        let r = with_releases (edit_step p x) in
        let v = with_state w i r.state in
        ap (λ u. run u (edit_events i es)) (edit_event w i p x h l f)
        ∙ (ih r v (get_set_same w.states i p.state r.state h) (with_edit p x l).0 k ∙ ap (λ xs. record w { states = xs }) (set_set w.states i r.state q.state))
    go (Some y) f k ih = absurd (cc)

pub edits_are_events : EditsAreEvents
unfolding run_lines
edits_are_events w i s p edits h a e = from_edits w i 1 (started None s) p edits h refl e

-- ---- events after events

pub run_append : (w : World) (hs ks : List Happening) → run w (hs ++ ks) ≡ run (run w hs) ks
run_append w [] ks = refl
run_append w (h ∷ hs) ks = run_append (happens h.limit w h.event) hs ks

pub events_append : (hs ks : List Happening) → AreEvents hs → AreEvents ks → AreEvents (hs ++ ks)
events_append [] ks a b = b
events_append (h ∷ hs) ks a b = (a.0, events_append hs ks a.1 b)

whole_append : (hs ks : List Happening) → AreWhole hs → AreWhole ks → AreWhole (hs ++ ks)
whole_append [] ks a b = b
whole_append (h ∷ hs) ks a b = (a.0, whole_append hs ks a.1 b)

-- a world that whole events lead to is one after whole events
pub after_more : (w v : World) (hs : List Happening) → IsAfter w hs → AreWhole hs → Leads w v → (ks : List Happening) × IsAfter v ks × AreWhole ks
after_more w v hs a b l =
    let ks = hs ++ l.0 in
    (ks, (a.0, a.1, a.2, a.3, a.4, events_append hs l.0 a.5 l.1, run_append _ hs l.0 ∙ (ap (λ u. run u l.0) a.6 ∙ l.3)), whole_append hs l.0 b l.2)
