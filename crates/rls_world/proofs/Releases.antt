-- An edit and the releases after it, whole or cut short.
use Rattle.std.proofs.Common.{◌≡◌, ℕ, zero, suc, ◌-◌, ◌<◌, ◌≤◌, cond, length, refl, sym, ap, ◌∙◌, subst, arith, inl, inr, Option, Some, None, nat_le}
use Rattle.rls_ident.specs.Vectors.{at_most}
use Rattle.rls_ident.proofs.Members.{bool_cases, found_in, le_is, lt_test, not_le_is}
use Rattle.rls_ops.specs.declared.op.Op.{Op}
use Rattle.rls_ops.proofs.Waiting.{less_without, numbered_test}
use Rattle.rls_model.specs.declared.edit.Edit.{Edit}
use Rattle.rls_model.specs.Answers.{Reason, Released}
use Rattle.rls_model.specs.EditRun.{edit_within}
use Rattle.rls_model.specs.Receiving.{State}
use Rattle.rls_model.specs.Taking.{Limit, has_room, one_less}
use Rattle.rls_model.specs.WellFormed.{IsEdit}
use Rattle.rls_model.proofs.Machines.{no_releases, released_limit}
use Rattle.rls_seen.specs.Seen.{Seen, vector, members}
use Rattle.rls_seen.specs.Over.{accepted, holding, refusal_over, first_ready, release_over, after_refusal, after_release, released, released_times, released_all}
use Rattle.rls_seen.specs.Edits.{edited, edit_fault_over}
use Rattle.rls_seen.specs.Messages.{by_parts, Course, started, moved, with_release, release_step, release_steps, with_releases, edit_step}
use Rattle.rls_seen.specs.Stands.{StandsFor}
use Rattle.rls_seen.proofs.Repeating.{released_none, released_seen, times_done}
use Rattle.rls_seen.proofs.Taking.{Goes, edited_goes}
use Rattle.rls_world.specs.Events.{IsPartEdited}

-- ---- releases

-- releases without an end
pub steps_seen : (n : ℕ) (c : Course) → c.limit ≡ None → (release_steps n c).state ≡ released_times n c.state
steps_seen zero c e = refl
steps_seen (suc n) c e = steps_seen n (release_step c) (released_limit by_parts c e) ∙ ap (released_times n) (released_seen c e)

-- the lesser of two numbers
abbrev pub least : ℕ → ℕ → ℕ
least zero m = zero
least (suc k) zero = zero
least (suc k) (suc m) = suc (least k m)

-- a release that takes a step
cut_seen : (c : Course) (k : ℕ) (r : Option Released) → c.limit ≡ Some (suc k) → release_over c.state ≡ r → (m : ℕ)
    → ((d : Course) (j : ℕ) → d.limit ≡ Some j → (release_steps m d).state ≡ released_times (least j m) d.state)
    → (release_steps m (with_release c r)).state ≡ released_times (least k m) (released c.state)
cut_seen c k None e f m ih = ih c (suc k) e ∙ (times_done (least (suc k) m) c.state (released_none c.state f) ∙ (sym (times_done (least k m) c.state (released_none c.state f)) ∙ ap (released_times (least k m)) (sym (released_none c.state f))))
cut_seen c k (Some r) e f m ih = let q : suc k - 1 ≡ k = omega arith in ih (with_release c (Some r)) k (ap one_less e ∙ ap (λ j. Some j) q)

-- releases that are cut short
pub steps_cut : (m : ℕ) (c : Course) (k : ℕ) → c.limit ≡ Some k → (release_steps m c).state ≡ released_times (least k m) c.state
steps_cut zero c zero e = refl
steps_cut zero c (suc k) e = refl
steps_cut (suc m) c zero e = ap (λ (d : Course). d.state) (no_releases by_parts (suc m) c e)
steps_cut (suc m) c (suc k) e =
    ap (λ b. (release_steps m (cond b (with_release c (release_over c.state)) c)).state) (ap has_room e ∙ lt_test 0 (suc k) (omega arith))
    ∙ cut_seen c k (release_over c.state) e refl m (λ d j f. steps_cut m d j f)

-- ---- no more than wait

ready_fewer : (s : Seen) (w : Op) (x : Option Reason) → first_ready s ≡ Some w → length (after_refusal x s w).waiting < length s.waiting
unfolding accepted holding
ready_fewer s w None f = less_without w.author w.seq w s.waiting (found_in (λ v. at_most v.context (vector s)) w s.waiting f).0 (numbered_test w.author w.seq w refl refl)
ready_fewer s w (Some r) f = less_without w.author w.seq w s.waiting (found_in (λ v. at_most v.context (vector s)) w s.waiting f).0 (numbered_test w.author w.seq w refl refl)

-- nothing is released, or fewer wait
fewer_or_same : {P : Type 0} (s : Seen) → (released s ≡ s → P) → (length (released s).waiting < length s.waiting → P) → P
unfolding released
fewer_or_same {P = P} s f g = go (first_ready s) refl
  where
    go : (o : Option Op) → first_ready s ≡ o → P
    go None e = f (ap (after_release s) e)
    go (Some w) e = g (subst (λ o. length (after_release s o).waiting < length s.waiting) (sym e) (ready_fewer s w (refusal_over s w) e))

-- more releases than operations wait release no more
pub times_most : (m n : ℕ) (s : Seen) → length s.waiting ≤ m → m ≤ n → released_times n s ≡ released_times m s
times_most zero n s l h = fewer_or_same s (λ e. times_done n s e) (λ k. absurd (omega arith))
times_most (suc m) zero s l h = absurd (omega arith)
times_most (suc m) (suc n) s l h =
    fewer_or_same s (λ e. times_done (suc n) s e ∙ sym (times_done (suc m) s e)) (λ k. times_most m n (released s) (omega arith) (omega arith))

-- some number of releases is one of at most as many as wait
pub times_least : (n : ℕ) (s : Seen) → released_times (least n (length s.waiting)) s ≡ released_times n s
times_least n s =
    bool_cases (nat_le n (length s.waiting))
    (λ e. ap (λ k. released_times k s) (least_left n (length s.waiting) (le_is n (length s.waiting) e)))
    (λ e. let l = not_le_is n (length s.waiting) e in
    ap (λ k. released_times k s) (least_right n (length s.waiting) (omega arith)) ∙ sym (times_most (length s.waiting) n s (omega arith) (omega arith)))
  where
    least_left : (j k : ℕ) → j ≤ k → least j k ≡ j
    least_left zero k h = refl
    least_left (suc j) zero h = absurd (omega arith)
    least_left (suc j) (suc k) h = ap suc (least_left j k (omega arith))

    least_right : (j k : ℕ) → k ≤ j → least j k ≡ k
    least_right zero zero h = refl
    least_right zero (suc k) h = absurd (omega arith)
    least_right (suc j) zero h = refl
    least_right (suc j) (suc k) h = ap suc (least_right j k (omega arith))

-- ---- an edit

-- an edit and the releases after it, in at most this many steps
edit_course : Limit → Seen → Edit → Course
edit_course limit s edit = with_releases (edit_step (started limit s) edit)

edit_goes : (limit : Limit) (s : Seen) (t : State) (edit : Edit) → IsEdit edit → edit_fault_over s edit ≡ None → StandsFor s t → Goes (members s) (edit_course limit s edit) (edit_within limit t edit)
unfolding edit_course
edit_goes limit s t edit w f h = edited_goes limit s t edit w f h

-- whole
pub edit_stands : (s : Seen) (t : State) (edit : Edit) → IsEdit edit → edit_fault_over s edit ≡ None → StandsFor s t → StandsFor (released_all (edited s edit)) (edit_within None t edit).state
unfolding edit_course released_all
edit_stands s t edit w f h =
    subst (λ u. StandsFor u (edit_within None t edit).state)
    (steps_seen (length (edited s edit).waiting) (moved (started None s) (edited s edit)) refl)
    (edit_goes None s t edit w f h).states.1

-- cut short
pub edit_part : (s r : Seen) (t : State) (edit : Edit) → IsEdit edit → edit_fault_over s edit ≡ None → StandsFor s t → IsPartEdited s edit r → (n : ℕ) × StandsFor r (edit_within (Some n) t edit).state
unfolding edit_course
edit_part s r t edit w f h (inl e) =
    (0, subst (λ u. StandsFor u (edit_within (Some 0) t edit).state) (ap (λ (d : Course). d.state) (no_releases by_parts (length s.waiting) (started (Some 0) s) refl) ∙ sym e) (edit_goes (Some 0) s t edit w f h).states.1)
edit_part s r t edit w f h (inr p) =
    let n = p.1.0 in
    let c = moved (started (Some (suc n)) s) (edited s edit) in
    let k : c.limit ≡ Some n = (let q : suc n - 1 ≡ n = omega arith in ap (λ j. Some j) q) in
    let first : edit_course (Some (suc n)) s edit ≡ with_releases c = ap (λ b. with_releases (cond b c (started (Some (suc n)) s))) (lt_test 0 (suc n) (omega arith)) in (
      suc n,
      subst (λ u. StandsFor u (edit_within (Some (suc n)) t edit).state)
          (ap (λ (d : Course). d.state) first ∙ steps_cut (length (edited s edit).waiting) c n k ∙ (times_least n (edited s edit) ∙ sym p.1.1))
          (edit_goes (Some (suc n)) s t edit w f h).states.1,
    )
