-- Each step of taking a message and of an edit leaves a state that may be stored, but for what is ready.
use Rattle.std.proofs.Common.{◌≡◌, ℕ, ◌<◌, true, false, Bool, List, Option, Some, None, refl, sym, subst, arith, ⊎_elim}
use Rattle.std.specs.Prelude.{if◌then◌else◌}
use Rattle.rls_ident.specs.Lists.{IsIn}
use Rattle.rls_ident.specs.Vectors.{at_most}
use Rattle.rls_ident.proofs.Members.{found_in}
use Rattle.rls_ops.specs.declared.op.Op.{Op}
use Rattle.rls_codec.specs.Spelled.{FitsVector, IsSpelled}
use Rattle.rls_codec.proofs.SpelledSound.{fits_vector, spelled_op}
use Rattle.rls_model.specs.declared.edit.Edit.{Edit}
use Rattle.rls_model.specs.Answers.{Reason, Answer, Applies, Repeats, Waits, Refuses}
use Rattle.rls_model.specs.History.{Acknowledged, Then, count, me_of, members_of}
use Rattle.rls_model.specs.Stability.{is_counted}
use Rattle.rls_model.specs.Fitting.{refusal}
use Rattle.rls_model.specs.Receiving.{State, without, accept, after, after_refusal, after_release, receive, receive_after, release_after, first_ready}
use Rattle.rls_model.specs.WellFormed.{IsEdit}
use Rattle.rls_model.specs.Legal.{MayAccept, IsLegal, IsSound}
use Rattle.rls_model.specs.Editing.{made, edit_fault}
use Rattle.rls_model.specs.MachineLaws.{StepsKeep}
use Rattle.rls_model.specs.Taking.{by_history, Progress, release_steps, acknowledge, acknowledge_step}
use Rattle.rls_model.specs.EditRun.{edit_step}
use Rattle.rls_model.proofs.Machines.{acknowledge_keeps, edit_keeps, states_after_releases}
use Rattle.rls_model.proofs.Made as making
use Rattle.rls_model.proofs.NothingReady.{IsAtRest}
use Rattle.rls_model.proofs.WaitingFits.{in_without, in_with, waiting_at, sound_without, sound_grown, sound_accepted, sound_put}
use Rattle.rls_model.proofs.Answered.{may_accept, answer_applies, answer_waits, IsHeld}
use Rattle.rls_file.specs.FileLaws.{AreSpelled}
use Rattle.rls_file.specs.Storable.{IsStorable}
use Rattle.rls_file.proofs.MadeOps.{made_spelled}

-- what may be stored, but for what is ready, among so many members
pub record IsStoring (n : ℕ) (t : State) : Type 0 where
  pub members : members_of t.history ≡ n
  pub legal : IsLegal t.history
  pub sound : IsSound t
  pub accepted : AreSpelled t.history
  pub waiting : (w : Op) → IsIn w t.waiting → IsSpelled n w
  pub others : (w : Op) → IsIn w t.waiting → w.author ≡ me_of t.history → ⊥

pub storing : (t : State) → IsStorable t → IsStoring (members_of t.history) t
storing t s = record { members = refl; legal = s.legal; sound = s.sound; accepted = s.accepted; waiting = s.waiting; others = s.others }

pub stored : (n : ℕ) (t : State) → IsStoring n t → IsAtRest t → IsStorable t
stored n t s r = record { legal = s.legal; sound = s.sound; accepted = s.accepted; waiting = λ w p. subst (λ k. IsSpelled k w) (sym s.members) (s.waiting w p); others = s.others; rest = r }

-- ---- states

accept_storing : (n : ℕ) (t : State) (o : Op) → IsStoring n t → IsSpelled n o → MayAccept t.history o → IsStoring n (accept t o)
accept_storing n t o s f m = record {
  members = s.members;
  legal = (s.legal, spelled_op n o f, m);
  sound = sound_accepted t.history o t.waiting m s.sound;
  accepted = (s.accepted, subst (λ k. IsSpelled k o) (sym s.members) f);
  waiting = λ w p. s.waiting w (in_without o.author o.seq w t.waiting p).0;
  others = λ w p. s.others w (in_without o.author o.seq w t.waiting p).0;
}

hold_storing : (n : ℕ) (t : State) (o : Op) → IsStoring n t → IsSpelled n o → IsHeld t.history o → IsStoring n (after Waits t o)
hold_storing n t o s f h = record {
  members = s.members;
  legal = s.legal;
  sound = sound_put t.history o t.waiting (spelled_op n o f) h.shape h.above s.sound;
  accepted = s.accepted;
  waiting = λ w p. ⊎_elim (λ e. subst (IsSpelled n) e f) (λ q. s.waiting w (in_without o.author o.seq w t.waiting q).0) (in_with o w (without o.author o.seq t.waiting) p);
  others = λ w p. ⊎_elim (λ e. subst (λ (x : Op). x.author ≡ me_of t.history → ⊥) e h.other) (λ q. s.others w (in_without o.author o.seq w t.waiting q).0) (in_with o w (without o.author o.seq t.waiting) p);
}

forget_storing : (n : ℕ) (t : State) (a q : ℕ) → IsStoring n t → IsStoring n (record { history = t.history; waiting = without a q t.waiting })
forget_storing n t a q s = record {
  members = s.members;
  legal = s.legal;
  sound = sound_without t.history a q t.waiting s.sound;
  accepted = s.accepted;
  waiting = λ w p. s.waiting w (in_without a q w t.waiting p).0;
  others = λ w p. s.others w (in_without a q w t.waiting p).0;
}

note_storing : (n : ℕ) (t : State) (a : ℕ) (v : List ℕ) → IsStoring n t → a < n → FitsVector n v → is_counted t.history a v ≡ true → IsStoring n (record { history = Then t.history (Acknowledged a v); waiting = t.waiting })
note_storing n t a v s l f c =
    let e = s.members in
    let b : a < members_of t.history = omega arith in
    record {
      members = s.members;
      legal = (s.legal, (b, fits_vector (members_of t.history) v (subst (λ k. FitsVector k v) (sym s.members) f)), c);
      sound = sound_grown t.history (Then t.history (Acknowledged a v)) t.waiting refl (λ w p. (waiting_at t.history t.waiting w s.sound p).2) s.sound;
      accepted = s.accepted;
      waiting = s.waiting;
      others = s.others;
    }

receive_storing : (n : ℕ) (t : State) (o : Op) → IsStoring n t → IsSpelled n o → IsStoring n (receive_after t o)
receive_storing n t o s f = go (receive t o) refl
  where
    go : (r : Answer) → receive t o ≡ r → IsStoring n (after r t o)
    go Applies e = accept_storing n t o s f (answer_applies false t.history t.waiting o e)
    go Repeats e = s
    go Waits e = hold_storing n t o s f (answer_waits t.history t.waiting o e)
    go (Refuses r) e = s

acknowledge_storing : (n : ℕ) (t : State) (a : ℕ) (v : List ℕ) → IsStoring n t → a < n → FitsVector n v → IsStoring n (acknowledge t a v)
acknowledge_storing n t a v s l f = go (is_counted t.history a v) refl
  where
    go : (b : Bool) → is_counted t.history a v ≡ b → IsStoring n (if b then record { history = Then t.history (Acknowledged a v); waiting = t.waiting } else t)
    go true e = note_storing n t a v s l f e
    go false e = s

-- an operation that waits and has its causes is accepted, or refused and forgotten
refused_storing : (n : ℕ) (t : State) (w : Op) → IsStoring n t → IsIn w t.waiting → at_most w.context (count t.history) ≡ true → IsStoring n (after_refusal (refusal t.history w) t w)
refused_storing n t w s p c = go (refusal t.history w) refl
  where
    go : (r : Option Reason) → refusal t.history w ≡ r → IsStoring n (after_refusal r t w)
    go None e =
        let h = waiting_at t.history t.waiting w s.sound p in
        accept_storing n t w s (s.waiting w p) (may_accept t.history w h.1 h.2 c e)
    go (Some r) e = forget_storing n t w.author w.seq s

made_storing : (n : ℕ) (t : State) (edit : Edit) → IsStoring n t → IsEdit edit → edit_fault t.history edit ≡ None → IsStoring n (accept t (made t.history edit))
made_storing n t edit s i f =
    let l = making.law t.history edit s.legal i f in
    accept_storing n t (made t.history edit) s (subst (λ k. IsSpelled k (made t.history edit)) s.members (made_spelled t.history edit s.legal s.accepted i f)) l.2

-- the first ready operation is released
release_storing : (n : ℕ) (t : State) → IsStoring n t → IsStoring n (release_after t)
release_storing n t s = go (first_ready t) refl
  where
    go : (m : Option Op) → first_ready t ≡ m → IsStoring n (after_release t m)
    go None e = s
    go (Some w) e = let q = found_in (λ x. at_most x.context (count t.history)) w t.waiting e in refused_storing n t w s q.0 q.1

-- ---- progress

-- receiving what has a spelling and releasing keep it
pub steps_storing : (n : ℕ) → StepsKeep by_history (IsSpelled n) (IsStoring n)
steps_storing n = record { receives = λ t o f s. receive_storing n t o s f; releases = release_storing n }

pub releases_storing : (n k : ℕ) (p : Progress) → IsStoring n p.state → IsStoring n (release_steps k p).state
releases_storing n k p s = states_after_releases by_history (IsStoring n) (release_storing n) k p s

pub noted_storing : (n : ℕ) (p : Progress) (a : ℕ) (v : List ℕ) → IsStoring n p.state → a < n → FitsVector n v → IsStoring n (acknowledge_step p a v).state
noted_storing n p a v s l f = acknowledge_keeps by_history (IsStoring n) p a v (acknowledge_storing n p.state a v s l f) s

pub edited_storing : (n : ℕ) (p : Progress) (edit : Edit) → IsStoring n p.state → IsEdit edit → edit_fault (p.state).history edit ≡ None → IsStoring n (edit_step p edit).state
edited_storing n p edit s i f = edit_keeps by_history (IsStoring n) p edit (made_storing n p.state edit s i f) s
