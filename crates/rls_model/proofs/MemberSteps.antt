-- Each step of a member keeps the invariant and refuses nothing.
use Rattle.std.proofs.Common.{◌≡◌, ℕ, ◌<◌, Bool, true, false, List, [], length, refl, sym, ap, ◌∙◌, subst, arith, inl, inr, ◌⊎◌, ⊎_elim}
use Rattle.std.specs.Prelude.{if◌then◌else◌, All, Option, Some, None}
use Rattle.rls_ident.specs.Lists.{IsIn}
use Rattle.rls_ident.specs.Vectors.{at_most}
use Rattle.rls_ident.proofs.Members.{found_in, snoc_split}
use Rattle.rls_ops.specs.declared.op.Op.{Op}
use Rattle.rls_ops.specs.declared.message.Message.{Message}
use Rattle.rls_model.specs.declared.edit.Edit.{Edit}
use Rattle.rls_model.specs.Answers.{Reason, Answer, Waits}
use Rattle.rls_model.specs.History.{Acknowledged, History, Then, ops, count, count_of, me_of, members_of}
use Rattle.rls_model.specs.Stability.{is_counted}
use Rattle.rls_model.specs.Fitting.{refusal}
use Rattle.rls_model.specs.Receiving.{State, without, accept, after, receive, receive_after, first_ready, release, release_of, after_refusal, after_release}
use Rattle.rls_model.specs.WellFormed.{IsSmall, IsOp, IsEdit}
use Rattle.rls_model.specs.Legal.{MayAccept}
use Rattle.rls_model.specs.Editing.{made, edit_fault}
use Rattle.rls_model.specs.Taking.{by_history, Limit, has_room, Progress, started, moved, with_answer, with_refusal, with_release, receive_step, release_step, release_steps, acknowledge, acknowledge_step, take_ops, take_within}
use Rattle.rls_model.specs.EditRun.{edit_step, edit_within}
use Rattle.rls_model.specs.Worlds.{World, with_state}
use Rattle.rls_model.specs.Laws.{IsAt}
use Rattle.rls_model.proofs.Machines.{ops_keep, releases_keep}
use Rattle.rls_model.proofs.Stable.{length-count}
use Rattle.rls_model.proofs.Ranges.{counts_small}
use Rattle.rls_model.proofs.Made as making
use Rattle.rls_model.proofs.OnePlace.{got_below, set_set, set_get, get_set_same}
use Rattle.rls_model.proofs.HistoryNumbers.{front_self, front_legal, front_members}
use Rattle.rls_model.proofs.WaitingFits.{in_without, in_with, waiting_at, sound_grown, sound_accepted, sound_put}
use Rattle.rls_model.proofs.WorldsInvariant.{IsHome, IsMadeAt, WasCount, IsMember, IsGood, Becomes, becomes_good}
use Rattle.rls_model.proofs.WorldsArrivals.{own_counted, home_shape, may_accept, Received, Again, Held, Taken, received}

-- ---- what a step makes of a state

-- an operation is accepted: one of another member, or an own one that an edit makes
pub accepts : (w : World) (i : ℕ) (s : State) (o : Op) → IsMember w i s → IsOp o → MayAccept s.history o → IsHome w o ⊎ (o.author ≡ i) → (o.author ≡ me_of s.history → IsMadeAt s.history o) → Becomes w i s (accept s o)
accepts w i s o r p m h l = record {
  grows = inr (front_self s.history);
  legal = (r.legal, p, m);
  sound = sound_accepted s.history o s.waiting m r.sound;
  home = λ x q. ⊎_elim (λ u. inl (r.home x u)) (λ u. subst (λ (y : Op). IsHome w y ⊎ (y.author ≡ i)) u h) (snoc_split x o (ops s.history) q);
  waits = λ x q. r.waits x (in_without o.author o.seq x s.waiting q).0;
  acks = r.acks;
  own = (r.own, l);
}

-- one is put to those that wait
holds : (w : World) (i : ℕ) (s : State) (o : Op) → IsGood w → IsAt w i s → IsHome w o → count_of s.history o.author < o.seq → Becomes w i s (after Waits s o)
holds w i s o g a h c =
    let r = g.member i s a in
    let f = home_shape w i s o g a h in
    record {
      grows = front_self s.history;
      legal = r.legal;
      sound = sound_put s.history o s.waiting f.0 f.1 c r.sound;
      home = λ x q. inl (r.home x q);
      waits = λ x q. ⊎_elim (λ u. subst (IsHome w) u h) (λ u. r.waits x (in_without o.author o.seq x s.waiting u).0) (in_with o x (without o.author o.seq s.waiting) q);
      acks = r.acks;
      own = r.own;
    }

-- an acknowledgement is counted
notes : (w : World) (i : ℕ) (s : State) (a : ℕ) (v : List ℕ) → IsGood w → IsAt w i s → WasCount w a v → is_counted s.history a v ≡ true → Becomes w i s (record { history = Then s.history (Acknowledged a v); waiting = s.waiting })
notes w i s a v g h k c =
    let r = g.member i s h in
    let t = g.member a k.0 k.2 in
    let l = front_legal k.1 (k.0).history k.3 t.legal in
    let e : members_of k.1 ≡ members_of s.history = front_members k.1 (k.0).history k.3 ∙ (t.members ∙ sym r.members) in
    let n : a < members_of s.history = let b = got_below w.states a k.0 k.2 in let q = r.members in omega arith in
    record {
      grows = inr (front_self s.history);
      legal = (r.legal, (n, (ap length (sym k.4) ∙ (length-count k.1 ∙ e), subst (λ u. All IsSmall u) k.4 (counts_small k.1 l))), c);
      sound = sound_grown s.history (Then s.history (Acknowledged a v)) s.waiting refl (λ x p. (waiting_at s.history s.waiting x r.sound p).2) r.sound;
      home = λ x q. inl (r.home x q);
      waits = r.waits;
      acks = λ b u p. ⊎_elim (λ q. subst (WasCount w b) q.1 (subst (λ n. WasCount w n v) q.0 k)) (λ q. r.acks b u q) p;
      own = r.own;
    }

-- ---- own operations

made_own : (H : History) (edit : Edit) → (made H edit).author ≡ me_of H
unfolding made
made_own H edit = refl

pub edits_own : (w : World) (i : ℕ) (s : State) (edit : Edit) → IsMember w i s → IsEdit edit → edit_fault s.history edit ≡ None → Becomes w i s (accept s (made s.history edit))
edits_own w i s edit r p f =
    let l = making.law s.history edit r.legal p f in
    accepts w i s (made s.history edit) r l.1 l.2 (inr (made_own s.history edit ∙ r.me)) (λ e. (edit, p, f, refl))

-- ---- progress

-- the world with the state reached so far is good, and nothing was refused
pub record IsGoing (w : World) (i : ℕ) (p : Progress) : Type 0 where
  pub good : IsGood (with_state w i p.state)
  pub clean : p.counts.refused ≡ []

pub here : (w : World) (i : ℕ) (s t : State) → IsAt w i s → IsAt (with_state w i t) i t
here w i s t h = get_set_same w.states i s t h

pub keep : (w : World) (i : ℕ) (s t u : State) → IsAt w i s → IsGood (with_state w i t) → Becomes (with_state w i t) i t u → IsGood (with_state w i u)
keep w i s t u h g b =
    subst (λ xs. IsGood (record w { states = xs })) (set_set w.states i t u) (becomes_good (with_state w i t) i t u g (here w i s t h) b)

pub start : (w : World) (i : ℕ) (s : State) (limit : Limit) → IsGood w → IsAt w i s → IsGoing w i (started limit s)
start w i s limit g h = record { good = subst (λ xs. IsGood (record w { states = xs })) (sym (set_get w.states i s h)) g; clean = refl }

pub received_going : (w : World) (i : ℕ) (s : State) (p : Progress) (o : Op) → IsAt w i s → IsGoing w i p → IsHome (with_state w i p.state) o → IsGoing w i (receive_step p o)
received_going w i s p o h g k = go (has_room p.limit)
  where
    step : (r : Answer) → Received p.state o r → IsGoing w i (with_answer (moved p (after r p.state o)) o r)
    step r (Again e c) = subst (λ a. IsGoing w i (with_answer (moved p (after a p.state o)) o a)) (sym e) (record { good = g.good; clean = g.clean })
    step r (Held e c) =
        subst (λ a. IsGoing w i (with_answer (moved p (after a p.state o)) o a)) (sym e)
        (record { good = keep w i s p.state (after Waits p.state o) h g.good (holds (with_state w i p.state) i p.state o g.good (here w i s p.state h) k c); clean = g.clean })
    step r (Taken e m) =
        let other : o.author ≡ me_of (p.state).history → ⊥ = λ f.
        let c = own_counted (with_state w i p.state) i p.state o g.good (here w i s p.state h) k (f ∙ ((g.good).member i p.state (here w i s p.state h)).me) in let n = m.next in omega arith in
        let b = accepts (with_state w i p.state) i p.state o ((g.good).member i p.state (here w i s p.state h)) (home_shape (with_state w i p.state) i p.state o g.good (here w i s p.state h) k).0 m (inl k) (λ f. absurd (other f)) in
        subst (λ a. IsGoing w i (with_answer (moved p (after a p.state o)) o a)) (sym e) (record { good = keep w i s p.state (accept p.state o) h g.good b; clean = g.clean })

    go : (b : Bool) → IsGoing w i (if b then with_answer (moved p (receive_after p.state o)) o (receive p.state o) else p)
    go true = step (receive p.state o) (received (with_state w i p.state) i p.state o g.good (here w i s p.state h) k)
    go false = g

-- what a release makes where this operation is the first ready one
abbrev pub released_by : Progress → Option Op → Progress
released_by p None = p
released_by p (Some x) = with_refusal (moved p (after_refusal (refusal (p.state).history x) p.state x)) x.author x.seq (refusal (p.state).history x)

pub release_is : (p : Progress) (m : Option Op) → first_ready p.state ≡ m → with_release p (release p.state) ≡ released_by p m
release_is p None e = ap (λ k. with_release p (release_of p.state k)) e
release_is p (Some x) e = ap (λ k. with_release p (release_of p.state k)) e ∙ ap (λ k. with_refusal (moved p (after_release p.state k)) x.author x.seq (refusal (p.state).history x)) e

-- what waits and has its causes is another member's and may be accepted
pub ready_fits : (w : World) (i : ℕ) (s : State) (p : Progress) → IsAt w i s → IsGoing w i p → (x : Op) → IsIn x (p.state).waiting → at_most x.context (count (p.state).history) ≡ true → (x.author ≡ i → ⊥) × MayAccept (p.state).history x
ready_fits w i s p h g x q c =
    let v = with_state w i p.state in
    let at : IsAt v i p.state = here w i s p.state h in
    let r = (g.good).member i p.state at in
    let f = waiting_at (p.state).history (p.state).waiting x r.sound q in
    let n : x.author ≡ i → ⊥ = λ e. let d = own_counted v i p.state x g.good at (r.waits x q) e in let k = f.2 in omega arith in
    (n, may_accept v i p.state x g.good at (r.waits x q) n f.2 c)

pub released_going : (w : World) (i : ℕ) (s : State) (p : Progress) → IsAt w i s → IsGoing w i p → IsGoing w i (release_step p)
released_going w i s p h g = go (has_room p.limit)
  where
    at : IsAt (with_state w i p.state) i p.state
    at = here w i s p.state h

    r : IsMember (with_state w i p.state) i p.state
    r = (g.good).member i p.state at

    step : (x : Op) → IsIn x (p.state).waiting → at_most x.context (count (p.state).history) ≡ true → (f : Option Reason) → f ≡ refusal (p.state).history x →
        IsGoing w i (with_refusal (moved p (after_refusal f p.state x)) x.author x.seq f)
    step x q c f e =
        let m = ready_fits w i s p h g x q c in
        let b = accepts (with_state w i p.state) i p.state x r (home_shape (with_state w i p.state) i p.state x g.good at (r.waits x q)).0 (m.1) (inl (r.waits x q)) (λ k. absurd (m.0 (k ∙ r.me))) in
        subst (λ f. IsGoing w i (with_refusal (moved p (after_refusal f p.state x)) x.author x.seq f)) (sym (e ∙ (m.1).fits))
        (record { good = keep w i s p.state (accept p.state x) h g.good b; clean = g.clean })

    found : (m : Option Op) → first_ready p.state ≡ m → IsGoing w i (released_by p m)
    found None e = g
    found (Some x) e = let q = found_in (λ y. at_most y.context (count (p.state).history)) x (p.state).waiting e in step x q.0 q.1 (refusal (p.state).history x) refl

    go : (b : Bool) → IsGoing w i (if b then with_release p (release p.state) else p)
    go true = subst (IsGoing w i) (sym (release_is p (first_ready p.state) refl)) (found (first_ready p.state) refl)
    go false = g

pub releases_going : (w : World) (i : ℕ) (s : State) (n : ℕ) (p : Progress) → IsAt w i s → IsGoing w i p → IsGoing w i (release_steps n p)
releases_going w i s n p h g = releases_keep by_history (IsGoing w i) (λ q r. released_going w i s q h r) n p g

-- ---- whole events

pub ops_going : (w : World) (i : ℕ) (s : State) (p : Progress) (m : Message) (os : List Op) → IsAt w i s → IsGoing w i p → IsIn m w.sent → ((o : Op) → IsIn o os → IsIn o m.ops) → IsGoing w i (take_ops p os)
ops_going w i s p m os h g k f =
    ops_keep by_history (λ o. IsIn o m.ops) (IsGoing w i) (λ q o u r. received_going w i s q o h r (((r.good).message m k).ops o u)) (λ q r. released_going w i s q h r) os p f g

pub noted_going : (w : World) (i : ℕ) (s : State) (p : Progress) (m : Message) → IsAt w i s → IsGoing w i p → IsIn m w.sent → IsGoing w i (acknowledge_step p m.from m.vector)
noted_going w i s p m h g k = go (has_room p.limit)
  where
    step : (b : Bool) → is_counted (p.state).history m.from m.vector ≡ b →
        IsGoing w i (moved p (if b then record { history = Then (p.state).history (Acknowledged m.from m.vector); waiting = (p.state).waiting } else p.state))
    step true e = record {
      good = keep w i s p.state (record { history = Then (p.state).history (Acknowledged m.from m.vector); waiting = (p.state).waiting }) h g.good
          (notes (with_state w i p.state) i p.state m.from m.vector g.good (here w i s p.state h) ((g.good).message m k).vector e);
      clean = g.clean;
    }
    step false e = record { good = g.good; clean = g.clean }

    go : (b : Bool) → IsGoing w i (if b then moved p (acknowledge p.state m.from m.vector) else p)
    go true = step (is_counted (p.state).history m.from m.vector) refl
    go false = g

pub taken_going : (w : World) (i : ℕ) (s : State) (m : Message) (limit : Limit) → IsGood w → IsAt w i s → IsIn m w.sent → IsGoing w i (take_within limit s m)
unfolding take_within
taken_going w i s m limit g h k = noted_going w i s (take_ops (started limit s) m.ops) m h (ops_going w i s (started limit s) m m.ops h (start w i s limit g h) k (λ o p. p)) k

-- an edit without a fault
pub made_going : (w : World) (i : ℕ) (s : State) (edit : Edit) (limit : Limit) → IsGood w → IsAt w i s → IsEdit edit → edit_fault s.history edit ≡ None → IsGoing w i (edit_step (started limit s) edit)
made_going w i s edit limit g h e f = go (has_room limit)
  where
    go : (b : Bool) → IsGoing w i (if b then moved (started limit s) (accept s (made s.history edit)) else started limit s)
    go true = record { good = becomes_good w i s (accept s (made s.history edit)) g h (edits_own w i s edit (g.member i s h) e f); clean = refl }
    go false = start w i s limit g h

pub edited_going : (w : World) (i : ℕ) (s : State) (edit : Edit) (limit : Limit) → IsGood w → IsAt w i s → IsEdit edit → edit_fault s.history edit ≡ None → IsGoing w i (edit_within limit s edit)
unfolding edit_within
edited_going w i s edit limit g h e f = let q = edit_step (started limit s) edit in releases_going w i s (length (q.state).waiting) q h (made_going w i s edit limit g h e f)
