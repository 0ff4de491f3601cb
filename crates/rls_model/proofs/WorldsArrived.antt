-- In a good world what a sent message brings stands in the history, or waits for its causes.
use Rattle.std.proofs.Common.{◌≡◌, ℕ, ◌≤◌, arith, Bool, true, false, List, [], ◌∷◌, length, refl, sym, ap, ◌∙◌, subst, inl, inr, ◌⊎◌, ⊎_elim}
use Rattle.std.specs.Prelude.{if◌then◌else◌, Option, Some, None}
use Rattle.rls_ident.specs.Lists.{IsIn}
use Rattle.rls_ident.specs.Vectors.{at_most}
use Rattle.rls_ident.proofs.Members.{bool_cases, found_in, in_left, in_right, not_found, true_false}
use Rattle.rls_ops.specs.declared.op.Op.{Op}
use Rattle.rls_ops.specs.declared.message.Message.{Message}
use Rattle.rls_ops.proofs.Waiting.{numbered_is}
use Rattle.rls_model.specs.Answers.{Answer, Waits}
use Rattle.rls_model.specs.declared.edit.Edit.{Edit}
use Rattle.rls_model.specs.Editing.{made}
use Rattle.rls_model.specs.History.{ops, count, count_of, me_of}
use Rattle.rls_model.specs.History as history
use Rattle.rls_model.specs.Stability.{is_counted}
use Rattle.rls_model.specs.Fitting.{refusal}
use Rattle.rls_model.specs.Receiving.{State, is_numbered, comes_before, with_waiting, without, accept, after, receive, receive_after, first_ready, release, after_refusal}
use Rattle.rls_model.specs.Taking.{by_history, has_room, Progress, started, moved, with_answer, with_refusal, with_release, receive_step, release_step, release_steps, with_releases, acknowledge, acknowledge_step, take_ops, take_within}
use Rattle.rls_model.specs.Worlds.{World, with_state}
use Rattle.rls_model.specs.Laws.{IsAt, SentArrives}
use Rattle.rls_model.proofs.Machines.{ops_keep, received_limit, releases_keep}
use Rattle.rls_model.proofs.HistoryNumbers.{number_counted, with_number}
use Rattle.rls_model.proofs.WorldsInvariant.{IsHome, IsGood}
use Rattle.rls_model.proofs.WaitingFits.{waiting_at}
use Rattle.rls_model.proofs.WorldsArrivals.{one_op, own_counted, Received, Again, Held, Taken, received}
use Rattle.rls_model.proofs.MemberSteps.{IsGoing, here, start, ready_fits, received_going, released_by, release_is, released_going, releases_going}
use Rattle.rls_model.proofs.NothingReady.{released_done, taken_done}
use Rattle.rls_model.proofs.WorldsLaws.{good_after, rests_after}

-- ---- what waits

without_in : (a s : ℕ) (x : Op) (W : List Op) → IsIn x W → is_numbered a s x ≡ false → IsIn x (without a s W)
without_in a s x [] p h = absurd p
without_in a s x (y ∷ ys) p h = go (is_numbered a s y) refl p (λ q. without_in a s x ys q h)
  where
    go : (b : Bool) → is_numbered a s y ≡ b → (y ≡ x) ⊎ IsIn x ys → (IsIn x ys → IsIn x (without a s ys)) → IsIn x (if b then without a s ys else y ∷ without a s ys)
    go true e (inl q) ih = absurd (true_false (is_numbered a s y) e (ap (is_numbered a s) q ∙ h))
    go true e (inr q) ih = ih q
    go false e (inl q) ih = inl q
    go false e (inr q) ih = inr (ih q)

with_in : (o x : Op) (W : List Op) → (o ≡ x) ⊎ IsIn x W → IsIn x (with_waiting o W)
with_in o x [] p = p
with_in o x (y ∷ ys) p = go (comes_before y o) p (λ q. with_in o x ys q)
  where
    go : (b : Bool) → (o ≡ x) ⊎ ((y ≡ x) ⊎ IsIn x ys) → ((o ≡ x) ⊎ IsIn x ys → IsIn x (with_waiting o ys)) → IsIn x (if b then y ∷ with_waiting o ys else o ∷ y ∷ ys)
    go true (inl q) ih = inr (ih (inl q))
    go true (inr (inl q)) ih = inl q
    go true (inr (inr q)) ih = inr (ih (inr q))
    go false q ih = q

-- ---- what has arrived

-- the operation stands in the history or waits
abbrev pub IsThere : State → Op → Type 0
IsThere t o = IsIn o (ops t.history) ⊎ IsIn o t.waiting

-- where another with its number is the operation itself it stays there
accept_keeps : (t : State) (o x : Op) → (o.author ≡ x.author → o.seq ≡ x.seq → o ≡ x) → IsThere t o → IsThere (accept t x) o
accept_keeps t o x f (inl p) = inl (in_left o (ops t.history) (x ∷ []) p)
accept_keeps t o x f (inr p) =
    bool_cases (is_numbered x.author x.seq o)
    (λ e. let n = numbered_is x.author x.seq o e in inl (in_right o (ops t.history) (x ∷ []) (inl (sym (f n.0 n.1)))))
    (λ e. inr (without_in x.author x.seq o t.waiting p e))

hold_keeps : (t : State) (o x : Op) → (o.author ≡ x.author → o.seq ≡ x.seq → o ≡ x) → IsThere t o → IsThere (after Waits t x) o
hold_keeps t o x f (inl p) = inl p
hold_keeps t o x f (inr p) =
    bool_cases (is_numbered x.author x.seq o)
    (λ e. let n = numbered_is x.author x.seq o e in inr (with_in x o (without x.author x.seq t.waiting) (inl (sym (f n.0 n.1)))))
    (λ e. inr (with_in x o (without x.author x.seq t.waiting) (inr (without_in x.author x.seq o t.waiting p e))))

module _ (w : World) (i : ℕ) (s : State) (h : IsAt w i s) where
  home : (p : Progress) → IsGoing w i p → (o : Op) → IsThere p.state o → IsHome (with_state w i p.state) o
  home p g o k =
      let r = (g.good).member i p.state (here w i s p.state h) in
      ⊎_elim (λ q. r.home o q) (λ q. r.waits o q) k

  one : (p : Progress) → IsGoing w i p → (o x : Op) → IsHome (with_state w i p.state) o → IsHome (with_state w i p.state) x → o.author ≡ x.author → o.seq ≡ x.seq → o ≡ x
  one p g o x k l e f = one_op (with_state w i p.state) o x g.good k l e f

  -- another operation is received
  receive_keeps : (p : Progress) (o x : Op) → IsGoing w i p → IsHome (with_state w i p.state) x → IsThere p.state o → IsThere (receive_step p x).state o
  receive_keeps p o x g k t = go (has_room p.limit)
    where
      f : o.author ≡ x.author → o.seq ≡ x.seq → o ≡ x
      f = one p g o x (home p g o t) k

      step : (r : Answer) → Received p.state x r → IsThere (with_answer (moved p (after r p.state x)) x r).state o
      step r (Again e c) = subst (λ a. IsThere (with_answer (moved p (after a p.state x)) x a).state o) (sym e) t
      step r (Held e c) = subst (λ a. IsThere (with_answer (moved p (after a p.state x)) x a).state o) (sym e) (hold_keeps p.state o x f t)
      step r (Taken e m) = subst (λ a. IsThere (with_answer (moved p (after a p.state x)) x a).state o) (sym e) (accept_keeps p.state o x f t)

      go : (b : Bool) → IsThere (if b then with_answer (moved p (receive_after p.state x)) x (receive p.state x) else p).state o
      go true = step (receive p.state x) (received (with_state w i p.state) i p.state x g.good (here w i s p.state h) k)
      go false = t

  -- the operation itself is received
  receive_there : (p : Progress) (o : Op) → p.limit ≡ None → IsGoing w i p → IsHome (with_state w i p.state) o → IsThere (receive_step p o).state o
  receive_there p o e g k =
      let v = with_state w i p.state in
      let at : IsAt v i p.state = here w i s p.state h in
      let r = (g.good).member i p.state at in
      let q : Bool → Progress = λ b. if b then with_answer (moved p (receive_after p.state o)) o (receive p.state o) else p in
      subst (λ l. IsThere (q (has_room l)).state o) (sym e) (step r.legal (receive p.state o) (received v i p.state o g.good at k))
    where
      old : o.seq ≤ count_of (p.state).history o.author → IsIn o (ops (p.state).history)
      old c =
          let v = with_state w i p.state in
          let r = (g.good).member i p.state (here w i s p.state h) in
          let z = number_counted (k.0).history ((g.good).member o.author k.0 k.1).legal o k.2 in
          let x = with_number (p.state).history r.legal o.author o.seq z.0 c in
          subst (λ (y : Op). IsIn y (ops (p.state).history)) (one_op v x.0 o g.good (r.home x.0 x.1) k x.2 x.3) x.1

      step : {L : Type 0} → L → (r : Answer) → Received p.state o r → IsThere (with_answer (moved p (after r p.state o)) o r).state o
      step l r (Again e c) = subst (λ a. IsThere (with_answer (moved p (after a p.state o)) o a).state o) (sym e) (inl (old c))
      step l r (Held e c) = subst (λ a. IsThere (with_answer (moved p (after a p.state o)) o a).state o) (sym e) (inr (with_in o o (without o.author o.seq (p.state).waiting) (inl refl)))
      step l r (Taken e m) = subst (λ a. IsThere (with_answer (moved p (after a p.state o)) o a).state o) (sym e) (inl (in_right o (ops (p.state).history) (o ∷ []) (inl refl)))

  release_keeps : (p : Progress) (o : Op) → IsGoing w i p → IsThere p.state o → IsThere (release_step p).state o
  release_keeps p o g t = go (has_room p.limit)
    where
      step : (x : Op) → IsIn x (p.state).waiting → at_most x.context (count (p.state).history) ≡ true → IsThere (with_refusal (moved p (after_refusal (refusal (p.state).history x) p.state x)) x.author x.seq (refusal (p.state).history x)).state o
      step x q c =
          let m = (ready_fits w i s p h g x q c).1 in
          subst (λ f. IsThere (with_refusal (moved p (after_refusal f p.state x)) x.author x.seq f).state o) (sym m.fits)
          (accept_keeps p.state o x (one p g o x (home p g o t) (home p g x (inr q))) t)

      found : (m : Option Op) → first_ready p.state ≡ m → IsThere (released_by p m).state o
      found None e = t
      found (Some x) e = let q = found_in (λ y. at_most y.context (count (p.state).history)) x (p.state).waiting e in step x q.0 q.1

      go : (b : Bool) → IsThere (if b then with_release p (release p.state) else p).state o
      go true = subst (λ (q : Progress). IsThere q.state o) (sym (release_is p (first_ready p.state) refl)) (found (first_ready p.state) refl)
      go false = t

  -- and both hold on the way
  abbrev Goes : Op → Progress → Type 0
  Goes o p = IsGoing w i p × IsThere p.state o

  releases_there : (n : ℕ) (p : Progress) (o : Op) → IsGoing w i p → IsThere p.state o → IsThere (release_steps n p).state o
  releases_there n p o g t = (releases_keep by_history (Goes o) (λ q k. (released_going w i s q h k.0, release_keeps q o k.0 k.1)) n p (g, t)).1

  -- one operation after another
  going : (p : Progress) (m : Message) (x : Op) → IsGoing w i p → IsIn m w.sent → IsIn x m.ops → IsGoing w i (receive_step p x)
  going p m x g k q = received_going w i s p x h g (((g.good).message m k).ops x q)

  ops_stay : (p : Progress) (m : Message) (os : List Op) (o : Op) → IsGoing w i p → IsIn m w.sent → ((x : Op) → IsIn x os → IsIn x m.ops) → IsThere p.state o → IsThere (take_ops p os).state o
  ops_stay p m os o g k f t =
      (ops_keep by_history (λ x. IsIn x m.ops) (Goes o) (λ q x u r. (going q m x r.0 k u, receive_keeps q o x r.0 ((((r.0).good).message m k).ops x u) r.1)) (λ q r. (released_going w i s q h r.0, release_keeps q o r.0 r.1)) os p f (g, t)).1

  ops_there : (p : Progress) (m : Message) (os : List Op) (o : Op) → p.limit ≡ None → IsGoing w i p → IsIn m w.sent → ((x : Op) → IsIn x os → IsIn x m.ops) → IsIn o os → IsThere (take_ops p os).state o
  ops_there p m [] o e g k f u = absurd u
  ops_there p m (x ∷ os) o e g k f u =
      let q = receive_step p x in
      let r = going p m x g k (f x (inl refl)) in
      let n = length (q.state).waiting in
      let next = releases_going w i s n q h r in
      ⊎_elim
      (λ z. ops_stay (with_releases q) m os o next k (λ y v. f y (inr v))
      (releases_there n q o r (subst (λ y. IsThere (receive_step p x).state y) z (receive_there p x e g (((g.good).message m k).ops x (f x (inl refl)))))))
      (λ z. ops_there (with_releases q) m os o (released_done q (received_limit by_history p x e)).0 next k (λ y v. f y (inr v)) z)
      u

noted_keeps : (p : Progress) (a : ℕ) (v : List ℕ) (o : Op) → IsThere p.state o → IsThere (acknowledge_step p a v).state o
noted_keeps p a v o t = go (has_room p.limit)
  where
    note : (b : Bool) → IsThere (if b then record { history = history.Then (p.state).history (history.Acknowledged a v); waiting = (p.state).waiting } else p.state) o
    note true = t
    note false = t

    go : (b : Bool) → IsThere (if b then moved p (acknowledge p.state a v) else p).state o
    go true = note (is_counted (p.state).history a v)
    go false = t

pub message_there : (w : World) (i : ℕ) (s : State) (m : Message) (o : Op) → IsGood w → IsAt w i s → IsIn m w.sent → IsIn o m.ops → IsThere (take_within None s m).state o
unfolding take_within
message_there w i s m o g h k p =
    noted_keeps (take_ops (started None s) m.ops) m.from m.vector o
    (ops_there w i s h (started None s) m m.ops o refl (start w i s None g h) k (λ x q. q) p)

-- ---- what is there stays there

pub message_stays : (w : World) (i : ℕ) (s : State) (m : Message) (o : Op) → IsGood w → IsAt w i s → IsIn m w.sent → IsThere s o → IsThere (take_within None s m).state o
unfolding take_within
message_stays w i s m o g h k t = noted_keeps (take_ops (started None s) m.ops) m.from m.vector o (ops_stay w i s h (started None s) m m.ops o (start w i s None g h) k (λ x q. q) t)

made_by_me : (t : State) (edit : Edit) → (made t.history edit).author ≡ me_of t.history
unfolding made
made_by_me t edit = refl

-- what waits is of other members, so an own operation takes none of it out
pub edit_stays : (w : World) (i : ℕ) (t : State) (edit : Edit) (o : Op) → IsGood w → IsAt w i t → IsThere t o → IsThere (accept t (made t.history edit)) o
edit_stays w i t edit o g h (inl p) = inl (in_left o (ops t.history) (made t.history edit ∷ []) p)
edit_stays w i t edit o g h (inr p) =
    let r = g.member i t h in
    let above = (waiting_at t.history t.waiting o r.sound p).2 in
    accept_keeps t o (made t.history edit) (λ e f. let c = own_counted w i t o g h (r.waits o p) (e ∙ (made_by_me t edit ∙ r.me)) in absurd (omega arith)) (inr p)

-- ---- the law

pub law : SentArrives
law w hs i s m o a q h k p =
    let t = (take_within None s m).state in
    let rest = (taken_done s m (rests_after w hs a q i s h)).1 in
    ⊎_elim (λ u. inl u) (λ u. inr (u, not_found (λ x. at_most x.context (count t.history)) o t.waiting rest u)) (message_there w i s m o (good_after w hs a) h k p)
