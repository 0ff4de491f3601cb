-- What quiet events make of a world: all go on, and nobody learns what nobody knew.
use Rattle.std.proofs.Common.{◌≡◌, ℕ, zero, suc, Bool, true, false, List, [], ◌∷◌, ◌++◌, length, refl, sym, ap, ◌∙◌, subst, inl, inr, ⊎_elim}
use Rattle.std.specs.Prelude.{◌==◌, if◌then◌else◌, slice_get, slice_set, Option, Some, None}
use Rattle.rls_ident.specs.Lists.{IsIn}
use Rattle.rls_ident.specs.Vectors.{at_most}
use Rattle.rls_ident.proofs.Members.{bool_cases, eq_is, eq_not, found_in, get_in, snoc_split}
use Rattle.rls_ops.specs.declared.op.Op.{Op}
use Rattle.rls_ops.specs.declared.message.Message.{Message}
use Rattle.rls_model.specs.Answers.{Answer, Waits}
use Rattle.rls_model.specs.declared.event.Event.{Event}
use Rattle.rls_model.specs.declared.event.Event.TheVariants as events
use Rattle.rls_model.specs.declared.event.StepError.{StepError}
use Rattle.rls_model.specs.History.{Acknowledged, Then, ops, count}
use Rattle.rls_model.specs.Stability.{is_counted}
use Rattle.rls_model.specs.Fitting.{refusal}
use Rattle.rls_model.specs.Receiving.{State, without, accept, after, receive, receive_after, first_ready, release, after_refusal}
use Rattle.rls_model.specs.Taking.{by_history, has_room, Progress, started, moved, with_answer, with_refusal, with_release, receive_step, release_step, acknowledge, acknowledge_step, take_ops, take_within, message_for}
use Rattle.rls_model.specs.Worlds.{World, fault_of, with_state, send_at, deliver_at, step_of, unless, happens, Happening, run}
use Rattle.rls_model.specs.Laws.{IsAt}
use Rattle.rls_model.specs.Rounds.{IsQuiet, AreQuiet}
use Rattle.rls_model.proofs.Machines.{ops_keep}
use Rattle.rls_model.proofs.OnePlace.{get_set_other, get_set_same}
use Rattle.rls_model.proofs.HistoryNumbers.{IsFront, front_self, front_trans}
use Rattle.rls_model.proofs.WaitingFits.{in_with, in_without}
use Rattle.rls_model.proofs.WorldsInvariant.{IsHome, IsGood, one_state, at_split}
use Rattle.rls_model.proofs.WorldsArrivals.{Received, Again, Held, Taken, received}
use Rattle.rls_model.proofs.WorldsArrived.{IsThere, message_stays}
use Rattle.rls_model.proofs.WorldsLaws.{happens_keeps}
use Rattle.rls_model.proofs.WorldsPast.{taking_goes_on}
use Rattle.rls_model.proofs.MemberSteps.{IsGoing, here, start, ready_fits, received_going, released_by, release_is, released_going}
use Rattle.rls_model.proofs.NothingReady.{IsAtRest}

-- ---- taking a message makes nothing known that nobody knew

accept_old : (P : Op → Type 0) (t : State) (x : Op) → P x → ((o : Op) → IsThere t o → P o) → (o : Op) → IsThere (accept t x) o → P o
accept_old P t x k f o (inl p) = ⊎_elim (λ q. f o (inl q)) (λ q. subst P q k) (snoc_split o x (ops t.history) p)
accept_old P t x k f o (inr p) = f o (inr (in_without x.author x.seq o t.waiting p).0)

hold_old : (P : Op → Type 0) (t : State) (x : Op) → P x → ((o : Op) → IsThere t o → P o) → (o : Op) → IsThere (after Waits t x) o → P o
hold_old P t x k f o (inl p) = f o (inl p)
hold_old P t x k f o (inr p) = ⊎_elim (λ q. subst P q k) (λ q. f o (inr (in_without x.author x.seq o t.waiting q).0)) (in_with x o (without x.author x.seq t.waiting) p)

module _ (w : World) (g : IsGood w) (i : ℕ) (s : State) (h : IsAt w i s) where
  -- all that is there stood in its author's history before
  abbrev IsOld : Progress → Type 0
  IsOld p = IsGoing w i p × ((o : Op) → IsThere p.state o → IsHome w o)

  receive_old : (p : Progress) (m : Message) (x : Op) → IsIn m w.sent → IsIn x m.ops → IsOld p → IsOld (receive_step p x)
  receive_old p m x k u r = (received_going w i s p x h r.0 there, go (has_room p.limit))
    where
      there : IsHome (with_state w i p.state) x
      there = (((r.0).good).message m k).ops x u

      known : IsHome w x
      known = (g.message m k).ops x u

      step : (a : Answer) → Received p.state x a → (o : Op) → IsThere (with_answer (moved p (after a p.state x)) x a).state o → IsHome w o
      step a (Again e c) o = subst (λ b. IsThere (with_answer (moved p (after b p.state x)) x b).state o → IsHome w o) (sym e) (r.1 o)
      step a (Held e c) o = subst (λ b. IsThere (with_answer (moved p (after b p.state x)) x b).state o → IsHome w o) (sym e) (hold_old (IsHome w) p.state x known r.1 o)
      step a (Taken e c) o = subst (λ b. IsThere (with_answer (moved p (after b p.state x)) x b).state o → IsHome w o) (sym e) (accept_old (IsHome w) p.state x known r.1 o)

      go : (b : Bool) → (o : Op) → IsThere (if b then with_answer (moved p (receive_after p.state x)) x (receive p.state x) else p).state o → IsHome w o
      go true = step (receive p.state x) (received (with_state w i p.state) i p.state x (r.0).good (here w i s p.state h) there)
      go false = r.1

  release_old : (p : Progress) → IsOld p → IsOld (release_step p)
  release_old p r = (released_going w i s p h r.0, go (has_room p.limit))
    where
      step : (x : Op) → IsIn x (p.state).waiting → at_most x.context (count (p.state).history) ≡ true → (o : Op) →
          IsThere (with_refusal (moved p (after_refusal (refusal (p.state).history x) p.state x)) x.author x.seq (refusal (p.state).history x)).state o → IsHome w o
      step x q c o =
          let m = (ready_fits w i s p h r.0 x q c).1 in
          subst (λ f. IsThere (with_refusal (moved p (after_refusal f p.state x)) x.author x.seq f).state o → IsHome w o) (sym m.fits) (accept_old (IsHome w) p.state x (r.1 x (inr q)) r.1 o)

      found : (m : Option Op) → first_ready p.state ≡ m → (o : Op) → IsThere (released_by p m).state o → IsHome w o
      found None e = r.1
      found (Some x) e = let q = found_in (λ y. at_most y.context (count (p.state).history)) x (p.state).waiting e in step x q.0 q.1

      go : (b : Bool) → (o : Op) → IsThere (if b then with_release p (release p.state) else p).state o → IsHome w o
      go true = subst (λ (q : Progress). (o : Op) → IsThere q.state o → IsHome w o) (sym (release_is p (first_ready p.state) refl)) (found (first_ready p.state) refl)
      go false = r.1

  noted_old : (p : Progress) (a : ℕ) (v : List ℕ) → ((o : Op) → IsThere p.state o → IsHome w o) → (o : Op) → IsThere (acknowledge_step p a v).state o → IsHome w o
  noted_old p a v f = go (has_room p.limit)
    where
      note : (b : Bool) → (o : Op) → IsThere (if b then record { history = Then (p.state).history (Acknowledged a v); waiting = (p.state).waiting } else p.state) o → IsHome w o
      note true = f
      note false = f

      go : (b : Bool) → (o : Op) → IsThere (if b then moved p (acknowledge p.state a v) else p).state o → IsHome w o
      go true = note (is_counted (p.state).history a v)
      go false = f

  -- so it is after a message
  taken_old : (m : Message) → IsIn m w.sent → (o : Op) → IsThere (take_within None s m).state o → IsHome w o
  unfolding take_within
  taken_old m k =
      let r = g.member i s h in
      let first : IsOld (started None s) = (start w i s None g h, λ o t. ⊎_elim (λ p. r.home o p) (λ p. r.waits o p) t) in
      noted_old (take_ops (started None s) m.ops) m.from m.vector (ops_keep by_history (λ x. IsIn x m.ops) IsOld (λ q x u d. receive_old q m x k u d) release_old m.ops (started None s) (λ x u. u) first).1

-- ---- quiet events

-- every member goes on and keeps what is there, nobody knows what nobody knew, and no message goes
pub record Goes (w v : World) : Type 0 where
  pub at : (i : ℕ) (s : State) → IsAt w i s → (t : State) × IsAt v i t × IsFront s.history t.history × ((o : Op) → IsThere s o → IsThere t o)
  pub was : (i : ℕ) (t : State) → IsAt v i t → (s : State) × IsAt w i s
  pub old : (o : Op) → IsHome v o → IsHome w o
  pub sent : (k : ℕ) (m : Message) → slice_get w.sent k ≡ Some m → slice_get v.sent k ≡ Some m

pub goes_none : (w : World) → Goes w w
goes_none w = record { at = λ i s h. (s, h, front_self s.history, λ o t. t); was = λ i t h. (t, h); old = λ o k. k; sent = λ k m e. e }

pub goes_both : (u v w : World) → Goes u v → Goes v w → Goes u w
goes_both u v w a b = record {
  at = λ i s h. let p = a.at i s h in let q = b.at i p.0 p.1 in (q.0, q.1, front_trans s.history (p.0).history (q.0).history p.2 q.2, λ o t. q.3 o (p.3 o t));
  was = λ i t h. let q = b.was i t h in a.was i q.0 q.1;
  old = λ o k. a.old o (b.old o k);
  sent = λ k m e. b.sent k m (a.sent k m e);
}

get_more : {A : Type 0} (xs : List A) (y x : A) (k : ℕ) → slice_get xs k ≡ Some x → slice_get (xs ++ (y ∷ [])) k ≡ Some x
get_more [] y x k e = absurd (cc)
get_more (z ∷ zs) y x zero e = e
get_more (z ∷ zs) y x (suc k) e = get_more zs y x k e

pub get_last : {A : Type 0} (xs : List A) (y : A) → slice_get (xs ++ (y ∷ [])) (length xs) ≡ Some y
get_last [] y = refl
get_last (z ∷ zs) y = get_last zs y

send_goes : (w : World) (to : ℕ) (s : Option State) → Goes w (send_at None w s to)
send_goes w to None = goes_none w
send_goes w to (Some s) = record { at = λ i u h. (u, h, front_self u.history, λ o t. t); was = λ i u h. (u, h); old = λ o k. k; sent = λ k m e. get_more w.sent (message_for s.history to) m k e }

taken_goes : (w : World) (i : ℕ) (s : State) (m : Message) → IsGood w → IsAt w i s → IsIn m w.sent → Goes w (with_state w i (take_within None s m).state)
taken_goes w i s m g h k = record {
  at = λ j u q. bool_cases (i == j) (λ e. mine j u q (eq_is i j e)) (λ e. (u, get_set_other w.states i j t (eq_not i j e) ∙ q, front_self u.history, λ o p. p));
  was = λ j u p. ⊎_elim (λ e. (s, subst (λ n. IsAt w n s) e.0 h)) (λ q. (u, q)) (at_split w i j s t u h p);
  old = λ o p. ⊎_elim (λ e. taken_old w g i s h m k o (inl (subst (λ (x : State). IsIn o (ops x.history)) (sym e.1) p.2))) (λ q. (p.0, q, p.2)) (at_split w i o.author s t p.0 h p.1);
  sent = λ n x e. e;
}
  where
    t : State
    t = (take_within None s m).state

    mine : (j : ℕ) (u : State) → IsAt w j u → i ≡ j → (v : State) × IsAt (with_state w i t) j v × IsFront u.history v.history × ((o : Op) → IsThere u o → IsThere v o)
    mine j u q c =
        let same = one_state w i j s u h q c in (
          t,
          ap (slice_get (slice_set w.states i t)) (sym c) ∙ get_set_same w.states i s t h,
          subst (λ (x : State). IsFront x.history t.history) same (taking_goes_on None s m),
          λ o p. message_stays w i s m o g h k (subst (λ (x : State). IsThere x o) (sym same) p),
        )

deliver_goes : (w : World) (i k : ℕ) (a : Option State) (b : Option Message) → slice_get w.states i ≡ a → slice_get w.sent k ≡ b → IsGood w → Goes w (deliver_at None w i a b)
deliver_goes w i k None None e f g = goes_none w
deliver_goes w i k None (Some m) e f g = goes_none w
deliver_goes w i k (Some s) None e f g = goes_none w
deliver_goes w i k (Some s) (Some m) e f g = taken_goes w i s m g e (get_in w.sent k m f)

step_goes : (w : World) (e : Event) → IsGood w → IsQuiet e → Goes w (step_of None w e)
step_goes w (events.Edit i edit) g q = absurd q
step_goes w (events.Send from to) g q = send_goes w to (slice_get w.states from)
step_goes w (events.Deliver k to) g q = deliver_goes w to k (slice_get w.states to) (slice_get w.sent k) refl refl g
step_goes w (events.Drop i) g q = goes_none w

pub happens_goes : (w : World) (e : Event) → IsGood w → IsQuiet e → Goes w (happens None w e)
unfolding happens
happens_goes w e g q = go (fault_of w e)
  where
    go : (f : Option StepError) → Goes w (unless f w (step_of None w e))
    go None = step_goes w e g q
    go (Some x) = goes_none w

-- what a world becomes by quiet events
pub record Later (w v : World) : Type 0 where
  pub good : IsGood v
  pub rests : ((i : ℕ) (s : State) → IsAt w i s → IsAtRest s) → (i : ℕ) (s : State) → IsAt v i s → IsAtRest s
  pub goes : Goes w v

pub run_later : (w : World) (ks : List Happening) → IsGood w → AreQuiet ks → Later w (run w ks)
run_later w [] g q = record { good = g; rests = λ r. r; goes = goes_none w }
run_later w (k ∷ ks) g q =
    let v = happens k.limit w k.event in
    let a = happens_keeps k.limit w k.event g q.1 in
    let first : Goes w v = subst (λ l. Goes w (happens l w k.event)) (sym q.2) (happens_goes w k.event g q.0) in
    let b = run_later v ks a.good q.3 in
    record { good = b.good; rests = λ r. b.rests (a.rests q.2 r); goes = goes_both w v (run v ks) first b.goes }
