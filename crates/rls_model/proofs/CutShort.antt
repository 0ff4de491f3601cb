-- An event that is cut short after no step changes nothing; after enough of them it is whole.
use Rattle.std.proofs.Common.{◌≡◌, ℕ, zero, suc, ◌+◌, ◌-◌, ◌≤◌, Bool, true, false, List, [], ◌∷◌, length, refl, sym, ap, ◌∙◌, arith, nat_lt}
use Rattle.std.specs.Prelude.{if◌then◌else◌, slice_get, Option, Some, None}
use Rattle.rls_ident.proofs.Members.{lt_test}
use Rattle.rls_ops.specs.declared.op.Op.{Op}
use Rattle.rls_ops.specs.declared.message.Message.{Message}
use Rattle.rls_model.specs.declared.edit.Edit.{Edit}
use Rattle.rls_model.specs.declared.event.Event.{Event}
use Rattle.rls_model.specs.declared.event.Event.TheVariants as events
use Rattle.rls_model.specs.declared.event.StepError.{StepError}
use Rattle.rls_model.specs.Answers.{Released}
use Rattle.rls_model.specs.Receiving.{State, accept, receive, receive_after, release, release_after}
use Rattle.rls_model.specs.Editing.{made}
use Rattle.rls_model.specs.Taking.{by_history, Progress, started, moved, with_answer, with_refusal, with_release, receive_step, release_step, release_steps, with_releases, acknowledge, acknowledge_step, take_ops, take_within}
use Rattle.rls_model.specs.EditRun.{edit_step, edit_within}
use Rattle.rls_model.specs.Worlds.{World, with_state, edit_at, send_at, deliver_at, step_of, unless, happens, fault_of}
use Rattle.rls_model.specs.Laws.{CutShort}
use Rattle.rls_model.proofs.Machines.{no_ops, no_releases}
use Rattle.rls_model.proofs.OnePlace.{set_get}

-- the same progress with m more steps, or with no end
abbrev within : ℕ → Progress → Progress
within m p = record p { limit = Some m }

abbrev endless : Progress → Progress
endless p = record p { limit = None }

-- with enough steps left f does what it does without an end, in so many steps
record Follows (f : Progress → Progress) (p : Progress) : Type 0 where
  steps : ℕ
  same : (m : ℕ) → steps ≤ m → f (within m p) ≡ within (m - steps) (f (endless p))
  free : endless (f (endless p)) ≡ f (endless p)

follows_both : (f g : Progress → Progress) (p : Progress) → Follows f p → ((q : Progress) → Follows g q) → Follows (λ q. g (f q)) p
follows_both f g p h k =
    let x = f (endless p) in
    let r = k x in
    record {
      steps = h.steps + r.steps;
      same = λ m e.
          ap g (h.same m (omega arith)) ∙ (r.same (m - h.steps) (omega arith)
          ∙ (ap (λ q. within (m - h.steps - r.steps) (g q)) h.free ∙ ap (λ n. within n (g x)) (less m h.steps r.steps)));
      free = ap (λ q. endless (g q)) (sym h.free) ∙ (r.free ∙ ap g h.free);
    }
  where
    less : (m a b : ℕ) → m - a - b ≡ m - (a + b)
    less m a b = omega arith

minus_none : (m : ℕ) → m - 0 ≡ m
minus_none m = omega arith

-- what takes no step
follows_nothing : (f : Progress → Progress) (p : Progress) → ((m : ℕ) → f (within m p) ≡ within m (f (endless p))) → endless (f (endless p)) ≡ f (endless p) → Follows f p
follows_nothing f p h e = record { steps = 0; same = λ m k. h m ∙ ap (λ n. within n (f (endless p))) (sym (minus_none m)); free = e }

-- ---- the steps

room : (m : ℕ) → 1 ≤ m → nat_lt 0 m ≡ true
room m h = lt_test 0 m (omega arith)

follows_receive : (o : Op) (p : Progress) → Follows (λ q. receive_step q o) p
follows_receive o p =
    record {
      steps = 1;
      same = λ m h. ap (λ b. if b then with_answer (moved (within m p) (receive_after p.state o)) o (receive p.state o) else within m p) (room m h);
      free = refl;
    }

follows_release : (p : Progress) → Follows release_step p
follows_release p = go (release p.state) refl
  where
    go : (r : Option Released) → release p.state ≡ r → Follows release_step p
    go None e =
        follows_nothing release_step p
        (λ m. ap (λ r. if nat_lt 0 m then with_release (within m p) r else within m p) e ∙ (same_both (nat_lt 0 m) (within m p) ∙ ap (λ r. within m (with_release (endless p) r)) (sym e)))
        (ap (λ r. endless (with_release (endless p) r)) e ∙ ap (λ r. with_release (endless p) r) (sym e))
      where
        same_both : (b : Bool) (x : Progress) → (if b then x else x) ≡ x
        same_both true x = refl
        same_both false x = refl
    go (Some r) e =
        record {
          steps = 1;
          same = λ m h.
              ap (λ x. if nat_lt 0 m then with_release (within m p) x else within m p) e
              ∙ (ap (λ b. if b then with_refusal (moved (within m p) (release_after p.state)) r.author r.seq r.refusal else within m p) (room m h)
              ∙ ap (λ x. within (m - 1) (with_release (endless p) x)) (sym e));
          free = ap (λ x. endless (with_release (endless p) x)) e ∙ ap (λ x. with_release (endless p) x) (sym e);
        }

follows_times : (n : ℕ) (p : Progress) → Follows (release_steps n) p
follows_times zero p = follows_nothing (release_steps zero) p (λ m. refl) refl
follows_times (suc n) p = follows_both release_step (release_steps n) p (follows_release p) (follows_times n)

follows_releases : (p : Progress) → Follows with_releases p
follows_releases p = let r = follows_times (length (p.state).waiting) p in record { steps = r.steps; same = r.same; free = r.free }

follows_ops : (os : List Op) (p : Progress) → Follows (λ q. take_ops q os) p
follows_ops [] p = follows_nothing (λ q. take_ops q []) p (λ m. refl) refl
follows_ops (o ∷ os) p =
    follows_both (λ q. with_releases (receive_step q o)) (λ q. take_ops q os) p
    (follows_both (λ q. receive_step q o) with_releases p (follows_receive o p) follows_releases) (follows_ops os)

follows_acknowledge : (a : ℕ) (v : List ℕ) (p : Progress) → Follows (λ q. acknowledge_step q a v) p
follows_acknowledge a v p =
    record { steps = 1; same = λ m h. ap (λ b. if b then moved (within m p) (acknowledge p.state a v) else within m p) (room m h); free = refl }

follows_edit : (edit : Edit) (p : Progress) → Follows (λ q. edit_step q edit) p
follows_edit edit p =
    record { steps = 1; same = λ m h. ap (λ b. if b then moved (within m p) (accept p.state (made (p.state).history edit)) else within m p) (room m h); free = refl }

-- ---- events

taken_whole : (s : State) (g : Message) → (n : ℕ) × ((m : ℕ) → n ≤ m → (take_within (Some m) s g).state ≡ (take_within None s g).state)
unfolding take_within
taken_whole s g =
    let r = follows_both (λ q. take_ops q g.ops) (λ q. acknowledge_step q g.from g.vector) (started None s) (follows_ops g.ops (started None s)) (follows_acknowledge g.from g.vector) in
    (r.steps, λ m h. ap (λ (q : Progress). q.state) (r.same m h))

edited_whole : (s : State) (edit : Edit) → (n : ℕ) × ((m : ℕ) → n ≤ m → (edit_within (Some m) s edit).state ≡ (edit_within None s edit).state)
unfolding edit_within
edited_whole s edit =
    let r = follows_both (λ q. edit_step q edit) with_releases (started None s) (follows_edit edit (started None s)) follows_releases in
    (r.steps, λ m h. ap (λ (q : Progress). q.state) (r.same m h))

step_whole : (w : World) (e : Event) → (n : ℕ) × ((m : ℕ) → n ≤ m → step_of (Some m) w e ≡ step_of None w e)
step_whole w (events.Edit i edit) = at (slice_get w.states i)
  where
    at : (o : Option State) → (n : ℕ) × ((m : ℕ) → n ≤ m → edit_at (Some m) w i o edit ≡ edit_at None w i o edit)
    at None = (0, λ m h. refl)
    at (Some s) = let r = edited_whole s edit in (r.0, λ m h. ap (with_state w i) (r.1 m h))
step_whole w (events.Send from to) = (1, λ m h. at m h (slice_get w.states from))
  where
    at : (m : ℕ) → 1 ≤ m → (o : Option State) → send_at (Some m) w o to ≡ send_at None w o to
    at zero h o = absurd (omega arith)
    at (suc m) h None = refl
    at (suc m) h (Some s) = refl
step_whole w (events.Deliver k to) = at (slice_get w.states to) (slice_get w.sent k)
  where
    at : (o : Option State) (g : Option Message) → (n : ℕ) × ((m : ℕ) → n ≤ m → deliver_at (Some m) w to o g ≡ deliver_at None w to o g)
    at None g = (0, λ m h. refl)
    at (Some s) None = (0, λ m h. refl)
    at (Some s) (Some g) = let r = taken_whole s g in (r.0, λ m h. ap (with_state w to) (r.1 m h))
step_whole w (events.Drop i) = (0, λ m h. refl)

-- ---- no step

step_none : (w : World) (e : Event) → step_of (Some 0) w e ≡ w
unfolding take_within edit_within
step_none w (events.Edit i edit) = at (slice_get w.states i) refl
  where
    at : (o : Option State) → slice_get w.states i ≡ o → edit_at (Some 0) w i o edit ≡ w
    at None h = refl
    at (Some s) h = ap (with_state w i) (ap (λ (q : Progress). q.state) (no_releases by_history (length s.waiting) (started (Some 0) s) refl)) ∙ ap (λ ss. record w { states = ss }) (set_get w.states i s h)
step_none w (events.Send from to) = at (slice_get w.states from)
  where
    at : (o : Option State) → send_at (Some 0) w o to ≡ w
    at None = refl
    at (Some s) = refl
step_none w (events.Deliver k to) = at (slice_get w.states to) refl (slice_get w.sent k)
  where
    at : (o : Option State) → slice_get w.states to ≡ o → (g : Option Message) → deliver_at (Some 0) w to o g ≡ w
    at None h g = refl
    at (Some s) h None = refl
    at (Some s) h (Some g) =
        ap (with_state w to) (ap (λ (q : Progress). (acknowledge_step q g.from g.vector).state) (no_ops by_history g.ops (started (Some 0) s) refl)) ∙ ap (λ ss. record w { states = ss }) (set_get w.states to s h)
step_none w (events.Drop i) = refl

pub cut_short : CutShort
unfolding happens
cut_short w e = (none (fault_of w e), let r = step_whole w e in (r.0, λ m h. ap (unless (fault_of w e) w) (r.1 m h)))
  where
    none : (f : Option StepError) → unless f w (step_of (Some 0) w e) ≡ w
    none None = step_none w e
    none (Some x) = refl
