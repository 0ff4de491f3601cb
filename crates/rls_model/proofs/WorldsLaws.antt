-- The laws of worlds: each state is legal, equal counts show the same, and nothing is refused.
use Rattle.std.proofs.Common.{◌≡◌, ℕ, zero, suc, ◌≤◌, ◌<◌, Bool, true, false, List, [], ◌∷◌, ◌++◌, length, refl, sym, ap, ◌∙◌, subst, arith, inl, inr, ◌⊎◌, ⊎_elim}
use Rattle.std.specs.Prelude.{◌+◌, not, nat_le, if◌then◌else◌, slice_get, slice_index, Option, Some, None}
use Rattle.rls_ident.specs.declared.limits.TheConstants.{MEMBERS, INPUT_BYTES}
use Rattle.rls_ident.specs.Lists.{IsIn}
use Rattle.rls_ident.proofs.Members.{in_filter, snoc_split, some_is, get_in}
use Rattle.rls_ops.specs.declared.op.Op.{Op}
use Rattle.rls_ops.specs.declared.message.Message.{Message}
use Rattle.rls_ops.specs.Sizes.{op_size, head_size}
use Rattle.rls_model.specs.declared.edit.Edit.{Edit}
use Rattle.rls_model.specs.declared.edit.EditError.{EditError}
use Rattle.rls_model.specs.declared.event.Event.{Event}
use Rattle.rls_model.specs.declared.event.Event.TheVariants as events
use Rattle.rls_model.specs.declared.event.StepError.{StepError}
use Rattle.rls_model.specs.History.{History, Fresh, ops, count, count_of, members_of, row}
use Rattle.rls_model.specs.Stability.{unstable, is_covered, stable}
use Rattle.rls_model.specs.Receiving.{State}
use Rattle.rls_model.specs.Editing.{edit_fault}
use Rattle.rls_model.specs.WellFormed.{IsLarge, IsEdit, IsEvent}
use Rattle.rls_model.specs.Taking.{Limit, front_within, missing_for, message_for, message_told, told_row, take_within}
use Rattle.rls_model.specs.Rules as rules
use Rattle.rls_model.specs.View.{plain_of}
use Rattle.rls_model.specs.EditRun.{edit_within}
use Rattle.rls_model.specs.Worlds.{World, fresh_states, empty_world, member_fault, or_else, of_edit, edit_fault_at, fault_of, with_state, edit_at, send_at, deliver_at, step_of, unless, happens, Happening, run, AreEvents, AreWhole}
use Rattle.rls_model.specs.Laws.{IsAt, IsAfter, HaveSameOps, ShowSame, WorldsLegal, EqualVectors, NoRefusal}
use Rattle.rls_model.proofs.SameOps as same_ops
use Rattle.rls_model.proofs.HistoryNumbers.{number_counted, with_number, front_self}
use Rattle.rls_model.proofs.WorldsInvariant.{IsMember, IsMessage, IsGood, at_split}
use Rattle.rls_model.proofs.WorldsArrivals.{one_op}
use Rattle.rls_model.proofs.MemberSteps.{taken_going, edited_going}
use Rattle.rls_model.proofs.NothingReady.{IsAtRest, taken_done, edited_done, none_released}

-- ---- the empty world

get_snoc : {A : Type 0} (xs : List A) (x y : A) (i : ℕ) → slice_get (xs ++ (x ∷ [])) i ≡ Some y → (slice_get xs i ≡ Some y) ⊎ ((i ≡ length xs) × (x ≡ y))
get_snoc [] x y zero h = inr (refl, some_is x y h)
get_snoc [] x y (suc i) h = absurd (cc)
get_snoc (z ∷ xs) x y zero h = inl h
get_snoc (z ∷ xs) x y (suc i) h = ⊎_elim (λ e. inl e) (λ e. inr (ap suc e.0, e.1)) (get_snoc xs x y i h)

pub length-snoc : {A : Type 0} (xs : List A) (x : A) → length (xs ++ (x ∷ [])) ≡ suc (length xs)
length-snoc [] x = refl
length-snoc (y ∷ xs) x = ap suc (length-snoc xs x)

unfoldable pub fresh : ℕ → ℕ → ℕ → State
fresh group members i = record { history = Fresh group i members; waiting = [] }

pub fresh_length : (group members n : ℕ) → length (fresh_states group members n) ≡ n
fresh_length group members zero = refl
fresh_length group members (suc n) = length-snoc (fresh_states group members n) (record { history = Fresh group n members; waiting = [] }) ∙ ap suc (fresh_length group members n)

pub fresh_at : (group members n i : ℕ) (s : State) → slice_get (fresh_states group members n) i ≡ Some s → (i < n) × (fresh group members i ≡ s)
unfolding fresh
fresh_at group members zero i s h = absurd (cc)
fresh_at group members (suc n) i s h =
    ⊎_elim (λ e. let r = fresh_at group members n i s e in (omega (arith, r.0), r.1))
    (λ e. let f = e.0 ∙ fresh_length group members n in (omega arith, ap (λ j. record { history = Fresh group j members; waiting = [] }) f ∙ e.1))
    (get_snoc (fresh_states group members n) (record { history = Fresh group n members; waiting = [] }) s i h)

-- it is good
pub empty_good : (group members : ℕ) → IsLarge group → members ≤ MEMBERS → IsGood (empty_world group members)
unfolding fresh
empty_good group members g m = record {
  member = λ i s h. let r = fresh_at group members members i s h in
      subst (IsMember (empty_world group members) i) r.1
      (record {
        legal = (g, r.0, m);
        me = refl;
        members = sym (fresh_length group members members);
        sound = tt;
        home = λ o p. absurd p;
        waits = λ o p. absurd p;
        acks = λ a v p. absurd p;
        own = tt;
      });
  message = λ k p. absurd p;
}

-- ---- one event

or_none : (e f : Option StepError) → or_else e f ≡ None → f ≡ None
or_none (Some x) f h = absurd (cc)
or_none None f h = h

pub edit_none : (f : Option EditError) → of_edit f ≡ None → f ≡ None
edit_none (Some x) h = absurd (cc)
edit_none None h = refl

-- the operations of a message stand in its sender's history
in_front : (used limit : ℕ) (os : List Op) (o : Op) → IsIn o (front_within used limit os) → IsIn o os
in_front used limit [] o p = absurd p
in_front used limit (u ∷ os) o p = go (nat_le (used + op_size u) limit) p (λ q. in_front (used + op_size u) limit os o q)
  where
    go : (b : Bool) → IsIn o (if b then u ∷ front_within (used + op_size u) limit os else []) → (IsIn o (front_within (used + op_size u) limit os) → IsIn o os) → IsIn o (u ∷ os)
    go true (inl e) ih = inl e
    go true (inr q) ih = inr (ih q)
    go false q ih = absurd q

in_message : (limit : ℕ) (H : History) (r : List ℕ) (o : Op) → IsIn o (rules.message_within limit (plain_of H) r).ops → IsIn o (ops H)
unfolding unstable
in_message limit H r o p =
    let q = in_front (head_size (members_of H)) limit (missing_for r (unstable H)) o p in
    let k = (in_filter (λ o. not (is_covered r o)) o (unstable H) q).0 in
    (in_filter (λ o. not (is_covered (stable H) o)) o (ops H) k).0

-- whatever its sender takes to be known, and however long the message may be
pub sends_by : (limit : ℕ) (w : World) (i : ℕ) (s : State) (r : List ℕ) → IsGood w → IsAt w i s → IsMessage w (rules.message_within limit (plain_of s.history) r)
sends_by limit w i s r g h =
    let k = g.member i s h in
    record { ops = λ o p. k.home o (in_message limit s.history r o p); vector = (s, s.history, ap (slice_get w.states) k.me ∙ h, front_self s.history, refl) }

pub sends : (w : World) (i : ℕ) (s : State) (to : ℕ) → IsGood w → IsAt w i s → IsMessage w (message_for s.history to)
unfolding message_for
sends w i s to g h = sends_by INPUT_BYTES w i s (row s.history to) g h

pub tells : (w : World) (i : ℕ) (s : State) (to : ℕ) (told : List ℕ) → IsGood w → IsAt w i s → IsMessage w (message_told s.history to told)
unfolding message_told
tells w i s to told g h = sends_by INPUT_BYTES w i s (told_row s.history to told) g h

pub posts : (w : World) (m : Message) → IsGood w → IsMessage w m → IsGood (record w { sent = w.sent ++ m ∷ [] })
posts w m g k = record {
  member = λ i s h. let r = g.member i s h in record { legal = r.legal; me = r.me; members = r.members; sound = r.sound; home = r.home; waits = r.waits; acks = r.acks; own = r.own };
  message = λ n p. ⊎_elim (λ q. let r = g.message n q in record { ops = r.ops; vector = r.vector })
      (λ q. let r = subst (IsMessage w) q k in record { ops = r.ops; vector = r.vector })
      (snoc_split n m w.sent p);
}

-- what an event keeps: the invariant, and rest where it is whole
pub record Keeps (limit : Limit) (w v : World) : Type 0 where
  pub good : IsGood v
  pub rests : limit ≡ None → ((i : ℕ) (s : State) → IsAt w i s → IsAtRest s) → (i : ℕ) (s : State) → IsAt v i s → IsAtRest s

stays : (limit : Limit) (w : World) → IsGood w → Keeps limit w w
stays limit w g = record { good = g; rests = λ e r. r }

pub state_rests : (w : World) (i : ℕ) (s t : State) → IsAt w i s → ((j : ℕ) (u : State) → IsAt w j u → IsAtRest u) → IsAtRest t → (j : ℕ) (u : State) → IsAt (with_state w i t) j u → IsAtRest u
state_rests w i s t h f r j u k = ⊎_elim (λ e. subst IsAtRest e.1 r) (λ q. f j u q) (at_split w i j s t u h k)

edit_keeps : (limit : Limit) (w : World) (i : ℕ) (edit : Edit) (m : Option State) → slice_get w.states i ≡ m → IsGood w → IsEdit edit → edit_fault_at m edit ≡ None → Keeps limit w (edit_at limit w i m edit)
edit_keeps limit w i edit None e g p f = stays limit w g
edit_keeps limit w i edit (Some s) e g p f = record {
  good = (edited_going w i s edit limit g e p (edit_none (edit_fault s.history edit) f)).good;
  rests = λ q r. state_rests w i s (edit_within limit s edit).state e r (subst (λ l. IsAtRest (edit_within l s edit).state) (sym q) (edited_done s edit).1);
}

send_keeps : (limit : Limit) (w : World) (i to : ℕ) (m : Option State) → slice_get w.states i ≡ m → IsGood w → Keeps limit w (send_at limit w m to)
send_keeps None w i to None e g = stays None w g
send_keeps (Some zero) w i to None e g = stays (Some zero) w g
send_keeps (Some (suc n)) w i to None e g = stays (Some (suc n)) w g
send_keeps None w i to (Some s) e g = record { good = posts w (message_for s.history to) g (sends w i s to g e); rests = λ q r. r }
send_keeps (Some zero) w i to (Some s) e g = stays (Some zero) w g
send_keeps (Some (suc n)) w i to (Some s) e g = record { good = posts w (message_for s.history to) g (sends w i s to g e); rests = λ q r. r }

deliver_keeps : (limit : Limit) (w : World) (i k : ℕ) (a : Option State) (b : Option Message) → slice_get w.states i ≡ a → slice_get w.sent k ≡ b → IsGood w → Keeps limit w (deliver_at limit w i a b)
deliver_keeps limit w i k None None e f g = stays limit w g
deliver_keeps limit w i k None (Some m) e f g = stays limit w g
deliver_keeps limit w i k (Some s) None e f g = stays limit w g
deliver_keeps limit w i k (Some s) (Some m) e f g = record {
  good = (taken_going w i s m limit g e (get_in w.sent k m f)).good;
  rests = λ q r. state_rests w i s (take_within limit s m).state e r (subst (λ l. IsAtRest (take_within l s m).state) (sym q) (taken_done s m (r i s e)).1);
}

step_keeps : (limit : Limit) (w : World) (e : Event) → IsGood w → IsEvent e → fault_of w e ≡ None → Keeps limit w (step_of limit w e)
step_keeps limit w (events.Edit i edit) g p f = edit_keeps limit w i edit (slice_get w.states i) refl g p.1 (or_none (member_fault w i) (edit_fault_at (slice_get w.states i) edit) f)
step_keeps limit w (events.Send from to) g p f = send_keeps limit w from to (slice_get w.states from) refl g
step_keeps limit w (events.Deliver k to) g p f = deliver_keeps limit w to k (slice_get w.states to) (slice_get w.sent k) refl refl g
step_keeps limit w (events.Drop i) g p f = stays limit w g

pub happens_keeps : (limit : Limit) (w : World) (e : Event) → IsGood w → IsEvent e → Keeps limit w (happens limit w e)
unfolding happens
happens_keeps limit w e g p = go (fault_of w e) refl
  where
    go : (f : Option StepError) → fault_of w e ≡ f → Keeps limit w (unless f w (step_of limit w e))
    go None q = step_keeps limit w e g p q
    go (Some x) q = stays limit w g

-- ---- lists of events

pub run_good : (w : World) (hs : List Happening) → IsGood w → AreEvents hs → IsGood (run w hs)
run_good w [] g p = g
run_good w (h ∷ hs) g p = run_good (happens h.limit w h.event) hs (happens_keeps h.limit w h.event g p.0).good p.1

pub run_rests : (w : World) (hs : List Happening) → IsGood w → AreEvents hs → AreWhole hs → ((i : ℕ) (s : State) → IsAt w i s → IsAtRest s) → (i : ℕ) (s : State) → IsAt (run w hs) i s → IsAtRest s
run_rests w [] g p q r = r
run_rests w (h ∷ hs) g p q r =
    let k = happens_keeps h.limit w h.event g p.0 in
    run_rests (happens h.limit w h.event) hs k.good p.1 q.1 (k.rests q.0 r)

-- each world that events lead to is good
pub good_after : (w : World) (hs : List Happening) → IsAfter w hs → IsGood w
good_after w hs a = subst IsGood a.6 (run_good (empty_world a.0 a.1) hs (empty_good a.0 a.1 a.2 a.4) a.5)

empty_rest : (group members i : ℕ) (s : State) → IsAt (empty_world group members) i s → IsAtRest s
unfolding fresh
empty_rest group members i s h = subst IsAtRest (fresh_at group members members i s h).1 refl

-- and at rest, where none was cut short
pub rests_after : (w : World) (hs : List Happening) → IsAfter w hs → AreWhole hs → (i : ℕ) (s : State) → IsAt w i s → IsAtRest s
rests_after w hs a q =
    subst (λ v. (i : ℕ) (s : State) → IsAt v i s → IsAtRest s) a.6
    (run_rests (empty_world a.0 a.1) hs (empty_good a.0 a.1 a.2 a.4) a.5 q (empty_rest a.0 a.1))

-- ---- the laws

pub worlds_legal : WorldsLegal
worlds_legal w hs i s a h = let r = (good_after w hs a).member i s h in (r.legal, r.sound)

has_op : (w : World) (i j : ℕ) (s t : State) → IsGood w → IsAt w i s → IsAt w j t → count s.history ≡ count t.history → (o : Op) → IsIn o (ops s.history) → IsIn o (ops t.history)
has_op w i j s t g h k e o p =
    let r = g.member i s h in
    let q = g.member j t k in
    let n = number_counted s.history r.legal o p in
    let f : count_of s.history o.author ≡ count_of t.history o.author = ap (λ v. slice_index v o.author) e in
    let l = n.1 in
    let x = with_number t.history q.legal o.author o.seq n.0 (omega arith) in
    subst (λ y. IsIn y (ops t.history)) (one_op w x.0 o g (q.home x.0 x.1) (r.home o p) x.2 x.3) x.1

-- two members of a good world that have equal counts show the same
pub equal_good : (w : World) (i j : ℕ) (s t : State) → IsGood w → IsAt w i s → IsAt w j t → count s.history ≡ count t.history → HaveSameOps s.history t.history × ShowSame s.history t.history
equal_good w i j s t g h k e =
    let same : HaveSameOps s.history t.history = λ o. (has_op w i j s t g h k e o, has_op w j i t s g k h (sym e) o) in
    (same, same_ops.law s.history t.history (g.member i s h).legal (g.member j t k).legal same)

pub equal_vectors : EqualVectors
equal_vectors w hs i j s t a h k e = equal_good w i j s t (good_after w hs a) h k e

pub no_refusal : NoRefusal
no_refusal w hs a =
    let g = good_after w hs a in (
      λ i s m limit h p. (taken_going w i s m limit g h p).clean,
      λ i s edit limit h p f. (edited_going w i s edit limit g h p f).clean,
      λ i s o h p. (g.member i s h).waits o p,
      λ q i s edit limit h p f. none_released w i s edit limit g h (rests_after w hs a q i s h),
    )
