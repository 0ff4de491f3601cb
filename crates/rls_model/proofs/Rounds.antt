-- One round of messages makes all members equal.
use Rattle.std.proofs.Common.{◌≡◌, ℕ, ◌<◌, true, false, List, [], ◌∷◌, ◌++◌, length, refl, sym, ap, ◌∙◌, subst, arith, inl, inr, ◌⊎◌, ⊎_elim}
use Rattle.std.specs.Prelude.{not, ◌==◌, ◌↔◌, filter, if◌then◌else◌, slice_get, slice_index, Some, None}
use Rattle.rls_ident.specs.Lists.{IsIn}
use Rattle.rls_ident.specs.Vectors.{at_most}
use Rattle.rls_ident.proofs.Members.{bool_cases, eq_is, eq_not, filter_in, get_in, in_left, in_right, le_is, lt_test, not_found, snoc_split, true_false}
use Rattle.rls_ident.proofs.Vectors.{at_most_antisym, at_most_refl, at_most_trans, index_le}
use Rattle.rls_ops.specs.declared.op.Op.{Op}
use Rattle.rls_ops.specs.declared.message.Message.{Message}
use Rattle.rls_model.specs.declared.event.Event.TheVariants as events
use Rattle.rls_model.specs.declared.event.StepError.TheVariants as faults
use Rattle.rls_model.specs.History.{Accepted, Acknowledged, History, Then, ops, count, me_of, members_of, has_left, acknowledged, row}
use Rattle.rls_model.specs.History as history
use Rattle.rls_model.specs.Stability.{unstable, is_covered, stable}
use Rattle.rls_model.specs.Legal.{IsLegal}
use Rattle.rls_model.specs.Receiving.{State}
use Rattle.rls_model.specs.Taking.{take_within, missing_for, message_for}
use Rattle.rls_model.specs.Worlds.{World, empty_world, or_else, member_fault, message_fault, fault_of, with_state, send_at, deliver_at, step_of, unless, happens, Happening, whole, run, AreEvents, AreWhole}
use Rattle.rls_model.specs.Laws.{IsAfter, IsAt, IsGathered, HaveSameOps, WasMade}
use Rattle.rls_model.specs.Rounds.{AreQuiet, IsExchanged, Knows, IsTold, AllTold, AreKnown, AreEqual, OneRound, OneHub}
use Rattle.rls_model.proofs.Stable.{length-count, stable_row}
use Rattle.rls_model.proofs.SameOps as same_ops
use Rattle.rls_model.proofs.OnePlace.{get_set_same, got_below}
use Rattle.rls_model.proofs.HistoryNumbers.{IsFront, IsAck, acks_below, front_count, front_members, front_ops, number_counted, with_number}
use Rattle.rls_model.proofs.WaitingFits.{waiting_at}
use Rattle.rls_model.proofs.WorldsInvariant.{IsHome, IsMember, IsGood, one_state}
use Rattle.rls_model.proofs.WorldsArrivals.{one_op}
use Rattle.rls_model.proofs.WorldsArrived.{IsThere, message_there}
use Rattle.rls_model.proofs.WorldsGathered.{part_count, grown_history}
use Rattle.rls_model.proofs.WorldsLaws.{good_after, happens_keeps, rests_after}
use Rattle.rls_model.proofs.NothingReady.{IsAtRest}
use Rattle.rls_model.proofs.Quiet.{Later, get_last, happens_goes, run_later}

-- ---- what a row tells is known

pub row_known : (w : World) (i j : ℕ) (s t : State) → IsGood w → IsAt w i s → IsAt w j t → at_most (row s.history j) (count t.history) ≡ true
row_known w i j s t g h k = bool_cases (j == me_of s.history) own other
  where
    r : IsMember w i s
    r = g.member i s h

    q : IsMember w j t
    q = g.member j t k

    own : (j == me_of s.history) ≡ true → at_most (row s.history j) (count t.history) ≡ true
    own e =
        let same : s ≡ t = one_state w i j s t h k (sym r.me ∙ sym (eq_is j (me_of s.history) e)) in
        ap (λ b. at_most (if b then count s.history else acknowledged s.history j) (count t.history)) e
        ∙ (ap (λ (x : State). at_most (count x.history) (count t.history)) same ∙ at_most_refl (count t.history))

    ack : (v : List ℕ) → IsAck s.history j v → at_most v (count t.history) ≡ true
    ack v p =
        let c = r.acks j v p in
        let same : c.0 ≡ t = one_state w j j c.0 t c.2 k refl in
        ap (λ u. at_most u (count t.history)) (sym c.4) ∙ front_count c.1 t.history (subst (λ (x : State). IsFront c.1 x.history) same c.3)

    other : (j == me_of s.history) ≡ false → at_most (row s.history j) (count t.history) ≡ true
    other e =
        ap (λ b. at_most (if b then count s.history else acknowledged s.history j) (count t.history)) e
        ∙ acks_below s.history j (count t.history) (length-count t.history ∙ (q.members ∙ sym r.members)) ack

-- an operation that another member knows, and that a vector covers which tells no more than is known
pub covered_known : (w : World) (i j : ℕ) (s t : State) (o : Op) (v : List ℕ) → IsGood w → IsAt w i s → IsAt w j t → IsIn o (ops s.history) → at_most v (count t.history) ≡ true → is_covered v o ≡ true → IsIn o (ops t.history)
covered_known w i j s t o v g h k p l c =
    let r = g.member i s h in
    let q = g.member j t k in
    let n = number_counted s.history r.legal o p in
    let a = le_is o.seq (slice_index v o.author) c in
    let b = index_le v (count t.history) o.author l in
    let x = with_number t.history q.legal o.author o.seq n.0 (omega arith) in
    subst (λ y. IsIn y (ops t.history)) (one_op w x.0 o g (q.home x.0 x.1) (r.home o p) x.2 x.3) x.1

-- so what a member knows is in its message for another one, or known there
told_or_known : (w : World) (i j : ℕ) (s t : State) (o : Op) → IsGood w → IsAt w i s → IsAt w j t → has_left s.history j ≡ false → IsIn o (ops s.history) →
    IsIn o (missing_for (row s.history j) (unstable s.history)) ⊎ IsIn o (ops t.history)
unfolding unstable
told_or_known w i j s t o g h k l p =
    bool_cases (is_covered (stable s.history) o)
    (λ c. inr (covered_known w i j s t o (stable s.history) g h k p (at_most_trans (stable s.history) (row s.history j) (count t.history) (stable_row s.history j below l) tells) c))
    (λ c. bool_cases (is_covered (row s.history j) o)
    (λ d. inr (covered_known w i j s t o (row s.history j) g h k p tells d))
    (λ d. inl (filter_in (λ x. not (is_covered (row s.history j) x)) o (filter (λ x. not (is_covered (stable s.history) x)) (ops s.history)) (filter_in (λ x. not (is_covered (stable s.history) x)) o (ops s.history) p (ap not c)) (ap not d))))
  where
    tells : at_most (row s.history j) (count t.history) ≡ true
    tells = row_known w i j s t g h k

    below : j < members_of s.history
    below = let a = got_below w.states j t k in let b = (g.member i s h).members in omega arith

-- ---- one exchange

-- quiet events, in two parts
quiet_front : (ks ls : List Happening) → AreQuiet (ks ++ ls) → AreQuiet ks × AreQuiet ls
quiet_front [] ls q = (tt, q)
quiet_front (k ∷ ks) ls q = let r = quiet_front ks ls q.3 in ((q.0, q.1, q.2, r.0), r.1)

run_parts : (w : World) (ks ls : List Happening) → run w (ks ++ ls) ≡ run (run w ks) ls
run_parts w [] ls = refl
run_parts w (k ∷ ks) ls = run_parts (happens k.limit w k.event) ks ls

no_member_fault : (w : World) (i : ℕ) (s : State) → IsAt w i s → member_fault w i ≡ None
no_member_fault w i s h = ap (λ b. if b then None else Some (faults.NoMember i)) (lt_test i (length w.states) (got_below w.states i s h))

no_message_fault : (w : World) (k : ℕ) (m : Message) → slice_get w.sent k ≡ Some m → message_fault w k ≡ None
no_message_fault w k m h = ap (λ b. if b then None else Some (faults.NoMessage k)) (lt_test k (length w.sent) (got_below w.sent k m h))

sends_it : (w : World) (from to : ℕ) (s t : State) → IsAt w from s → IsAt w to t → happens None w (events.Send from to) ≡ record w { sent = w.sent ++ message_for s.history to ∷ [] }
unfolding happens
sends_it w from to s t h k =
    let f : fault_of w (events.Send from to) ≡ None = ap (λ o. or_else o (member_fault w to)) (no_member_fault w from s h) ∙ no_member_fault w to t k in
    ap (λ o. unless o w (step_of None w (events.Send from to))) f ∙ ap (λ o. send_at None w o to) h

delivers_it : (w : World) (k to : ℕ) (t : State) (m : Message) → IsAt w to t → slice_get w.sent k ≡ Some m → happens None w (events.Deliver k to) ≡ with_state w to (take_within None t m).state
unfolding happens
delivers_it w k to t m h e =
    let f : fault_of w (events.Deliver k to) ≡ None = ap (λ o. or_else o (message_fault w k)) (no_member_fault w to t h) ∙ no_message_fault w k m e in
    ap (λ o. unless o w (step_of None w (events.Deliver k to))) f ∙ (ap (λ o. deliver_at None w to o (slice_get w.sent k)) h ∙ ap (λ o. deliver_at None w to (Some t) o) e)

-- what is there at a member after some of the events is there in the end
there_later : (w : World) (ks : List Happening) (i : ℕ) (s t : State) (o : Op) → IsGood w → AreQuiet ks → IsAt w i s → IsAt (run w ks) i t → IsThere s o → IsThere t o
there_later w ks i s t o g q h k p =
    let r = ((run_later w ks g q).goes).at i s h in
    subst (λ (x : State). IsThere x o) (one_state (run w ks) i i r.0 t r.1 k refl) (r.3 o p)

-- an operation that the sender knows is there at the receiver in the end
module _ (w : World) (ks : List Happening) (from to : ℕ) (g : IsGood w) (quiet : AreQuiet ks) (x : IsExchanged w ks from to) where
  abbrev first : World
  first = run w x.before

  abbrev number : ℕ
  number = length first.sent

  abbrev rest : List Happening
  rest = x.between ++ (whole (events.Deliver number to) ∷ x.after)

  parts : AreQuiet x.before × AreQuiet (whole (events.Send from to) ∷ rest)
  parts = quiet_front x.before (whole (events.Send from to) ∷ rest) (subst AreQuiet (sym x.are) quiet)

  a : Later w first
  a = run_later w x.before g parts.0

  end : run w ks ≡ run first (whole (events.Send from to) ∷ rest)
  end = ap (run w) (sym x.are) ∙ run_parts w x.before (whole (events.Send from to) ∷ rest)

  abbrev message : Message
  message = message_for (x.sender).history to

  abbrev posted : World
  posted = happens None first (events.Send from to)

  abbrev second : World
  second = run posted x.between

  parts_later : AreQuiet x.between × AreQuiet (whole (events.Deliver number to) ∷ x.after)
  parts_later = quiet_front x.between (whole (events.Deliver number to) ∷ x.after) parts.1.3

  posted_good : IsGood posted
  posted_good = (happens_keeps None first (events.Send from to) a.good parts.1.1).good

  b : Later posted second
  b = run_later posted x.between posted_good parts_later.0

  abbrev third : World
  third = happens None second (events.Deliver number to)

  third_good : IsGood third
  third_good = (happens_keeps None second (events.Deliver number to) b.good parts_later.1.1).good

  end_later : run w ks ≡ run third x.after
  end_later = end ∙ run_parts posted x.between (whole (events.Deliver number to) ∷ x.after)

  -- it is in the message, which is taken
  by_message : (t v : State) (o : Op) → IsAt first to t → IsAt (run w ks) to v → IsIn o message.ops → IsThere v o
  by_message t v o h e p =
      let sent = sends_it first from to x.sender t x.at h in
      let there : slice_get posted.sent number ≡ Some message = ap (λ (z : World). slice_get z.sent number) sent ∙ get_last first.sent message in
      let still = (b.goes).sent number message there in
      let u = (happens_goes first (events.Send from to) a.good tt).at to t h in
      let r = (b.goes).at to u.0 u.1 in
      let after = (take_within None r.0 message).state in
      let taken : third ≡ with_state second to after = delivers_it second number to r.0 message r.1 still in
      let here : IsAt third to after = ap (λ (z : World). slice_get z.states to) taken ∙ get_set_same second.states to r.0 after r.1 in
      there_later third x.after to after v o third_good parts_later.1.3 here (subst (λ (z : World). IsAt z to v) end_later e)
      (message_there second to r.0 message o b.good r.1 (get_in second.sent number message still) p)

  pub told_there : (v : State) (o : Op) → IsAt (run w ks) to v → IsIn o (ops (x.sender).history) → IsThere v o
  told_there v o e p =
      let old = ((run_later w ks g quiet).goes).was to v e in
      let t = (a.goes).at to old.0 old.1 in
      ⊎_elim
      (λ q. by_message t.0 v o t.1 e (subst (IsIn o) (sym x.all) q))
      (λ q. there_later first (whole (events.Send from to) ∷ rest) to t.0 v o a.good parts.1 t.1 (subst (λ (z : World). IsAt z to v) end e) (inl q))
      (told_or_known first from to x.sender t.0 o a.good x.at t.1 x.stays p)

-- ---- what is there with all of its causes is known

pub all_known : (Q : History) (s : State) → IsLegal Q → IsLegal s.history → members_of Q ≡ members_of s.history → IsAtRest s → ((o : Op) → IsIn o (ops Q) → IsThere s o) → (o : Op) → IsIn o (ops Q) → IsIn o (ops s.history)
all_known (history.Fresh group me members) s l m e r f o p = absurd p
all_known (Then G (Acknowledged c v)) s l m e r f o p = all_known G s l.0 m e r f o p
all_known (Then G (Accepted u)) s l m e r f o p =
    let before = all_known G s l.0 m e r (λ x q. f x (in_left x (ops G) (u ∷ []) q)) in
    ⊎_elim (λ q. before o q) (λ q. subst (λ (y : Op). IsIn y (ops s.history)) q (last before (f u (in_right u (ops G) (u ∷ []) (inl refl))))) (snoc_split o u (ops G) p)
  where
    last : ((x : Op) → IsIn x (ops G) → IsIn x (ops s.history)) → IsThere s u → IsIn u (ops s.history)
    last before (inl q) = q
    last before (inr q) =
        let causes = at_most_trans u.context (count G) (count s.history) l.2.causes (part_count G s.history l.0 m e before) in
        absurd (true_false (at_most u.context (count s.history)) causes (not_found (λ x. at_most x.context (count s.history)) u s.waiting r q))

pub none_in : (W : List Op) → ((o : Op) → IsIn o W → ⊥) → W ≡ []
none_in [] f = refl
none_in (o ∷ os) f = absurd (f o (inl refl))

-- ---- the laws

pub all_told : AllTold
all_told w hs ks i s a q quiet f e = (same, none_in s.waiting waits_not)
  where
    good : IsGood w
    good = good_after w hs a

    end : Later w (run w ks)
    end = run_later w ks good quiet

    me : IsMember (run w ks) i s
    me = (end.good).member i s e

    first : (t : State) × IsAt w i t
    first = (end.goes).was i s e

    grows : IsFront (first.0).history s.history
    grows =
        let r = (end.goes).at i first.0 first.1 in
        subst (λ (x : State). IsFront (first.0).history x.history) (one_state (run w ks) i i r.0 s r.1 e refl) r.2

    M : (M : History) × IsGathered w M × IsFront (first.0).history M
    M = grown_history w i first.0 good first.1

    there : (o : Op) → WasMade w o → IsThere s o
    there o k = ⊎_elim (λ p. there_later w ks i p.0 s o good quiet p.1 e (inl p.2)) (λ p. told_there w ks p.0 i good quiet p.1 s o e p.2) (f o k)

    members : members_of M.0 ≡ members_of s.history
    members = sym (front_members (first.0).history M.0 M.2) ∙ front_members (first.0).history s.history grows

    known : (o : Op) → WasMade w o → IsIn o (ops s.history)
    known o k = all_known M.0 s M.1.0 me.legal members (end.rests (rests_after w hs a q) i s e) (λ x p. there x ((M.1.1 x).0 p)) o ((M.1.1 o).1 k)

    was_made : (o : Op) → IsHome (run w ks) o → WasMade w o
    was_made o k = let p = (end.goes).old o k in (o.author, p.0, p.1, p.2)

    same : (o : Op) → IsIn o (ops s.history) ↔ WasMade w o
    same o = (λ p. was_made o (me.home o p), known o)

    waits_not : (o : Op) → IsIn o s.waiting → ⊥
    waits_not o p =
        let c = (number_counted s.history me.legal o (known o (was_made o (me.waits o p)))).1 in
        let d = (waiting_at s.history s.waiting o me.sound p).2 in
        omega arith

-- members of which each knows just all operations, and for which nothing waits, are equal
equal_all : (w v : World) (us : List ℕ) → IsGood v → ((n : ℕ) (s : State) → IsIn n us → IsAt v n s → ((o : Op) → IsIn o (ops s.history) ↔ WasMade w o) × (s.waiting ≡ [])) → AreEqual v us
equal_all w v us good each i j s t p k h e =
    let x = each i s p h in
    let y = each j t k e in
    let mine = good.member i s h in
    let its = good.member j t e in
    let same : HaveSameOps s.history t.history = λ o. (λ u. (y.0 o).1 ((x.0 o).0 u), λ u. (x.0 o).1 ((y.0 o).0 u)) in
    let members = mine.members ∙ sym its.members in
    let counts = at_most_antisym (count s.history) (count t.history) (part_count s.history t.history mine.legal its.legal members (λ o u. (same o).0 u)) (part_count t.history s.history its.legal mine.legal (sym members) (λ o u. (same o).1 u)) in
    (counts, same, same_ops.law s.history t.history mine.legal its.legal same, x.1, y.1)

-- what a member knows at first it knows when it makes its message
sender_knows : (w : World) (ks : List Happening) (from to : ℕ) (s : State) (o : Op) → IsGood w → AreQuiet ks → (x : IsExchanged w ks from to) → IsAt w from s → IsIn o (ops s.history) → IsIn o (ops (x.sender).history)
sender_knows w ks from to s o g q x h p =
    let r = ((run_later w x.before g (quiet_front x.before (whole (events.Send from to) ∷ (x.between ++ (whole (events.Deliver (length (run w x.before).sent) to) ∷ x.after))) (subst AreQuiet (sym x.are) q)).0).goes).at from s h in
    subst (λ (v : State). IsIn o (ops v.history)) (one_state (run w x.before) from from r.0 x.sender r.1 x.at refl) (front_ops s.history (r.0).history r.2 o p)

-- whom each of these members sends a message is told what it doesn't know
told_by_each : (w : World) (ks : List Happening) (us : List ℕ) (n : ℕ) → IsGood w → AreQuiet ks → AreKnown w us → ((i : ℕ) → IsIn i us → (i ≡ n → ⊥) → IsExchanged w ks i n) → (o : Op) → WasMade w o → Knows w n o ⊎ IsTold w ks n o
told_by_each w ks us n g q k x o u =
    let c = k o u in
    bool_cases (c.0 == n)
    (λ f. inl (subst (λ z. Knows w z o) (eq_is c.0 n f) c.2))
    (λ f. let e = x c.0 c.1 (eq_not c.0 n f) in inr (c.0, e, sender_knows w ks c.0 n (c.2).0 o g q e (c.2).1 (c.2).2))

pub one_round : OneRound
one_round w hs ks us a q quiet k x =
    let g = good_after w hs a in
    equal_all w (run w ks) us (run_later w ks g quiet).good (λ n s m e. all_told w hs ks n s a q quiet (told_by_each w ks us n g quiet k (λ i p f. x i n p m f)) e)

-- ---- by way of one member

events_both : (hs ks : List Happening) → AreEvents hs → AreQuiet ks → AreEvents (hs ++ ks)
events_both [] [] h q = tt
events_both [] (k ∷ ks) h q = (q.1, events_both [] ks tt q.3)
events_both (h ∷ hs) ks a q = (a.0, events_both hs ks a.1 q)

whole_both : (hs ks : List Happening) → AreWhole hs → AreQuiet ks → AreWhole (hs ++ ks)
whole_both [] [] h q = tt
whole_both [] (k ∷ ks) h q = (q.2, whole_both [] ks tt q.3)
whole_both (h ∷ hs) ks a q = (a.0, whole_both hs ks a.1 q)

after_both : (w : World) (hs ks : List Happening) → IsAfter w hs → AreQuiet ks → IsAfter (run w ks) (hs ++ ks)
after_both w hs ks a q = (a.0, a.1, a.2, a.3, a.4, events_both hs ks a.5 q, run_parts (empty_world a.0 a.1) hs ks ∙ ap (λ v. run v ks) a.6)

pub one_hub : OneHub
one_hub w hs ks ls us hub a q quiet later k x = equal_all (run w ks) (run (run w ks) ls) us (run_later (run w ks) ls first.good later).good each
  where
    g : IsGood w
    g = good_after w hs a

    first : Later w (run w ks)
    first = run_later w ks g quiet

    -- the one in the middle knows all
    knows : (z : State) → IsAt (run w ks) hub z → (o : Op) → WasMade (run w ks) o → IsIn o (ops z.history)
    knows z h o u =
        let r = (first.goes).old o (((first.good).member u.0 u.1 u.2).home o u.3) in
        ((all_told w hs ks hub z a q quiet (told_by_each w ks us hub g quiet k (λ i p f. (x i p f).0)) h).0 o).1 (o.author, r.0, r.1, r.2)

    told : (n : ℕ) → IsIn n us → (s : State) → IsAt (run (run w ks) ls) n s → (o : Op) → WasMade (run w ks) o → Knows (run w ks) n o ⊎ IsTold (run w ks) ls n o
    told n m s e o u =
        bool_cases (n == hub)
        (λ f. let z = ((run_later (run w ks) ls first.good later).goes).was n s e in
        inl (z.0, z.1, knows z.0 (subst (λ i. IsAt (run w ks) i z.0) (eq_is n hub f) z.1) o u))
        (λ f. let y = (x n m (eq_not n hub f)).1 in
        let z = ((run_later (run w ks) y.before first.good (quiet_front y.before (whole (events.Send hub n) ∷ (y.between ++ (whole (events.Deliver (length (run (run w ks) y.before).sent) n) ∷ y.after))) (subst AreQuiet (sym y.are) later)).0).goes).was hub y.sender y.at in
        inr (hub, y, sender_knows (run w ks) ls hub n z.0 o first.good later y z.1 (knows z.0 z.1 o u)))

    each : (n : ℕ) (s : State) → IsIn n us → IsAt (run (run w ks) ls) n s → ((o : Op) → IsIn o (ops s.history) ↔ WasMade (run w ks) o) × (s.waiting ≡ [])
    each n s m e = all_told (run w ks) (hs ++ ks) ls n s (after_both w hs ks a quiet) (whole_both hs ks q quiet) later (told n m s e) e
