-- In a good world an operation that stands in its author's history is not refused.
use Rattle.std.proofs.Common.{◌≡◌, ℕ, ◌≤◌, ◌<◌, Bool, true, false, List, [], ◌∷◌, refl, sym, ap, ◌∙◌, subst, arith, nat_le}
use Rattle.std.specs.Prelude.{if◌then◌else◌, not, ◌&&◌, ◌==◌, slice_index, Option, Some, None}
use Rattle.rls_ident.specs.Lists.{IsIn}
use Rattle.rls_ident.specs.Vectors.{at_most}
use Rattle.rls_ident.proofs.Members.{bool_cases, found_in, in_left, le_is, neq_test, not_le_is}
use Rattle.rls_ops.specs.declared.op.Op.{Op}
use Rattle.rls_ops.specs.Shapes.{shape_fault}
use Rattle.rls_ops.specs.Same.{op_eq}
use Rattle.rls_ops.proofs.Equal.{op_same}
use Rattle.rls_model.specs.Answers.{Answer, Applies, Repeats, Waits, Refuses, Own, Forked}
use Rattle.rls_model.specs.History.{Accepted, History, Then, ops, count, count_of, me_of, members_of, acknowledged, row}
use Rattle.rls_model.specs.Fitting.{refusal}
use Rattle.rls_model.specs.Receiving.{State, is_numbered, waiting_under, verdict_of, answer_beside, answer_by, answer, receive}
use Rattle.rls_model.specs.WellFormed.{IsOp}
use Rattle.rls_model.specs.Legal.{MayAccept, IsLegal}
use Rattle.rls_model.specs.Worlds.{World}
use Rattle.rls_model.specs.Laws.{IsAt}
use Rattle.rls_model.proofs.Stable.{length-count}
use Rattle.rls_model.proofs.HistoryNumbers.{number_counted, one_number, IsFront, front_legal, front_me, front_members, front_ops, op_front, IsAck, ack_counted, acks_below, not_yet}
use Rattle.rls_model.proofs.WorldsLines.{AreLiving, made_living, Arrives, fits_here, next_here}
use Rattle.rls_model.proofs.WaitingFits.{numbered_is}
use Rattle.rls_model.proofs.WorldsInvariant.{IsHome, IsMember, IsGood, one_state, made_front}

-- ---- operations by their numbers

-- operations that stand in their authors' histories with one number are one
pub one_op : (w : World) (x y : Op) → IsGood w → IsHome w x → IsHome w y → x.author ≡ y.author → x.seq ≡ y.seq → x ≡ y
one_op w x y g h k e f =
    let same : k.0 ≡ h.0 = one_state w y.author x.author k.0 h.0 k.1 h.1 (sym e) in
    one_number (h.0).history (g.member x.author h.0 h.1).legal x y h.2 (subst (λ (s : State). IsIn y (ops s.history)) same k.2) e f

-- an own one was accepted
pub own_counted : (w : World) (i : ℕ) (s : State) (o : Op) → IsGood w → IsAt w i s → IsHome w o → o.author ≡ i → o.seq ≤ count_of s.history o.author
own_counted w i s o g h k e =
    let same : k.0 ≡ s = one_state w o.author i k.0 s k.1 h e in
    (number_counted s.history (g.member i s h).legal o (subst (λ (t : State). IsIn o (ops t.history)) same k.2)).1

-- its form, at each member
pub home_shape : (w : World) (i : ℕ) (s : State) (o : Op) → IsGood w → IsAt w i s → IsHome w o → IsOp o × (shape_fault (members_of s.history) o ≡ None)
home_shape w i s o g h k =
    let t = g.member o.author k.0 k.1 in
    let r = op_front (k.0).history o k.2 in
    let l = front_legal (Then r.0 (Accepted o)) (k.0).history r.1 t.legal in
    let e : members_of r.0 ≡ members_of s.history = front_members (Then r.0 (Accepted o)) (k.0).history r.1 ∙ (t.members ∙ sym (g.member i s h).members) in
    (l.1, ap (λ n. shape_fault n o) (sym e) ∙ l.2.shape)

-- ---- what has its causes here may be accepted

pub may_accept : (w : World) (i : ℕ) (s : State) (o : Op) → IsGood w → IsAt w i s → IsHome w o → (o.author ≡ i → ⊥) → count_of s.history o.author < o.seq → at_most o.context (count s.history) ≡ true → MayAccept s.history o
may_accept w i s o g h k other above causes = record { shape = (home_shape w i s o g h k).1; next = next_here s.history P o arrives; causes = causes; fits = fits_here s.history P o arrives }
  where
    t : State
    t = k.0

    mine : IsMember w i s
    mine = g.member i s h

    its : IsMember w o.author t
    its = g.member o.author t k.1

    P : History
    P = (op_front t.history o k.2).0

    front : IsFront (Then P (Accepted o)) t.history
    front = (op_front t.history o k.2).1

    legal : IsLegal (Then P (Accepted o))
    legal = front_legal (Then P (Accepted o)) t.history front its.legal

    members : members_of P ≡ members_of s.history
    members = front_members (Then P (Accepted o)) t.history front ∙ (its.members ∙ sym mine.members)

    one : (x y : Op) → IsIn x (ops s.history) → IsIn y (ops P) → x.author ≡ y.author → x.seq ≡ y.seq → x ≡ y
    one x y p q e f = one_op w x y g (mine.home x p) (its.home y (front_ops (Then P (Accepted o)) t.history front y (in_left y (ops P) (o ∷ []) q))) e f

    ack : (v : List ℕ) → IsAck s.history o.author v → at_most v (count P) ≡ true
    ack v p =
        let r = mine.acks o.author v p in
        let same : r.0 ≡ t = one_state w o.author o.author r.0 t r.2 k.1 refl in
        let f : IsFront r.1 t.history = subst (λ (u : State). IsFront r.1 u.history) same r.3 in
        let c = ack_counted s.history mine.legal o.author v p in
        let d : slice_index (count r.1) o.author ≡ slice_index v o.author = ap (λ u. slice_index u o.author) r.4 in
        ap (λ u. at_most u (count P)) (sym r.4) ∙ not_yet t.history P r.1 o its.legal front f (let a = above in omega arith)

    row_below : at_most (row s.history o.author) (count P) ≡ true
    row_below =
        let n : (o.author == me_of s.history) ≡ false = neq_test o.author (me_of s.history) (λ e. other (e ∙ mine.me)) in
        let e : row s.history o.author ≡ acknowledged s.history o.author = ap (λ b. if b then count s.history else acknowledged s.history o.author) n in
        ap (λ v. at_most v (count P)) e ∙ acks_below s.history o.author (count P) (length-count P ∙ members) ack

    arrives : Arrives s.history P o
    arrives = record {
      here = mine.legal;
      home = legal;
      own = sym its.me ∙ sym (front_me (Then P (Accepted o)) t.history front);
      members = members;
      one = one;
      next = above;
      causes = causes;
      row = row_below;
      living = let r = (made_front (Then P (Accepted o)) t.history front its.own).1 (sym its.me ∙ sym (front_me (Then P (Accepted o)) t.history front)) in subst (AreLiving P) r.3 (made_living P r.0);
    }

-- ---- the answer

-- what may be answered to a home operation
pub data Received (s : State) (o : Op) (r : Answer) : Type 0 where
  Again : r ≡ Repeats → o.seq ≤ count_of s.history o.author → Received s o r
  Held : r ≡ Waits → count_of s.history o.author < o.seq → Received s o r
  Taken : r ≡ Applies → MayAccept s.history o → Received s o r

pub beside_none : (H : History) (o : Op) (b : Bool) → at_most o.context (count H) ≡ b → answer_beside (count H) (refusal H o) o None ≡ (if not b then Waits else verdict_of (refusal H o))
beside_none H o b e = ap (λ c. if not c then Waits else verdict_of (refusal H o)) e

pub beside_same : (H : History) (o x : Op) → x ≡ o → answer_beside (count H) (refusal H o) o (Some x) ≡ answer_beside (count H) (refusal H o) o None
beside_same H o x e = ap (λ c. if not c then Refuses (Forked x) else (if not (at_most o.context (count H)) then Waits else verdict_of (refusal H o))) (ap (λ y. op_eq y o) e ∙ op_same o)

pub received : (w : World) (i : ℕ) (s : State) (o : Op) → IsGood w → IsAt w i s → IsHome w o → Received s o (receive s o)
unfolding answer
received w i s o g h k =
    bool_cases (nat_le o.seq (count_of s.history o.author))
    (λ e. Again (shape ∙ ap (λ b. if b then Repeats else (if not false && (o.author == me_of s.history) then Refuses (Own o.seq) else answer_beside (count s.history) (refusal s.history o) o (waiting_under s.waiting o.author o.seq))) e) (le_is o.seq (count_of s.history o.author) e))
    (λ e. new (not_le_is o.seq (count_of s.history o.author) e) (receive s o)
    (shape ∙ ap (λ b. if b then Repeats else (if not false && (o.author == me_of s.history) then Refuses (Own o.seq) else answer_beside (count s.history) (refusal s.history o) o (waiting_under s.waiting o.author o.seq))) e))
  where
    shape : answer_by false (count s.history) (me_of s.history) s.waiting (refusal s.history o) o (shape_fault (members_of s.history) o) ≡ answer_by false (count s.history) (me_of s.history) s.waiting (refusal s.history o) o None
    shape = ap (answer_by false (count s.history) (me_of s.history) s.waiting (refusal s.history o) o) (home_shape w i s o g h k).1

    beside : (m : Option Op) → waiting_under s.waiting o.author o.seq ≡ m → answer_beside (count s.history) (refusal s.history o) o m ≡ answer_beside (count s.history) (refusal s.history o) o None
    beside None e = refl
    beside (Some x) e =
        let r = found_in (is_numbered o.author o.seq) x s.waiting e in
        let n = numbered_is o.author o.seq x r.1 in
        beside_same s.history o x (one_op w x o g ((g.member i s h).waits x r.0) k n.0 n.1)

    causes : count_of s.history o.author < o.seq → (o.author ≡ i → ⊥) → (r : Answer) → r ≡ answer_beside (count s.history) (refusal s.history o) o None → Received s o r
    causes c n r e =
        bool_cases (at_most o.context (count s.history))
        (λ f. let m = may_accept w i s o g h k n c f in Taken (e ∙ (beside_none s.history o true f ∙ ap verdict_of m.fits)) m)
        (λ f. Held (e ∙ beside_none s.history o false f) c)

    new : count_of s.history o.author < o.seq → (r : Answer) → r ≡ (if not false && (o.author == me_of s.history) then Refuses (Own o.seq) else answer_beside (count s.history) (refusal s.history o) o (waiting_under s.waiting o.author o.seq)) → Received s o r
    new c r e =
        let n : o.author ≡ i → ⊥ = λ f. let d = own_counted w i s o g h k f in absurd (omega arith) in
        let f : (o.author == me_of s.history) ≡ false = neq_test o.author (me_of s.history) (λ q. n (q ∙ (g.member i s h).me)) in
        causes c n r (e ∙ (ap (λ b. if not false && b then Refuses (Own o.seq) else answer_beside (count s.history) (refusal s.history o) o (waiting_under s.waiting o.author o.seq)) f ∙ beside (waiting_under s.waiting o.author o.seq) refl))
