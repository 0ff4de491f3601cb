-- Numbers of operations in a legal history, and its fronts.
use Rattle.std.proofs.Common.{◌≡◌, ℕ, suc, ◌+◌, ◌≤◌, ◌<◌, Bool, true, false, List, [], ◌∷◌, ◌++◌, length, refl, sym, ap, ◌∙◌, subst, arith, inl, inr, ◌⊎◌, ⊎_elim, nat_le}
use Rattle.std.specs.Prelude.{if◌then◌else◌, not, ◌&&◌, ◌==◌, cond, slice_index, None}
use Rattle.std.proofs.lemmas.List.{append-nil}
use Rattle.std.proofs.lemmas.List.Elements.{filter-append}
use Rattle.rls_ident.specs.Lists.{IsIn}
use Rattle.rls_ident.specs.Vectors.{at_most, join}
use Rattle.rls_ident.proofs.Members.{and_left, and_right, and_true, bool_cases, eq_is, eq_not, eq_test, in_left, in_right, le_is, not_le_is, or_left, or_right, or_split, snoc_split}
use Rattle.rls_ident.proofs.Vectors.{at_most_refl, at_most_trans, index_le, at_most_antisym, zeros_below, zeros_index, join_below, raise_other, raise_upto, index-raise_same, index-raise_le}
use Rattle.rls_ops.specs.declared.op.Op.{Op}
use Rattle.rls_model.specs.Answers.{Left, Backward}
use Rattle.rls_model.specs.History.{Entry, Accepted, Acknowledged, History, Then, ops, count, count_of, me_of, members_of, is_leave, has_left, acknowledged, row}
use Rattle.rls_model.specs.History as history
use Rattle.rls_model.specs.Fitting.{refusal}
use Rattle.rls_model.specs.Legal.{MayAccept, IsLegal}
use Rattle.rls_model.specs.Laws.{ops_of}
pub use Rattle.rls_model.specs.Laws.{IsFront}
use Rattle.rls_model.proofs.OneTree.{none_else, not_not, author_below, count_next}
use Rattle.rls_model.proofs.Stable.{length-count, count_grows}

-- ---- numbers

pub number_counted : (H : History) → IsLegal H → (x : Op) → IsIn x (ops H) → (0 < x.seq) × (x.seq ≤ count_of H x.author)
number_counted (history.Fresh group me members) l x p = absurd p
number_counted (Then G (Acknowledged b v)) l x p = number_counted G l.0 x p
number_counted (Then G (Accepted o)) l x p =
    ⊎_elim (λ q. let r = number_counted G l.0 x q in (r.0, omega (arith, r.1, index-raise_le (count G) o.author x.author)))
    (λ q. let h = count_next G o l.2 in
    let z : 0 < o.seq = omega (arith, l.2.next) in
    (subst (λ (y : Op). 0 < y.seq) q z, subst (λ (y : Op). y.seq ≤ count_of (Then G (Accepted o)) y.author) q h))
    (snoc_split x o (ops G) p)

new_number : (G : History) (o x y : Op) → IsLegal (Then G (Accepted o)) → IsIn x (ops G) → o ≡ y → x.author ≡ y.author → x.seq ≡ y.seq → ⊥
new_number G o x y l p q e f =
    let h = (number_counted G l.0 x p).1 in
    let c : count_of G x.author ≡ count_of G o.author = ap (count_of G) (e ∙ ap (λ (z : Op). z.author) (sym q)) in
    let d : x.seq ≡ o.seq = f ∙ ap (λ (z : Op). z.seq) (sym q) in
    let n = l.2.next in
    omega arith

-- operations with one number are one
pub one_number : (H : History) → IsLegal H → (x y : Op) → IsIn x (ops H) → IsIn y (ops H) → x.author ≡ y.author → x.seq ≡ y.seq → x ≡ y
one_number (history.Fresh group me members) l x y p q e f = absurd p
one_number (Then G (Acknowledged b v)) l x y p q e f = one_number G l.0 x y p q e f
one_number (Then G (Accepted o)) l x y p q e f =
    ⊎_elim
    (λ u. ⊎_elim (λ v. one_number G l.0 x y u v e f) (λ v. absurd (new_number G o x y l u v e f)) (snoc_split y o (ops G) q))
    (λ u. ⊎_elim (λ v. absurd (new_number G o y x l v u (sym e) (sym f))) (λ v. sym u ∙ v) (snoc_split y o (ops G) q))
    (snoc_split x o (ops G) p)

-- the history has an operation of the author with the number
abbrev pub HasNumber : History → ℕ → ℕ → Type 0
HasNumber H a s = (x : Op) × IsIn x (ops H) × (x.author ≡ a) × (x.seq ≡ s)

pub with_number : (H : History) → IsLegal H → (a s : ℕ) → 0 < s → s ≤ count_of H a → HasNumber H a s
with_number (history.Fresh group me members) l a s z h = let e = zeros_index members a in absurd (omega arith)
with_number (Then G (Acknowledged b v)) l a s z h = with_number G l.0 a s z h
with_number (Then G (Accepted o)) l a s z h = go (o.author == a) refl (λ k. with_number G l.0 a s z k)
  where
    old : HasNumber G a s → HasNumber (Then G (Accepted o)) a s
    old r = (r.0, in_left r.0 (ops G) (o ∷ []) r.1, r.2, r.3)

    go : (b : Bool) → (o.author == a) ≡ b → (s ≤ count_of G a → HasNumber G a s) → HasNumber (Then G (Accepted o)) a s
    go false e ih = let k = raise_other (count G) o.author a (eq_not o.author a e) in old (ih (omega arith))
    go true e ih =
        let f = eq_is o.author a e in
        let g : count_of G o.author ≡ count_of G a = ap (count_of G) f in
        let u = raise_upto (count G) o.author a in
        let n = l.2.next in
        bool_cases (nat_le s (count_of G a)) (λ k. old (ih (le_is s (count_of G a) k)))
        (λ k. let m = not_le_is s (count_of G a) k in (o, in_right o (ops G) (o ∷ []) (inl refl), f, omega arith))

-- ---- a member's operations, in order

-- they have the numbers from n on
abbrev pub AreFrom : ℕ → List Op → Type 0
AreFrom n [] = Unit {0}
AreFrom n (o ∷ os) = (o.seq ≡ n) × AreFrom (suc n) os

from_snoc : (n : ℕ) (os : List Op) (o : Op) → AreFrom n os → o.seq ≡ n + length os → AreFrom n (os ++ (o ∷ []))
from_snoc n [] o h e = (omega arith, tt)
from_snoc n (p ∷ os) o h e = (h.0, from_snoc (suc n) os o h.1 (omega arith))

length_snoc : (os : List Op) (o : Op) → length (os ++ (o ∷ [])) ≡ suc (length os)
length_snoc [] o = refl
length_snoc (p ∷ os) o = ap suc (length_snoc os o)

pub ops_from : (H : History) → IsLegal H → (a : ℕ) → AreFrom 1 (ops_of H a) × (length (ops_of H a) ≡ count_of H a)
ops_from (history.Fresh group me members) l a = (tt, sym (zeros_index members a))
ops_from (Then G (Acknowledged b v)) l a = ops_from G l.0 a
ops_from (Then G (Accepted o)) l a = subst (λ os. AreFrom 1 os × (length os ≡ count_of (Then G (Accepted o)) a)) (sym (filter-append (λ (p : Op). p.author == a) (ops G) (o ∷ []))) (go (o.author == a) refl (ops_from G l.0 a))
  where
    go : (b : Bool) → (o.author == a) ≡ b → AreFrom 1 (ops_of G a) × (length (ops_of G a) ≡ count_of G a) →
        AreFrom 1 (ops_of G a ++ cond b (o ∷ []) []) × (length (ops_of G a ++ cond b (o ∷ []) []) ≡ count_of (Then G (Accepted o)) a)
    go true e h =
        let f = eq_is o.author a e in
        let g : count_of G o.author ≡ count_of G a = ap (count_of G) f in
        let n = l.2.next in
        let b : o.author < length (count G) = omega (arith, author_below (members_of G) o l.2.shape, length-count G) in
        let r = index-raise_same (count G) o.author b in
        let c : count_of (Then G (Accepted o)) o.author ≡ count_of (Then G (Accepted o)) a = ap (count_of (Then G (Accepted o))) f in
        let k = h.1 in
        let m = length_snoc (ops_of G a) o in
        (from_snoc 1 (ops_of G a) o h.0 (omega arith), omega arith)
    go false e h =
        let r = raise_other (count G) o.author a (eq_not o.author a e) in
        subst (λ os. AreFrom 1 os × (length os ≡ count_of (Then G (Accepted o)) a)) (sym (append-nil (ops_of G a))) (h.0, h.1 ∙ sym r)

-- two such lists of one length whose operations with equal numbers are equal
pub same_from : (n : ℕ) (xs ys : List Op) → AreFrom n xs → AreFrom n ys → length xs ≡ length ys → ((x y : Op) → IsIn x xs → IsIn y ys → x.seq ≡ y.seq → x ≡ y) → xs ≡ ys
same_from n [] [] h k e f = refl
same_from n [] (y ∷ ys) h k e f = absurd (omega arith)
same_from n (x ∷ xs) [] h k e f = absurd (omega arith)
same_from n (x ∷ xs) (y ∷ ys) h k e f =
    ap (λ z. z ∷ xs) (f x y (inl refl) (inl refl) (h.0 ∙ sym k.0)) ∙ ap (λ zs. y ∷ zs) (same_from (suc n) xs ys h.1 k.1 (omega arith) (λ u v p q g. f u v (inr p) (inr q) g))

-- ---- fronts

pub front_self : (H : History) → IsFront H H
front_self (history.Fresh group me members) = refl
front_self (Then G e) = inl refl

pub front_trans : (P Q R : History) → IsFront P Q → IsFront Q R → IsFront P R
front_trans P Q (history.Fresh group me members) h k = subst (IsFront P) k h
front_trans P Q (Then G e) h (inl k) = subst (IsFront P) k h
front_trans P Q (Then G e) h (inr k) = inr (front_trans P Q G h k)

pub front_legal : (P H : History) → IsFront P H → IsLegal H → IsLegal P
front_legal P (history.Fresh group me members) h l = subst IsLegal (sym h) l
front_legal P (Then G e) (inl h) l = subst IsLegal (sym h) l
front_legal P (Then G e) (inr h) l = front_legal P G h l.0

pub front_me : (P H : History) → IsFront P H → me_of P ≡ me_of H
front_me P (history.Fresh group me members) h = ap me_of h
front_me P (Then G e) (inl h) = ap me_of h
front_me P (Then G e) (inr h) = front_me P G h

pub front_members : (P H : History) → IsFront P H → members_of P ≡ members_of H
front_members P (history.Fresh group me members) h = ap members_of h
front_members P (Then G e) (inl h) = ap members_of h
front_members P (Then G e) (inr h) = front_members P G h

pub front_count : (P H : History) → IsFront P H → at_most (count P) (count H) ≡ true
front_count P (history.Fresh group me members) h = ap (at_most (count P)) (ap count (sym h)) ∙ at_most_refl (count P)
front_count P (Then G e) (inl h) = ap (at_most (count P)) (ap count (sym h)) ∙ at_most_refl (count P)
front_count P (Then G e) (inr h) = at_most_trans (count P) (count G) (count (Then G e)) (front_count P G h) (count_grows G e)

op_stays : (G : History) (e : Entry) (o : Op) → IsIn o (ops G) → IsIn o (ops (Then G e))
op_stays G (Accepted u) o p = in_left o (ops G) (u ∷ []) p
op_stays G (Acknowledged a v) o p = p

pub front_ops : (P H : History) → IsFront P H → (o : Op) → IsIn o (ops P) → IsIn o (ops H)
front_ops P (history.Fresh group me members) h o p = subst (λ Q. IsIn o (ops Q)) h p
front_ops P (Then G e) (inl h) o p = subst (λ Q. IsIn o (ops Q)) h p
front_ops P (Then G e) (inr h) o p = op_stays G e o (front_ops P G h o p)

-- of two fronts, one is a front of the other
pub front_total : (P Q H : History) → IsFront P H → IsFront Q H → IsFront P Q ⊎ IsFront Q P
front_total P Q (history.Fresh group me members) h k = inl (subst (IsFront P) (sym k) h)
front_total P Q (Then G e) (inl h) k = inr (subst (IsFront Q) (sym h) k)
front_total P Q (Then G e) (inr h) (inl k) = inl (subst (IsFront P) (sym k) (inr h))
front_total P Q (Then G e) (inr h) (inr k) = front_total P Q G h k

-- the front that ends with an operation
pub op_front : (H : History) (o : Op) → IsIn o (ops H) → (P : History) × IsFront (Then P (Accepted o)) H
op_front (history.Fresh group me members) o p = absurd p
op_front (Then G (Acknowledged b v)) o p = let r = op_front G o p in (r.0, inr r.1)
op_front (Then G (Accepted u)) o p =
    ⊎_elim (λ q. let r = op_front G o q in (r.0, inr r.1)) (λ q. (G, inl (ap (λ w. Then G (Accepted w)) (sym q)))) (snoc_split o u (ops G) p)

-- ---- acknowledgements

-- this acknowledgement stands in the history
abbrev pub IsAck : History → ℕ → List ℕ → Type 0
IsAck (history.Fresh group me members) a v = ⊥
IsAck (Then G (Accepted o)) a v = IsAck G a v
IsAck (Then G (Acknowledged b w)) a v = ((b ≡ a) × (w ≡ v)) ⊎ IsAck G a v

-- it tells no more of its member than was accepted
pub ack_counted : (H : History) → IsLegal H → (a : ℕ) (v : List ℕ) → IsAck H a v → slice_index v a ≤ count_of H a
ack_counted (history.Fresh group me members) l a v p = absurd p
ack_counted (Then G (Accepted o)) l a v p = let h = ack_counted G l.0 a v p in omega (arith, index-raise_le (count G) o.author a)
ack_counted (Then G (Acknowledged b w)) l a v (inl p) =
    let h = and_left (not (b == me_of G) && nat_le (slice_index w b) (count_of G b)) (not (at_most w (row G b))) l.2 in
    let k = le_is (slice_index w b) (count_of G b) (and_right (not (b == me_of G)) (nat_le (slice_index w b) (count_of G b)) h) in
    subst (λ u. slice_index u a ≤ count_of G a) p.1 (subst (λ c. slice_index w c ≤ count_of G c) p.0 k)
ack_counted (Then G (Acknowledged b w)) l a v (inr p) = ack_counted G l.0 a v p

-- what all of a member's acknowledgements are at most, their join is at most
pub acks_below : (H : History) (a : ℕ) (w : List ℕ) → length w ≡ members_of H → ((v : List ℕ) → IsAck H a v → at_most v w ≡ true) → at_most (acknowledged H a) w ≡ true
acks_below (history.Fresh group me members) a w n f = zeros_below members w n
acks_below (Then G (Accepted o)) a w n f = acks_below G a w n f
acks_below (Then G (Acknowledged b v)) a w n f = go (a == b) refl (acks_below G a w n (λ u p. f u (inr p)))
  where
    go : (c : Bool) → (a == b) ≡ c → at_most (acknowledged G a) w ≡ true → at_most (if c then join (acknowledged G a) v else acknowledged G a) w ≡ true
    go true e h = join_below (acknowledged G a) v w h (f v (inl (sym (eq_is a b e), refl)))
    go false e h = h

-- ---- an own operation

pub fits_left : (G : History) (o : Op) → refusal G o ≡ None → has_left G o.author ≡ false
unfolding refusal
fits_left G o h = (none_else (has_left G o.author) (Left (count_of G o.author)) _ h).0

pub fits_row : (G : History) (o : Op) → refusal G o ≡ None → at_most (row G o.author) o.context ≡ true
unfolding refusal
fits_row G o h =
    let p = none_else (has_left G o.author) (Left (count_of G o.author)) _ h in
    let q = none_else (not (at_most (row G o.author) o.context)) (Backward (row G o.author)) _ p.1 in
    not_not (at_most (row G o.author) o.context) q.0

-- its context is the count before it
pub own_context : (P : History) (o : Op) → IsLegal (Then P (Accepted o)) → o.author ≡ me_of P → o.context ≡ count P
own_context P o l e =
    let r : row P o.author ≡ count P = ap (λ b. if b then count P else acknowledged P o.author) (eq_test o.author (me_of P) e) in
    at_most_antisym o.context (count P) l.2.causes (ap (λ v. at_most v o.context) (sym r) ∙ fits_row P o l.2.fits)

-- the counts of a front of its author's history that has not got the operation are at most its context
pub not_yet : (A P Q : History) (o : Op) → IsLegal A → IsFront (Then P (Accepted o)) A → IsFront Q A → slice_index (count Q) o.author < o.seq → at_most (count Q) (count P) ≡ true
not_yet A P Q o l h k c = ⊎_elim (λ f. ⊎_elim (λ e. absurd (same e)) (λ g. front_count Q P g) f) (λ f. absurd (later f)) (front_total Q (Then P (Accepted o)) A k h)
  where
    m : MayAccept P o
    m = (front_legal (Then P (Accepted o)) A h l).2

    n : o.seq ≤ count_of (Then P (Accepted o)) o.author
    n = count_next P o m

    same : Q ≡ Then P (Accepted o) → ⊥
    same e = let f : count_of Q o.author ≡ count_of (Then P (Accepted o)) o.author = ap (λ K. count_of K o.author) e in let j = n in omega arith

    later : IsFront (Then P (Accepted o)) Q → ⊥
    later f = let g = index_le (count (Then P (Accepted o))) (count Q) o.author (front_count (Then P (Accepted o)) Q f) in let j = n in omega arith

-- ---- leaves

pub leave_of : (H : History) (a : ℕ) → has_left H a ≡ true → (x : Op) × IsIn x (ops H) × (x.author ≡ a) × (is_leave x.body ≡ true)
leave_of (history.Fresh group me members) a h = absurd (cc)
leave_of (Then G (Acknowledged b v)) a h = leave_of G a h
leave_of (Then G (Accepted o)) a h =
    ⊎_elim (λ k. let r = leave_of G a k in (r.0, in_left r.0 (ops G) (o ∷ []) r.1, r.2, r.3))
    (λ k. (o, in_right o (ops G) (o ∷ []) (inl refl), eq_is o.author a (and_left (o.author == a) (is_leave o.body) k), and_right (o.author == a) (is_leave o.body) k))
    (or_split (has_left G a) ((o.author == a) && is_leave o.body) h)

pub left_by : (H : History) (x : Op) (a : ℕ) → IsIn x (ops H) → x.author ≡ a → is_leave x.body ≡ true → has_left H a ≡ true
left_by (history.Fresh group me members) x a p e h = absurd p
left_by (Then G (Acknowledged b v)) x a p e h = left_by G x a p e h
left_by (Then G (Accepted o)) x a p e h =
    ⊎_elim (λ q. or_left (has_left G a) ((o.author == a) && is_leave o.body) (left_by G x a q e h))
    (λ q. or_right (has_left G a) ((o.author == a) && is_leave o.body) (new q))
    (snoc_split x o (ops G) p)
  where
    new : o ≡ x → ((o.author == a) && is_leave o.body) ≡ true
    new q = ap (λ (y : Op). (y.author == a) && is_leave y.body) q ∙ and_true (x.author == a) (is_leave x.body) (eq_test x.author a e) h
