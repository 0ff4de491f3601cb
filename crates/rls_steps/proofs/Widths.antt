-- Identifiers in the order in which they are looked up: those of one length between two of a run are of that run.
use Rattle.std.proofs.Common.{◌≡◌, ℕ, zero, suc, ◌<◌, ◌≤◌, true, false, List, [], ◌∷◌, length, Ordering, refl, sym, ap, ◌∙◌, subst, arith}
use Rattle.std.specs.Prelude.{ℤ, pos, negsuc, ◌+ℤ◌, ◌-ℤ◌, ◌<ℤ◌, ◌≤ℤ◌}
use Rattle.std.specs.declared.cmp.Ordering.TheVariants.{Less, Equal, Greater}
use Rattle.std.specs.Ordering.{ordering_then, ordering_reverse, nat_cmp, int_cmp, is_gt, is_eq, MatchOrdering}
use Rattle.std.specs.Cmp.{IsTotalOrder}
use Rattle.std.proofs.lemmas.Cmp.{tied_itself, nat_cmp_total, on_total, then_total, ranked, int_ranked}
use Rattle.std.proofs.lemmas.Int.{ints}
use Rattle.rls_ident.specs.declared.tuple.Tuple.{Tuple}
use Rattle.rls_ident.specs.declared.tuple.Tuple.TheVariants.{Low, At, High}
use Rattle.rls_ident.specs.Tuples.{seq_of, raised, spot_cmp, tuple_cmp}
use Rattle.rls_ident.specs.Identifiers.{IsIdent, ident_cmp, ident_eq, last_of, shifted}
use Rattle.rls_ident.proofs.Ends.{eq_same}
use Rattle.rls_ident.proofs.Lists.{then_equal}
use Rattle.rls_ident.proofs.Members.{same_bool, equal_is}
use Rattle.rls_ident.proofs.Shifted.{last_shifted, shifted_none, shifted_less}
use Rattle.rls_ident.proofs.Tuples.{ident_total, nat_same, tuple_same, tuples}
use Rattle.rls_steps.specs.NameRuns.{long_cmp, wide_cmp}

long_total : IsTotalOrder long_cmp
long_total = then_total (on_total (λ (x : List Tuple). length x) nat_cmp_total) ident_total

pub wide_total : IsTotalOrder wide_cmp
wide_total = then_total (on_total (λ (x : List Tuple). seq_of (last_of x)) nat_cmp_total) long_total

pub wide_same : (x y : List Tuple) → is_eq (wide_cmp x y) ≡ ident_eq x y
wide_same x y =
    same_bool (is_eq (wide_cmp x y)) (ident_eq x y)
    (λ t. let long = (then_equal (nat_cmp (seq_of (last_of x)) (seq_of (last_of y))) (long_cmp x y) (equal_is (wide_cmp x y) t)).1 in
    ap is_eq (then_equal (nat_cmp (length x) (length y)) (ident_cmp x y) long).1)
    (λ t. subst (λ z. is_eq (wide_cmp x z) ≡ true) (eq_same x y t) (ap is_eq (tied_itself wide_total x)))

-- ---- two comparisons that leave room for nothing else

squeeze : {K : Type 0} (R : K → K → Ordering) → IsTotalOrder R → (x y : K) (a b : Ordering) → ordering_then (R x y) a ≡ Less → ordering_then (R y x) b ≡ Less → (R x y ≡ Equal) × (a ≡ Less) × (b ≡ Less)
squeeze R t x y a b p q = go (R x y) refl p (sym (ap (λ o. ordering_then o b) (t.antisymm y x)) ∙ q)
  where
    go : (o : Ordering) → R x y ≡ o → ordering_then o a ≡ Less → ordering_then (ordering_reverse o) b ≡ Less → (R x y ≡ Equal) × (a ≡ Less) × (b ≡ Less)
    go Less e h k = absurd (cc)
    go Equal e h k = (e, h, k)
    go Greater e h k = absurd (cc)

int_lower : (x y : ℤ) → int_cmp x y ≡ Less → x <ℤ y
int_lower x y e = subst (λ o. MatchOrdering o (x <ℤ y) (x ≡ y) (y <ℤ x)) e (int_ranked x y (int_cmp x y) refl)

above_zero : (d : ℤ) → pos 0 ≤ℤ d → (j : ℕ) × (d ≡ pos j)
above_zero (pos j) h = (j, refl)
above_zero (negsuc j) h = absurd (omega (arith, ints, h))

mid_tuple : (p r s k : ℕ) (o : ℤ) (u : Tuple) → tuple_cmp (At p r s o) u ≡ Less → tuple_cmp u (At p r s (o +ℤ pos k)) ≡ Less → (j : ℕ) × (j ≤ k) × (At p r s (o +ℤ pos j) ≡ u)
unfolding tuple_cmp spot_cmp
mid_tuple p r s k o Low h g = absurd (cc)
mid_tuple p r s k o High h g = absurd (cc)
mid_tuple p r s k o (At a b c d) h g =
    let on = int_cmp o d in
    let back = int_cmp d (o +ℤ pos k) in
    let e = squeeze nat_cmp nat_cmp_total p a (ordering_then (nat_cmp r b) (ordering_then (nat_cmp s c) on)) (ordering_then (nat_cmp b r) (ordering_then (nat_cmp c s) back)) h g in
    let f = squeeze nat_cmp nat_cmp_total r b (ordering_then (nat_cmp s c) on) (ordering_then (nat_cmp c s) back) e.1 e.2 in
    let t = squeeze nat_cmp nat_cmp_total s c on back f.1 f.2 in
    let low = int_lower o d t.1 in
    let high = int_lower d (o +ℤ pos k) t.2 in
    let w = above_zero (d -ℤ o) (omega (arith, ints, low)) in
    let is = w.1 in
    let there : o +ℤ pos w.0 ≡ d = omega (arith, ints, is) in
    let p' = nat_same p a e.0 in
    let r' = nat_same r b f.0 in
    let s' = nat_same s c t.0 in
    (w.0, omega (arith, ints, is, high), cc)

mid_ident : (x z : List Tuple) (k : ℕ) → IsIdent x → length x ≡ length z → ident_cmp x z ≡ Less → ident_cmp z (shifted (pos k) x) ≡ Less → (j : ℕ) × (j ≤ k) × (shifted (pos j) x ≡ z)
mid_ident [] z k i n h g = absurd (cc)
mid_ident (Low ∷ []) z k i n h g = absurd (cc)
mid_ident (High ∷ []) z k i n h g = absurd (cc)
mid_ident (At p r s o ∷ []) [] k i n h g = absurd (omega (arith, n))
mid_ident (At p r s o ∷ []) (u ∷ (v ∷ z)) k i n h g = absurd (omega (arith, n))
mid_ident (At p r s o ∷ []) (u ∷ []) k i n h g =
    let a = less_alone (tuple_cmp (At p r s o) u) h in
    let b = less_alone (tuple_cmp u (At p r s (o +ℤ pos k))) g in
    let m = mid_tuple p r s k o u a b in
    (m.0, m.1, ap (λ t. t ∷ []) m.2)
  where
    less_alone : (c : Ordering) → ordering_then c Equal ≡ Less → c ≡ Less
    less_alone Less e = refl
    less_alone Equal e = absurd (cc)
    less_alone Greater e = absurd (cc)
mid_ident (t ∷ (t' ∷ x)) [] k i n h g = absurd (omega (arith, n))
mid_ident (t ∷ (t' ∷ x)) (u ∷ z) k i n h g =
    let w = t' ∷ x in
    let e = squeeze tuple_cmp tuples.total t u (ident_cmp w z) (ident_cmp z (shifted (pos k) w)) h g in
    let same = tuple_same t u e.0 in
    let m = mid_ident w z k i (omega (arith, n)) e.1 e.2 in
    (m.0, m.1, ap (λ v. v ∷ shifted (pos m.0) w) same ∙ ap (λ y. u ∷ y) m.2)

-- ---- between two of a run

pub shifted_length : (k : ℤ) (x : List Tuple) → length (shifted k x) ≡ length x
shifted_length k [] = refl
shifted_length k (t ∷ []) = refl
shifted_length k (t ∷ (u ∷ x)) = ap suc (shifted_length k (u ∷ x))

-- a number at most another, if the comparison that begins with them isn't greater
not_longer : (m n : ℕ) (o : Ordering) → is_gt (ordering_then (nat_cmp m n) o) ≡ false → m ≤ n
not_longer m n o h = go (nat_cmp m n) (ranked m n (nat_cmp m n) refl) h
  where
    go : (c : Ordering) → MatchOrdering c (m < n) (m ≡ n) (n < m) → is_gt (ordering_then c o) ≡ false → m ≤ n
    go Less r e = omega (arith, r)
    go Equal r e = omega (arith, r)
    go Greater r e = absurd (cc)

up_to : (x z : List Tuple) → length x ≡ length z → is_gt (long_cmp x z) ≡ false → is_gt (ident_cmp x z) ≡ false
up_to x z n h =
    let e : nat_cmp (length x) (length z) ≡ Equal = ap (nat_cmp (length x)) (sym n) ∙ tied_itself nat_cmp_total (length x) in
    sym (ap (λ c. is_gt (ordering_then c (ident_cmp x z))) e) ∙ h

between_long : (x z : List Tuple) (k : ℕ) → IsIdent x → is_gt (long_cmp x z) ≡ false → is_gt (long_cmp z (shifted (pos k) x)) ≡ false → (j : ℕ) × (j ≤ k) × (shifted (pos j) x ≡ z)
between_long x z k i h g =
    let y = shifted (pos k) x in
    let long = shifted_length (pos k) x in
    let a = not_longer (length x) (length z) (ident_cmp x z) h in
    let b = not_longer (length z) (length y) (ident_cmp z y) g in
    let n : length x ≡ length z = omega (arith, a, b, long) in
    let m : length z ≡ length y = omega (arith, a, b, long) in
    go (ident_cmp x z) (ident_cmp z y) refl refl n (up_to x z n h) (up_to z y m g)
  where
    go : (c d : Ordering) → ident_cmp x z ≡ c → ident_cmp z (shifted (pos k) x) ≡ d → length x ≡ length z → is_gt (ident_cmp x z) ≡ false → is_gt (ident_cmp z (shifted (pos k) x)) ≡ false → (j : ℕ) × (j ≤ k) × (shifted (pos j) x ≡ z)
    go Greater d p q n e f = absurd (let w = ap is_gt p in cc)
    go Equal d p q n e f = (0, omega arith, shifted_none x ∙ eq_same x z (ap is_eq p))
    go Less Greater p q n e f = absurd (let w = ap is_gt q in cc)
    go Less Equal p q n e f = (k, omega arith, sym (eq_same z (shifted (pos k) x) (ap is_eq q)))
    go Less Less p q n e f = mid_ident x z k i n p q

-- ---- and with the seq

shifted_seq : (k : ℤ) (x : List Tuple) → seq_of (last_of (shifted k x)) ≡ seq_of (last_of x)
shifted_seq k x = ap seq_of (last_shifted k x) ∙ go (last_of x)
  where
    go : (t : Tuple) → seq_of (raised k t) ≡ seq_of t
    go Low = refl
    go (At p r s o) = refl
    go High = refl

of_one_seq : (x z : List Tuple) → seq_of (last_of x) ≡ seq_of (last_of z) → wide_cmp x z ≡ long_cmp x z
of_one_seq x z n =
    let e : nat_cmp (seq_of (last_of x)) (seq_of (last_of z)) ≡ Equal = ap (nat_cmp (seq_of (last_of x))) (sym n) ∙ tied_itself nat_cmp_total (seq_of (last_of x)) in
    ap (λ c. ordering_then c (long_cmp x z)) e

pub between : (x z : List Tuple) (k : ℕ) → IsIdent x → is_gt (wide_cmp x z) ≡ false → is_gt (wide_cmp z (shifted (pos k) x)) ≡ false → (j : ℕ) × (j ≤ k) × (shifted (pos j) x ≡ z)
between x z k i h g =
    let y = shifted (pos k) x in
    let same = shifted_seq (pos k) x in
    let a = not_longer (seq_of (last_of x)) (seq_of (last_of z)) (long_cmp x z) h in
    let b = not_longer (seq_of (last_of z)) (seq_of (last_of y)) (long_cmp z y) g in
    let n : seq_of (last_of x) ≡ seq_of (last_of z) = omega (arith, a, b, same) in
    let m : seq_of (last_of z) ≡ seq_of (last_of y) = omega (arith, a, b, same) in
    between_long x z k i (sym (ap is_gt (of_one_seq x z n)) ∙ h) (sym (ap is_gt (of_one_seq z y m)) ∙ g)

on_up_long : (x : List Tuple) (k : ℕ) → IsIdent x → is_gt (long_cmp x (shifted (pos k) x)) ≡ false
on_up_long x k i =
    let y = shifted (pos k) x in
    let n : nat_cmp (length x) (length y) ≡ Equal = ap (nat_cmp (length x)) (shifted_length (pos k) x) ∙ tied_itself nat_cmp_total (length x) in
    ap (λ c. is_gt (ordering_then c (ident_cmp x y))) n ∙ go k
  where
    go : (m : ℕ) → is_gt (ident_cmp x (shifted (pos m) x)) ≡ false
    go zero = ap (λ z. is_gt (ident_cmp x z)) (shifted_none x) ∙ ap is_gt (tied_itself ident_total x)
    go (suc m) =
        let l = (shifted_less (pos 0) (pos (suc m)) x i (omega (arith, ints))).less in
        sym (ap (λ z. is_gt (ident_cmp z (shifted (pos (suc m)) x))) (shifted_none x)) ∙ ap is_gt l

-- what comes later in a run isn't less
pub on_up : (x : List Tuple) (k : ℕ) → IsIdent x → is_gt (wide_cmp x (shifted (pos k) x)) ≡ false
on_up x k i =
    let y = shifted (pos k) x in
    ap is_gt (of_one_seq x y (sym (shifted_seq (pos k) x))) ∙ on_up_long x k i
