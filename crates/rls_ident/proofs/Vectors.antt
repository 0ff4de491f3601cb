-- Vectors: their lengths, their order, and their counts after a change.
use Rattle.std.proofs.Common.{◌≡◌, ℕ, zero, suc, min, max, ◌≤◌, ◌<◌, true, List, [], ◌∷◌, length, replicate, refl, sym, ap, ◌∙◌, arith, nat_le}
use Rattle.std.specs.Prelude.{slice_index, sum}
use Rattle.std.proofs.lemmas.List.Sums.{sum_by-cons}
use Rattle.rls_ident.specs.Vectors.{at_most, join, meet, raise}
use Rattle.rls_ident.proofs.Members.{and_left, and_right, and_true, le_is, le_test}

-- ---- lengths

pub length-raise : (v : List ℕ) (i : ℕ) → length (raise v i) ≡ length v
length-raise [] i = refl
length-raise (n ∷ ns) zero = refl
length-raise (n ∷ ns) (suc i) = ap suc (length-raise ns i)

pub length-join : (v w : List ℕ) → length v ≡ length w → length (join v w) ≡ length w
length-join [] [] h = refl
length-join [] (n ∷ ns) h = absurd (omega arith)
length-join (m ∷ ms) [] h = absurd (omega arith)
length-join (m ∷ ms) (n ∷ ns) h = ap suc (length-join ms ns (omega arith))

pub length-meet : (v w : List ℕ) → length v ≡ length w → length (meet v w) ≡ length w
length-meet [] [] h = refl
length-meet [] (n ∷ ns) h = absurd (omega arith)
length-meet (m ∷ ms) [] h = absurd (omega arith)
length-meet (m ∷ ms) (n ∷ ns) h = ap suc (length-meet ms ns (omega arith))

-- ---- order

pub at_most_refl : (v : List ℕ) → at_most v v ≡ true
at_most_refl [] = refl
at_most_refl (n ∷ ns) = and_true _ _ (le_test n n (omega arith)) (at_most_refl ns)

pub at_most_trans : (u v w : List ℕ) → at_most u v ≡ true → at_most v w ≡ true → at_most u w ≡ true
at_most_trans [] v w h k = refl
at_most_trans (l ∷ ls) [] w h k = absurd (cc)
at_most_trans (l ∷ ls) (m ∷ ms) [] h k = absurd (cc)
at_most_trans (l ∷ ls) (m ∷ ms) (n ∷ ns) h k =
    and_true _ _ (le_test l n (omega (arith, le_is l m (and_left _ _ h), le_is m n (and_left _ _ k)))) (at_most_trans ls ms ns (and_right _ _ h) (and_right _ _ k))

pub at_most_antisym : (v w : List ℕ) → at_most v w ≡ true → at_most w v ≡ true → v ≡ w
at_most_antisym [] [] h k = refl
at_most_antisym [] (n ∷ ns) h k = absurd (cc)
at_most_antisym (m ∷ ms) [] h k = absurd (cc)
at_most_antisym (m ∷ ms) (n ∷ ns) h k =
    let a = le_is m n (and_left (nat_le m n) (at_most ms ns) h) in
    let b = le_is n m (and_left (nat_le n m) (at_most ns ms) k) in
    let e : m ≡ n = omega arith in
    let f = at_most_antisym ms ns (and_right (nat_le m n) (at_most ms ns) h) (and_right (nat_le n m) (at_most ns ms) k) in
    ap (λ x. x ∷ ms) e ∙ ap (λ xs. n ∷ xs) f

pub zeros_below : (n : ℕ) (v : List ℕ) → length v ≡ n → at_most (replicate n 0) v ≡ true
zeros_below zero v h = refl
zeros_below (suc n) [] h = absurd (omega arith)
zeros_below (suc n) (m ∷ ms) h = and_true (nat_le 0 m) (at_most (replicate n 0) ms) (le_test 0 m (omega arith)) (zeros_below n ms (omega arith))

pub index_le : (v w : List ℕ) (i : ℕ) → at_most v w ≡ true → slice_index v i ≤ slice_index w i
index_le [] w i h = omega arith
index_le (m ∷ ms) [] i h = absurd (cc)
index_le (m ∷ ms) (n ∷ ns) zero h = le_is m n (and_left (nat_le m n) (at_most ms ns) h)
index_le (m ∷ ms) (n ∷ ns) (suc i) h = index_le ms ns i (and_right (nat_le m n) (at_most ms ns) h)

-- ---- the lesser and the greater counts

pub at_most-meet_left : (v w : List ℕ) → at_most (meet v w) v ≡ true
at_most-meet_left [] w = refl
at_most-meet_left (m ∷ ms) [] = refl
at_most-meet_left (m ∷ ms) (n ∷ ns) = and_true _ _ (le_test (min m n) m (omega arith)) (at_most-meet_left ms ns)

pub at_most-meet_right : (v w : List ℕ) → at_most (meet v w) w ≡ true
at_most-meet_right [] w = refl
at_most-meet_right (m ∷ ms) [] = refl
at_most-meet_right (m ∷ ms) (n ∷ ns) = and_true _ _ (le_test (min m n) n (omega arith)) (at_most-meet_right ms ns)

-- what is at most both is at most the meet
pub meet_greatest : (u v w : List ℕ) → at_most u v ≡ true → at_most u w ≡ true → at_most u (meet v w) ≡ true
meet_greatest [] v w h k = refl
meet_greatest (l ∷ ls) [] w h k = absurd (cc)
meet_greatest (l ∷ ls) (m ∷ ms) [] h k = absurd (cc)
meet_greatest (l ∷ ls) (m ∷ ms) (n ∷ ns) h k =
    and_true _ _ (le_test l (min m n) (omega (arith, le_is l m (and_left _ _ h), le_is l n (and_left _ _ k)))) (meet_greatest ls ms ns (and_right _ _ h) (and_right _ _ k))

-- a vector is at most its join with one that is no shorter
pub at_most-join : (v w : List ℕ) → length v ≤ length w → at_most v (join v w) ≡ true
at_most-join [] w h = refl
at_most-join (m ∷ ms) [] h = absurd (omega arith)
at_most-join (m ∷ ms) (n ∷ ns) h = and_true _ _ (le_test m (max m n) (omega arith)) (at_most-join ms ns (omega arith))

pub second_below : (v w : List ℕ) → length v ≡ length w → at_most w (join v w) ≡ true
second_below [] [] e = refl
second_below [] (y ∷ w) e = absurd (omega arith)
second_below (x ∷ v) [] e = absurd (omega arith)
second_below (x ∷ v) (y ∷ w) e = and_true (nat_le y (max x y)) (at_most w (join v w)) (le_test y (max x y) (omega arith)) (second_below v w (omega arith))

pub join_below : (u v w : List ℕ) → at_most u w ≡ true → at_most v w ≡ true → at_most (join u v) w ≡ true
join_below [] v w h k = refl
join_below (l ∷ ls) [] w h k = refl
join_below (l ∷ ls) (m ∷ ms) [] h k = absurd (cc)
join_below (l ∷ ls) (m ∷ ms) (n ∷ ns) h k =
    let a = le_is l n (and_left (nat_le l n) (at_most ls ns) h) in
    let b = le_is m n (and_left (nat_le m n) (at_most ms ns) k) in
    and_true (nat_le (max l m) n) (at_most (join ls ms) ns) (le_test (max l m) n (omega arith)) (join_below ls ms ns (and_right (nat_le l n) (at_most ls ns) h) (and_right (nat_le m n) (at_most ms ns) k))

pub max_high : (x y : ℕ) → x ≤ y → max x y ≡ y
max_high x y h = omega arith

max_low : (x y : ℕ) → y ≤ x → max x y ≡ x
max_low x y h = omega arith

pub join_high : (v w : List ℕ) → length v ≡ length w → at_most v w ≡ true → join v w ≡ w
join_high [] [] e h = refl
join_high [] (y ∷ w) e h = absurd (omega arith)
join_high (x ∷ v) [] e h = absurd (omega arith)
join_high (x ∷ v) (y ∷ w) e h =
    ap (λ m. m ∷ join v w) (max_high x y (le_is x y (and_left (nat_le x y) (at_most v w) h))) ∙ ap (λ u. y ∷ u) (join_high v w (omega arith) (and_right (nat_le x y) (at_most v w) h))

join_turned : (v w : List ℕ) → join v w ≡ join w v
join_turned [] [] = refl
join_turned [] (y ∷ w) = refl
join_turned (x ∷ v) [] = refl
join_turned (x ∷ v) (y ∷ w) = let e : max x y ≡ max y x = omega arith in ap (λ m. m ∷ join v w) e ∙ ap (λ u. max y x ∷ u) (join_turned v w)

pub join_low : (v w : List ℕ) → length v ≡ length w → at_most w v ≡ true → join v w ≡ v
join_low v w e h = join_turned v w ∙ join_high w v (sym e) h

pub index-join : (v w : List ℕ) (i : ℕ) → length v ≡ length w → slice_index (join v w) i ≡ max (slice_index v i) (slice_index w i)
index-join [] [] i e = refl
index-join [] (y ∷ w) i e = absurd (omega arith)
index-join (x ∷ v) [] i e = absurd (omega arith)
index-join (x ∷ v) (y ∷ w) zero e = refl
index-join (x ∷ v) (y ∷ w) (suc i) e = index-join v w i (omega arith)

-- what is joined with a vector and then met with it is that vector
pub meet-join : (s v : List ℕ) → length s ≡ length v → meet (join s v) v ≡ v
meet-join [] [] h = refl
meet-join [] (n ∷ ns) h = absurd (omega arith)
meet-join (m ∷ ms) [] h = absurd (omega arith)
meet-join (m ∷ ms) (n ∷ ns) h =
    let e : min (max m n) n ≡ n = omega arith in
    ap (λ k. k ∷ meet (join ms ns) ns) e ∙ ap (λ ks. n ∷ ks) (meet-join ms ns (omega arith))

-- ---- one count more

pub at_most-raise : (v : List ℕ) (i : ℕ) → at_most v (raise v i) ≡ true
at_most-raise [] i = refl
at_most-raise (n ∷ ns) zero = and_true _ _ (le_test n (suc n) (omega arith)) (at_most_refl ns)
at_most-raise (n ∷ ns) (suc i) = and_true _ _ (le_test n n (omega arith)) (at_most-raise ns i)

pub index-raise_same : (v : List ℕ) (i : ℕ) → i < length v → slice_index (raise v i) i ≡ suc (slice_index v i)
index-raise_same [] i h = absurd (omega arith)
index-raise_same (n ∷ ns) zero h = refl
index-raise_same (n ∷ ns) (suc i) h = index-raise_same ns i (omega arith)

pub index-raise_le : (v : List ℕ) (i j : ℕ) → slice_index v j ≤ slice_index (raise v i) j
index-raise_le [] i j = omega arith
index-raise_le (n ∷ ns) zero zero = omega arith
index-raise_le (n ∷ ns) zero (suc j) = omega arith
index-raise_le (n ∷ ns) (suc i) zero = omega arith
index-raise_le (n ∷ ns) (suc i) (suc j) = index-raise_le ns i j

pub raise_other : (v : List ℕ) (i j : ℕ) → (i ≡ j → ⊥) → slice_index (raise v i) j ≡ slice_index v j
raise_other [] i j h = refl
raise_other (n ∷ ns) zero zero h = absurd (h refl)
raise_other (n ∷ ns) zero (suc j) h = refl
raise_other (n ∷ ns) (suc i) zero h = refl
raise_other (n ∷ ns) (suc i) (suc j) h = raise_other ns i j (λ e. h (ap suc e))

pub raise_upto : (v : List ℕ) (i j : ℕ) → slice_index (raise v i) j ≤ suc (slice_index v j)
raise_upto [] i j = omega arith
raise_upto (n ∷ ns) zero zero = omega arith
raise_upto (n ∷ ns) zero (suc j) = omega arith
raise_upto (n ∷ ns) (suc i) zero = omega arith
raise_upto (n ∷ ns) (suc i) (suc j) = raise_upto ns i j

-- what is at most the raised vector, and at the raised place at most the old count
pub below_raised : (v w : List ℕ) (i : ℕ) → at_most v (raise w i) ≡ true → slice_index v i ≤ slice_index w i → at_most v w ≡ true
below_raised [] w i h k = refl
below_raised (m ∷ ms) [] i h k = absurd (cc)
below_raised (m ∷ ms) (n ∷ ns) zero h k = and_true (nat_le m n) (at_most ms ns) (le_test m n k) (and_right (nat_le m (suc n)) (at_most ms ns) h)
below_raised (m ∷ ms) (n ∷ ns) (suc i) h k = and_true (nat_le m n) (at_most ms ns) (and_left (nat_le m n) (at_most ms (raise ns i)) h) (below_raised ms ns i (and_right (nat_le m n) (at_most ms (raise ns i)) h) k)

pub raise_below : (v w : List ℕ) (a : ℕ) → length v ≡ length w → slice_index w a < slice_index v a → join v (raise w a) ≡ join v w
raise_below [] [] a e h = refl
raise_below [] (y ∷ w) a e h = absurd (omega arith)
raise_below (x ∷ v) [] a e h = absurd (omega arith)
raise_below (x ∷ v) (y ∷ w) zero e h = ap (λ m. m ∷ join v w) (max_low x (suc y) (omega arith) ∙ sym (max_low x y (omega arith)))
raise_below (x ∷ v) (y ∷ w) (suc a) e h = ap (λ u. max x y ∷ u) (raise_below v w a (omega arith) h)

pub raise_above : (v w : List ℕ) (a : ℕ) → length v ≡ length w → slice_index v a ≤ slice_index w a → join v (raise w a) ≡ raise (join v w) a
raise_above [] [] a e h = refl
raise_above [] (y ∷ w) a e h = absurd (omega arith)
raise_above (x ∷ v) [] a e h = absurd (omega arith)
raise_above (x ∷ v) (y ∷ w) zero e h = ap (λ m. m ∷ join v w) (max_high x (suc y) (omega arith) ∙ ap suc (sym (max_high x y h)))
raise_above (x ∷ v) (y ∷ w) (suc a) e h = ap (λ u. max x y ∷ u) (raise_above v w a (omega arith) h)

-- ---- counts

pub zeros_index : (n a : ℕ) → slice_index (replicate n 0) a ≡ 0
zeros_index zero a = refl
zeros_index (suc n) zero = refl
zeros_index (suc n) (suc a) = zeros_index n a

pub sum-raise : (v : List ℕ) (a : ℕ) → a < length v → sum (raise v a) ≡ suc (sum v)
sum-raise [] a l = absurd (omega arith)
sum-raise (x ∷ v) zero l = omega (arith, sum_by-cons (λ n. n) (suc x) v, sum_by-cons (λ n. n) x v)
sum-raise (x ∷ v) (suc a) l = let h = sum-raise v a (omega arith) in omega (arith, sum_by-cons (λ n. n) x (raise v a), sum_by-cons (λ n. n) x v)

pub sum-raise_le : (v : List ℕ) (a : ℕ) → sum v ≤ sum (raise v a)
sum-raise_le [] a = omega arith
sum-raise_le (x ∷ v) zero = omega (arith, sum_by-cons (λ n. n) (suc x) v, sum_by-cons (λ n. n) x v)
sum-raise_le (x ∷ v) (suc a) = let h = sum-raise_le v a in omega (arith, sum_by-cons (λ n. n) x (raise v a), sum_by-cons (λ n. n) x v)
