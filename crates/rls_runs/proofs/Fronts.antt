-- What identifiers begin with, and what that says of their order.
use Rattle.std.proofs.Common.{◌≡◌, ℕ, zero, suc, ◌+◌, ◌<◌, ◌≤◌, min, Bool, true, false, cond, List, [], ◌∷◌, ◌++◌, length, take, get_or, slice_get, Some, refl, sym, ap, ◌∙◌, subst, ⊎_elim, arith, add-one}
use Rattle.std.specs.Ordering.{ordering_then, is_eq}
use Rattle.std.specs.Prelude.{if◌then◌else◌}
use Rattle.std.specs.declared.cmp.Ordering.TheVariants.{Equal}
use Rattle.std.proofs.lemmas.Bool.{cases_lt}
use Rattle.std.proofs.lemmas.Cmp.{tied_itself}
use Rattle.std.proofs.lemmas.List.{take-take, take-append-le}
use Rattle.std.proofs.Math.Seq.{take-suc}
use Rattle.rls_ident.specs.declared.tuple.Tuple.{Tuple}
use Rattle.rls_ident.specs.Tuples.{tuple_cmp, tuple_eq}
use Rattle.rls_ident.specs.Identifiers.{ident_cmp, ident_lt}
use Rattle.rls_ident.proofs.Lists.{Lt, lt_irrefl, lt_trans, lt_nil, tri, then_less}
use Rattle.rls_ident.proofs.Members.{not_true, equal_is, some_is}
use Rattle.rls_ident.proofs.Tuples.{tuples, tuple_total, lt_of, of_lt}
use Rattle.rls_runs.specs.Runs.{run_idents}
use Rattle.rls_runs.specs.Places.{find_ident}
use Rattle.rls_runs.specs.Fronts.{front_of, shared, AboveFront, BelowFront}
use Rattle.rls_runs.proofs.Finding.{Left, some_left, find_behind}
use Rattle.rls_runs.proofs.RunOrder.{AllLess, AllMore, Rising, more_right}

-- ---- how many first tuples are shared

pub front_of_pushed : (f : List Tuple) (l : Tuple) → front_of (f ++ l ∷ []) ≡ f
front_of_pushed [] l = refl
front_of_pushed (t ∷ []) l = refl
front_of_pushed (t ∷ (u ∷ f)) l = ap (λ xs. t ∷ xs) (front_of_pushed (u ∷ f) l)

pub front_is : (x f : List Tuple) (l : Tuple) → x ≡ f ++ l ∷ [] → front_of x ≡ f
front_is x f l e = ap front_of e ∙ front_of_pushed f l

same_of : (t u : Tuple) → tuple_eq t u ≡ true → t ≡ u
same_of t u e = tuples.same t u (equal_is (tuple_cmp t u) e)

pub shared_most : (xs ys : List Tuple) → (shared xs ys ≤ length xs) × (shared xs ys ≤ length ys)
shared_most [] ys = (omega arith, omega arith)
shared_most (t ∷ xs) [] = (omega arith, omega arith)
shared_most (t ∷ xs) (u ∷ ys) = go (tuple_eq t u) (shared_most xs ys)
  where
    go : (b : Bool) → (shared xs ys ≤ length xs) × (shared xs ys ≤ length ys) → ((if b then suc (shared xs ys) else 0) ≤ suc (length xs)) × ((if b then suc (shared xs ys) else 0) ≤ suc (length ys))
    go true h = (omega (arith, h.0), omega (arith, h.1))
    go false h = (omega arith, omega arith)

pub shared_same : (xs ys : List Tuple) → take (shared xs ys) xs ≡ take (shared xs ys) ys
shared_same [] ys = refl
shared_same (t ∷ xs) [] = refl
shared_same (t ∷ xs) (u ∷ ys) = go (tuple_eq t u) refl (shared_same xs ys)
  where
    go : (b : Bool) → tuple_eq t u ≡ b → take (shared xs ys) xs ≡ take (shared xs ys) ys → take (if b then suc (shared xs ys) else 0) (t ∷ xs) ≡ take (if b then suc (shared xs ys) else 0) (u ∷ ys)
    go true e h = ap (λ v. v ∷ take (shared xs ys) xs) (same_of t u e) ∙ ap (λ zs. u ∷ zs) h
    go false e h = refl

-- what comes after what is shared differs
pub shared_differs : (xs ys : List Tuple) (d : Tuple) → shared xs ys < length xs → shared xs ys < length ys → tuple_eq (get_or xs (shared xs ys) d) (get_or ys (shared xs ys) d) ≡ false
shared_differs [] ys d h k = absurd (omega arith)
shared_differs (t ∷ xs) [] d h k = absurd (omega arith)
shared_differs (t ∷ xs) (u ∷ ys) d h k = go (tuple_eq t u) refl (shared_differs xs ys d) h k
  where
    go : (b : Bool) → tuple_eq t u ≡ b → (shared xs ys < length xs → shared xs ys < length ys → tuple_eq (get_or xs (shared xs ys) d) (get_or ys (shared xs ys) d) ≡ false)
        → (if b then suc (shared xs ys) else 0) < suc (length xs) → (if b then suc (shared xs ys) else 0) < suc (length ys)
        → tuple_eq (get_or (t ∷ xs) (if b then suc (shared xs ys) else 0) d) (get_or (u ∷ ys) (if b then suc (shared xs ys) else 0) d) ≡ false
    go true e r h k = r (omega arith) (omega arith)
    go false e r h k = e

-- the first tuples of two lists that begin alike
heads : (t u : Tuple) (xs ys : List Tuple) → t ∷ xs ≡ u ∷ ys → tuple_eq t u ≡ true
heads t u xs ys e = let f : t ≡ u = cc in ap (tuple_eq t) (sym f) ∙ ap is_eq (tied_itself tuple_total t)

pub shared_here : (i : ℕ) (xs ys : List Tuple) (d : Tuple) → take i xs ≡ take i ys → i < length xs → i < length ys → tuple_eq (get_or xs i d) (get_or ys i d) ≡ false → shared xs ys ≡ i
shared_here i [] ys d s h k e = absurd (omega arith)
shared_here i (t ∷ xs) [] d s h k e = absurd (omega arith)
shared_here zero (t ∷ xs) (u ∷ ys) d s h k e = ap (λ b. cond b (suc (shared xs ys)) 0) e
shared_here (suc i) (t ∷ xs) (u ∷ ys) d s h k e =
    let same = heads t u (take i xs) (take i ys) s in
    ap (λ b. cond b (suc (shared xs ys)) 0) same ∙ ap suc (shared_here i xs ys d (cc) (omega arith) (omega arith) e)

pub shared_all : (i : ℕ) (xs ys : List Tuple) → take i xs ≡ take i ys → i ≡ min (length xs) (length ys) → shared xs ys ≡ i
shared_all i [] ys s h = omega arith
shared_all i (t ∷ xs) [] s h = omega arith
shared_all zero (t ∷ xs) (u ∷ ys) s h = absurd (omega arith)
shared_all (suc i) (t ∷ xs) (u ∷ ys) s h =
    let same = heads t u (take i xs) (take i ys) s in
    ap (λ b. cond b (suc (shared xs ys)) 0) same ∙ ap suc (shared_all i xs ys (cc) (omega arith))

-- identifiers that begin alike have fronts that do
pub fronts_same : (n m : ℕ) (x y f g : List Tuple) (l k : Tuple) → x ≡ f ++ l ∷ [] → y ≡ g ++ k ∷ [] → take n x ≡ take n y → m ≤ n → m ≤ length f → m ≤ length g → take m f ≡ take m g
fronts_same n m x y f g l k e d s h a b =
    sym (take-append-le m f (l ∷ []) a)
    ∙ ap (take m) (sym e)
    ∙ sym (take-take m n x h)
    ∙ ap (take m) s
    ∙ take-take m n y h
    ∙ ap (take m) d
    ∙ take-append-le m g (k ∷ []) b

-- one more is shared
pub one_more : (i : ℕ) (xs ys : List Tuple) (d : Tuple) → take i xs ≡ take i ys → i < length xs → i < length ys → tuple_eq (get_or xs i d) (get_or ys i d) ≡ true → take (i + 1) xs ≡ take (i + 1) ys
one_more i xs ys d s h k e =
    let a = take-suc xs i d h in
    let b = take-suc ys i d k in
    let t = same_of (get_or xs i d) (get_or ys i d) e in
    rw (add-one, a, b, s, t) refl

-- so many first tuples are of the front
pub front_take : (n : ℕ) (x : List Tuple) → n ≤ length (front_of x) → take n x ≡ take n (front_of x)
front_take zero x h = refl
front_take (suc n) [] h = refl
front_take (suc n) (t ∷ []) h = absurd (omega arith)
front_take (suc n) (t ∷ (u ∷ x)) h = ap (λ xs. t ∷ xs) (front_take n (u ∷ x) (omega arith))

-- two identifiers begin with what their fronts share
pub shared_begins : (x y : List Tuple) → take (shared (front_of x) (front_of y)) x ≡ take (shared (front_of x) (front_of y)) y
shared_begins x y =
    let most = shared_most (front_of x) (front_of y) in
    front_take (shared (front_of x) (front_of y)) x most.0 ∙ shared_same (front_of x) (front_of y) ∙ sym (front_take (shared (front_of x) (front_of y)) y most.1)

-- ---- a search goes on behind what is shared

pub left_shared : (i : ℕ) (front : List Tuple) (last : Tuple) (n : ℕ) (x : List Tuple) → i ≤ length front → take i front ≡ take i x → Left front last n x i ≡ find_ident (run_idents (front ++ last ∷ []) n) x
left_shared zero front last n x h e = refl
left_shared (suc i) [] last n x h e = absurd (omega arith)
left_shared (suc i) (t ∷ front) last n [] h e = absurd (cc)
left_shared (suc i) (t ∷ front) last n (u ∷ x) h e =
    let s = some_left front last in
    let same : t ≡ u = cc in
    left_shared i front last n x (omega arith) (cc)
    ∙ ap (λ xs. find_ident (run_idents xs n) x) s.2
    ∙ sym (find_behind t s.0 s.1 x n)
    ∙ ap (λ xs. find_ident (run_idents (t ∷ xs) n) (t ∷ x)) (sym s.2)
    ∙ ap (λ v. find_ident (run_idents (t ∷ (front ++ last ∷ [])) n) (v ∷ x)) same

-- behind what an identifier shares with a front
pub left_behind : (front : List Tuple) (last : Tuple) (n : ℕ) (x : List Tuple) (i : ℕ) → i ≡ shared front (front_of x) → Left front last n x i ≡ find_ident (run_idents (front ++ last ∷ []) n) x
left_behind front last n x i e =
    let s = shared front (front_of x) in
    let most = shared_most front (front_of x) in
    left_shared i front last n x (omega (arith, e, most.0)) (ap (λ k. take k front) e ∙ shared_same front (front_of x) ∙ sym (front_take s x most.1) ∙ ap (λ k. take k x) (sym e))

front_length : (x : List Tuple) → length x ≤ length (front_of x) + 1
front_length [] = omega arith
front_length (t ∷ []) = omega arith
front_length (t ∷ (u ∷ x)) = let h = front_length (u ∷ x) in omega (arith, h)

front_reads : (x : List Tuple) (i : ℕ) (t d : Tuple) → i < length (front_of x) → slice_get x i ≡ Some t → get_or (front_of x) i d ≡ t
front_reads [] i t d h g = absurd (omega arith)
front_reads (u ∷ []) i t d h g = absurd (omega arith)
front_reads (u ∷ (v ∷ x)) zero t d h g = some_is u t g
front_reads (u ∷ (v ∷ x)) (suc i) t d h g = front_reads (v ∷ x) i t d (omega arith) g

-- if the tuple behind what is shared is equal, it is the last one
pub last_equal : (front x : List Tuple) (i : ℕ) (t d : Tuple) → i ≡ shared front (front_of x) → i < length front → slice_get x i ≡ Some t → tuple_cmp t (get_or front i d) ≡ Equal → length x ≤ i + 1
last_equal front x i t d e h g c = ⊎_elim (λ l. absurd (differs l)) (λ l. let m = front_length x in omega (arith, l, m)) (cases_lt i (length (front_of x)))
  where
    differs : i < length (front_of x) → ⊥
    differs l =
        let s = shared front (front_of x) in
        let a = shared_differs front (front_of x) d (omega (arith, e, h)) (omega (arith, e, l)) in
        let b : get_or front s d ≡ t = ap (λ k. get_or front k d) (sym e) ∙ sym (tuples.same t (get_or front i d) c) in
        let f : get_or (front_of x) s d ≡ t = ap (λ k. get_or (front_of x) k d) (sym e) ∙ front_reads x i t d l g in
        let q = ap is_eq (tied_itself tuple_total t) in
        let w : tuple_eq t t ≡ false = sym (ap (λ v. tuple_eq v (get_or (front_of x) s d)) b ∙ ap (tuple_eq t) f) ∙ a in
        cc

-- ---- the order of first tuples

-- what is less by its first tuples is less
less_by_front : (n : ℕ) (x y : List Tuple) → Lt tuples (take n x) (take n y) → Lt tuples x y
less_by_front zero x y h = absurd (lt_irrefl h)
less_by_front (suc n) [] [] h = h
less_by_front (suc n) [] (u ∷ y) h = record { less = refl }
less_by_front (suc n) (t ∷ x) [] h = absurd (lt_nil h)
less_by_front (suc n) (t ∷ x) (u ∷ y) h =
    ⊎_elim (λ l. record { less = ap (λ o. ordering_then o (ident_cmp x y)) l })
    (λ e. let r = less_by_front n x y (record { less = e.1 }) in record { less = ap (λ o. ordering_then o (ident_cmp x y)) e.0 ∙ r.less })
    (then_less (tuple_cmp t u) (ident_cmp (take n x) (take n y)) h.less)

-- more first tuples are less, too
less_by_more : (m n : ℕ) (x y : List Tuple) → m ≤ n → Lt tuples (take m x) (take m y) → Lt tuples (take n x) (take n y)
less_by_more m n x y h l =
    less_by_front m (take n x) (take n y) (subst (λ v. Lt tuples v (take m (take n y))) (sym (take-take m n x h)) (subst (λ v. Lt tuples (take m x) v) (sym (take-take m n y h)) l))

-- what is neither less nor greater by its first tuples begins with them
begins_so : (low high m : ℕ) (x y : List Tuple) → m ≤ low → m ≤ high → ident_lt (take low y) (take low x) ≡ false → ident_lt (take high x) (take high y) ≡ false → take m y ≡ take m x
begins_so low high m x y h k a b =
    ⊎_elim (λ l. let e = of_lt (take low y) (take low x) (less_by_more m low y x h l) in absurd (cc))
    (λ r. ⊎_elim (λ e. e) (λ l. let e = of_lt (take high x) (take high y) (less_by_more m high x y k l) in absurd (cc)) r)
    (tri tuples (take m y) (take m x))

-- the one that stands among these
pub between_begins : (low high m : ℕ) (x : List Tuple) (xs : List (List Tuple)) (y : List Tuple) (ys : List (List Tuple)) → m ≤ low → m ≤ high → AboveFront low x (xs ++ y ∷ ys) → BelowFront high x (xs ++ y ∷ ys) → take m y ≡ take m x
between_begins low high m x [] y ys h k a b = begins_so low high m x y h k a.0 b.0
between_begins low high m x (z ∷ xs) y ys h k a b = between_begins low high m x xs y ys h k a.1 b.1

-- ---- parts of a list

pub above_left : (n : ℕ) (x : List Tuple) (xs ys : List (List Tuple)) → AboveFront n x (xs ++ ys) → AboveFront n x xs
above_left n x [] ys h = tt
above_left n x (z ∷ xs) ys h = (h.0, above_left n x xs ys h.1)

pub below_right : (n : ℕ) (x : List Tuple) (xs ys : List (List Tuple)) → BelowFront n x (xs ++ ys) → BelowFront n x ys
below_right n x [] ys h = h
below_right n x (z ∷ xs) ys h = below_right n x xs ys h.1

-- nothing is known of no first tuples
pub above_none : (x : List Tuple) (ys : List (List Tuple)) → AboveFront 0 x ys
above_none x [] = tt
above_none x (y ∷ ys) = (refl, above_none x ys)

pub below_none : (x : List Tuple) (ys : List (List Tuple)) → BelowFront 0 x ys
below_none x [] = tt
below_none x (y ∷ ys) = (refl, below_none x ys)

-- what is above one that begins so
above_one : (n : ℕ) (x z : List Tuple) (ys : List (List Tuple)) → take n z ≡ take n x → AllMore z ys → AboveFront n x ys
above_one n x z [] e h = tt
above_one n x z (y ∷ ys) e h =
    (not_true (ident_lt (take n y) (take n x)) (λ t. lt_irrefl (lt_trans h.0 (less_by_front n y z (subst (λ v. Lt tuples (take n y) v) (sym e) (lt_of (take n y) (take n x) t))))), above_one n x z ys e h.1)

-- what is below one that begins so
below_one : (n : ℕ) (x z : List Tuple) (ys : List (List Tuple)) → take n z ≡ take n x → AllLess ys z → BelowFront n x ys
below_one n x z [] e h = tt
below_one n x z (y ∷ ys) e h =
    (not_true (ident_lt (take n x) (take n y)) (λ t. lt_irrefl (lt_trans (less_by_front n z y (subst (λ v. Lt tuples v (take n y)) (sym e) (lt_of (take n x) (take n y) t))) h.0)), below_one n x z ys e h.1)

pub rising_before : (xs : List (List Tuple)) (z : List Tuple) (ys : List (List Tuple)) → Rising (xs ++ z ∷ ys) → AllLess xs z
rising_before [] z ys h = tt
rising_before (x ∷ xs) z ys h = ((more_right x xs (z ∷ ys) h.0).0, rising_before xs z ys h.1)

rising_behind : (xs : List (List Tuple)) (z : List Tuple) (ys : List (List Tuple)) → Rising (xs ++ z ∷ ys) → AllMore z ys
rising_behind [] z ys h = h.0
rising_behind (x ∷ xs) z ys h = rising_behind xs z ys h.1

-- what stands before it in a rising list, and what stands in the end
pub before_front : (n : ℕ) (x : List Tuple) (xs : List (List Tuple)) (z : List Tuple) (ys : List (List Tuple)) → take n z ≡ take n x → Rising (xs ++ z ∷ ys) → BelowFront n x xs
before_front n x xs z ys e h = below_one n x z xs e (rising_before xs z ys h)

pub behind_front : (n : ℕ) (x : List Tuple) (xs : List (List Tuple)) (z : List Tuple) (ys zs : List (List Tuple)) → take n z ≡ take n x → Rising (xs ++ z ∷ (ys ++ zs)) → AboveFront n x zs
behind_front n x xs z ys zs e h = above_one n x z zs e (more_right z ys zs (rising_behind xs z (ys ++ zs) h))
