-- The place of an identifier in a rising list, and identifiers put in there.
use Rattle.std.proofs.Common.{◌≡◌, ℕ, zero, suc, ◌<◌, Bool, true, false, cond, List, [], ◌∷◌, ◌++◌, take, drop, Some, Ok, Err, slice_get, refl, sym, ap, ◌∙◌, subst, ⊎_elim, arith}
use Rattle.std.proofs.lemmas.Bool.{or_parts}
use Rattle.std.proofs.lemmas.List.{take-append-drop}
use Rattle.rls_ident.specs.declared.tuple.Tuple.{Tuple}
use Rattle.rls_ident.specs.Identifiers.{ident_lt, ident_eq}
use Rattle.rls_ident.proofs.Ends.{eq_same, same_eq}
use Rattle.rls_ident.proofs.Lists.{Lt, lt_irrefl, lt_trans, tri}
use Rattle.rls_ident.proofs.Members.{some_is, bool_cases, not_true}
use Rattle.rls_ident.proofs.Tuples.{tuples}
use Rattle.rls_runs.specs.Entries.{has_ident}
use Rattle.rls_runs.specs.Places.{below_count, find_ident}
use Rattle.rls_runs.proofs.RunOrder.{AllLess, AllMore, Rising, lt_of, of_lt, more_trans, more_append, more_left, more_right, rising_left, rising_right}

pub lt_false : (x y : List Tuple) → Lt tuples y x → ident_lt x y ≡ false
lt_false x y h = bool_cases (ident_lt x y) (λ e. absurd (lt_irrefl (lt_trans (lt_of x y e) h))) (λ e. e)

same_false : (x : List Tuple) → ident_lt x x ≡ false
same_false x = bool_cases (ident_lt x x) (λ e. absurd (lt_irrefl (lt_of x x e))) (λ e. e)

pub differs : (x y : List Tuple) → Lt tuples x y → ident_eq x y ≡ false
differs x y h = not_true (ident_eq x y) (λ e. lt_irrefl (subst (λ z. Lt tuples x z) (sym (eq_same x y e)) h))

counted_less : (y : List Tuple) (ys : List (List Tuple)) (x : List Tuple) → Lt tuples y x → below_count (y ∷ ys) x ≡ suc (below_count ys x)
counted_less y ys x h = ap (λ b. cond b (suc (below_count ys x)) (below_count ys x)) (of_lt y x h)

counted_not : (y : List Tuple) (ys : List (List Tuple)) (x : List Tuple) → ident_lt y x ≡ false → below_count (y ∷ ys) x ≡ below_count ys x
counted_not y ys x h = ap (λ b. cond b (suc (below_count ys x)) (below_count ys x)) h

pub none_below : (ys : List (List Tuple)) (x : List Tuple) → AllMore x ys → below_count ys x ≡ 0
none_below [] x h = refl
none_below (y ∷ ys) x h = counted_not y ys x (lt_false y x h.0) ∙ none_below ys x h.1

-- what is not less than the first one is not less than any
first_stops : (y : List Tuple) (ys : List (List Tuple)) (x : List Tuple) → Rising (y ∷ ys) → ident_lt y x ≡ false → below_count (y ∷ ys) x ≡ 0
first_stops y ys x r e =
    counted_not y ys x e
    ∙ ⊎_elim (λ l. let k = of_lt y x l in absurd (cc)) (λ q. ⊎_elim (λ s. none_below ys x (subst (λ z. AllMore z ys) s r.0)) (λ m. none_below ys x (more_trans x y ys m r.0)) q) (tri tuples y x)

pub below_take : (xs : List (List Tuple)) (x : List Tuple) → Rising xs → AllLess (take (below_count xs x) xs) x
below_take [] x r = tt
below_take (y ∷ ys) x r = go (ident_lt y x) refl (below_take ys x r.1)
  where
    go : (b : Bool) → ident_lt y x ≡ b → AllLess (take (below_count ys x) ys) x → AllLess (take (below_count (y ∷ ys) x) (y ∷ ys)) x
    go true e ih = subst (λ n. AllLess (take n (y ∷ ys)) x) (sym (counted_less y ys x (lt_of y x e))) (lt_of y x e, ih)
    go false e ih = subst (λ n. AllLess (take n (y ∷ ys)) x) (sym (first_stops y ys x r e)) tt

pub more_drop : (xs : List (List Tuple)) (x : List Tuple) → Rising xs → has_ident xs x ≡ false → AllMore x (drop (below_count xs x) xs)
more_drop [] x r h = tt
more_drop (y ∷ ys) x r h = go (ident_lt y x) refl (λ k. more_drop ys x r.1 k)
  where
    go : (b : Bool) → ident_lt y x ≡ b → (has_ident ys x ≡ false → AllMore x (drop (below_count ys x) ys)) → AllMore x (drop (below_count (y ∷ ys) x) (y ∷ ys))
    go true e ih = subst (λ n. AllMore x (drop n (y ∷ ys))) (sym (counted_less y ys x (lt_of y x e))) (ih (or_parts (ident_eq y x) (has_ident ys x) h).1)
    go false e ih =
        let more : Lt tuples x y = ⊎_elim (λ l. let k = of_lt y x l in absurd (cc)) (λ q. ⊎_elim (λ s. let k = same_eq y x s in let m = (or_parts (ident_eq y x) (has_ident ys x) h).0 in absurd (cc)) (λ m. m) q) (tri tuples y x) in
        subst (λ n. AllMore x (drop n (y ∷ ys))) (sym (first_stops y ys x r e)) (more, more_trans x y ys more r.0)

-- the one at a place is less exactly where more are less than stand before it
pub less_at : (xs : List (List Tuple)) (k : ℕ) (y x : List Tuple) → Rising xs → slice_get xs k ≡ Some y → k < below_count xs x → Lt tuples y x
less_at [] k y x r g h = absurd (cc)
less_at (z ∷ xs) k y x r g h = go (ident_lt z x) refl k g h (λ j p q. less_at xs j y x r.1 p q)
  where
    go : (b : Bool) → ident_lt z x ≡ b → (k : ℕ) → slice_get (z ∷ xs) k ≡ Some y → k < below_count (z ∷ xs) x → ((j : ℕ) → slice_get xs j ≡ Some y → j < below_count xs x → Lt tuples y x) → Lt tuples y x
    go false e k p q ih = let n = first_stops z xs x r e in absurd (omega (arith, n, q))
    go true e zero p q ih = subst (λ w. Lt tuples w x) (some_is z y p) (lt_of z x e)
    go true e (suc j) p q ih = let n = counted_less z xs x (lt_of z x e) in ih j p (omega (arith, n, q))

above_at : (xs : List (List Tuple)) (k : ℕ) (z y : List Tuple) → AllMore z xs → slice_get xs k ≡ Some y → Lt tuples z y
above_at [] k z y a g = absurd (cc)
above_at (x ∷ xs) zero z y a g = subst (λ w. Lt tuples z w) (some_is x y g) a.0
above_at (x ∷ xs) (suc k) z y a g = above_at xs k z y a.1 g

pub at_less : (xs : List (List Tuple)) (k : ℕ) (y x : List Tuple) → Rising xs → slice_get xs k ≡ Some y → Lt tuples y x → k < below_count xs x
at_less [] k y x r g h = absurd (cc)
at_less (z ∷ xs) zero y x r g h = let n = counted_less z xs x (subst (λ w. Lt tuples w x) (sym (some_is z y g)) h) in omega (arith, n)
at_less (z ∷ xs) (suc k) y x r g h =
    let n = counted_less z xs x (lt_trans (above_at xs k z y r.0 g) h) in
    let m = at_less xs k y x r.1 g h in
    omega (arith, n, m)

-- what stands up to a place is less than what the one at the place is less than
pub less_up_to : (xs : List (List Tuple)) (k : ℕ) (y x : List Tuple) → Rising xs → slice_get xs k ≡ Some y → Lt tuples y x → AllLess (take (suc k) xs) x
less_up_to [] k y x r g h = absurd (cc)
less_up_to (z ∷ xs) zero y x r g h = (subst (λ w. Lt tuples w x) (sym (some_is z y g)) h, tt)
less_up_to (z ∷ xs) (suc k) y x r g h = (lt_trans (above_at xs k z y r.0 g) h, less_up_to xs k y x r.1 g h)

pub read_err : (xs : List (List Tuple)) (x : List Tuple) (i : ℕ) → find_ident xs x ≡ Err i → (has_ident xs x ≡ false) × (below_count xs x ≡ i)
read_err xs x i h = go (has_ident xs x) refl h
  where
    go : (b : Bool) → has_ident xs x ≡ b → cond b (Ok (below_count xs x)) (Err (below_count xs x)) ≡ Err i → (has_ident xs x ≡ false) × (below_count xs x ≡ i)
    go true e k = absurd (cc)
    go false e k = (e, cc)

pub read_ok : (xs : List (List Tuple)) (x : List Tuple) (i : ℕ) → find_ident xs x ≡ Ok i → (has_ident xs x ≡ true) × (below_count xs x ≡ i)
read_ok xs x i h = go (has_ident xs x) refl h
  where
    go : (b : Bool) → has_ident xs x ≡ b → cond b (Ok (below_count xs x)) (Err (below_count xs x)) ≡ Ok i → (has_ident xs x ≡ true) × (below_count xs x ≡ i)
    go true e k = (e, cc)
    go false e k = absurd (cc)

-- ---- three lists after one another

-- each of the first list is less than each of the second
abbrev pub AreBelow : List (List Tuple) → List (List Tuple) → Type 0
AreBelow [] ys = Unit {0}
AreBelow (x ∷ xs) ys = AllMore x ys × AreBelow xs ys

pub below_from : (xs : List (List Tuple)) (y : List Tuple) (ys : List (List Tuple)) → AllLess xs y → AllMore y ys → AreBelow xs (y ∷ ys)
below_from [] y ys h m = tt
below_from (x ∷ xs) y ys h m = ((h.0, more_trans x y ys h.0 m), below_from xs y ys h.1 m)

pub below_none : (xs : List (List Tuple)) → AreBelow xs []
below_none [] = tt
below_none (x ∷ xs) = (tt, below_none xs)

pub rising_both : (xs ys : List (List Tuple)) → Rising xs → Rising ys → AreBelow xs ys → Rising (xs ++ ys)
rising_both [] ys r s h = s
rising_both (x ∷ xs) ys r s h = (more_append x xs ys r.0 h.0, rising_both xs ys r.1 s h.1)

pub rising_below : (xs ys : List (List Tuple)) → Rising (xs ++ ys) → AreBelow xs ys
rising_below [] ys h = tt
rising_below (x ∷ xs) ys h = (more_right x xs ys h.0, rising_below xs ys h.1)

below_both : (xs ys zs : List (List Tuple)) → AreBelow xs ys → AreBelow xs zs → AreBelow xs (ys ++ zs)
below_both [] ys zs h k = tt
below_both (x ∷ xs) ys zs h k = (more_append x ys zs h.0 k.0, below_both xs ys zs h.1 k.1)

pub left_below : (xs ys zs : List (List Tuple)) → AreBelow xs (ys ++ zs) → AreBelow xs ys
left_below [] ys zs h = tt
left_below (x ∷ xs) ys zs h = (more_left x ys zs h.0, left_below xs ys zs h.1)

pub firsts_less : (xs : List (List Tuple)) (y : List Tuple) (ys : List (List Tuple)) → AreBelow xs (y ∷ ys) → AllLess xs y
firsts_less [] y ys h = tt
firsts_less (x ∷ xs) y ys h = (h.0.0, firsts_less xs y ys h.1)

pub rests_below : (xs : List (List Tuple)) (y : List Tuple) (ys : List (List Tuple)) → AreBelow xs (y ∷ ys) → AreBelow xs ys
rests_below [] y ys h = tt
rests_below (x ∷ xs) y ys h = (h.0.1, rests_below xs y ys h.1)

pub one_below : (xs : List (List Tuple)) (y : List Tuple) (ys : List (List Tuple)) → AreBelow xs ys → AllMore y ys → AreBelow (xs ++ y ∷ []) ys
one_below [] y ys h k = (k, tt)
one_below (x ∷ xs) y ys h k = (h.0, one_below xs y ys h.1 k)

pub rising_three : (xs ys zs : List (List Tuple)) → Rising (xs ++ zs) → Rising ys → AreBelow xs ys → AreBelow ys zs → Rising (xs ++ (ys ++ zs))
rising_three xs ys zs r s h k =
    rising_both xs (ys ++ zs) (rising_left xs zs r) (rising_both ys zs s (rising_right xs zs r) k) (below_both xs ys zs h (rising_below xs zs r))

-- ---- parts of a rising list

pub less_drop : (k : ℕ) (xs : List (List Tuple)) (y : List Tuple) → AllLess xs y → AllLess (drop k xs) y
less_drop zero xs y h = h
less_drop (suc k) [] y h = tt
less_drop (suc k) (x ∷ xs) y h = less_drop k xs y h.1

pub rising_drop : (k : ℕ) (xs : List (List Tuple)) → Rising xs → Rising (drop k xs)
rising_drop zero xs h = h
rising_drop (suc k) [] h = tt
rising_drop (suc k) (x ∷ xs) h = rising_drop k xs h.1

pub rising_take : (k : ℕ) (xs : List (List Tuple)) → Rising xs → Rising (take k xs)
rising_take k xs h = rising_left (take k xs) (drop k xs) (subst Rising (sym (take-append-drop k xs)) h)

-- each stands after as many as are less
pub at_same : (xs : List (List Tuple)) (k : ℕ) (y : List Tuple) → Rising xs → slice_get xs k ≡ Some y → below_count xs y ≡ k
at_same [] k y r g = absurd (cc)
at_same (z ∷ xs) zero y r g = first_stops z xs y r (subst (λ w. ident_lt z w ≡ false) (some_is z y g) (same_false z))
at_same (z ∷ xs) (suc k) y r g = counted_less z xs y (above_at xs k z y r.0 g) ∙ ap suc (at_same xs k y r.1 g)
