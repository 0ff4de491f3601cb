-- Lists of waiting operations: what they hold, and their order.
use Rattle.std.proofs.Common.{◌≡◌, ℕ, suc, ◌≤◌, ◌<◌, Bool, true, false, List, [], ◌∷◌, length, refl, sym, ap, ◌∙◌, arith, inl, inr, ◌⊎◌, ⊎_elim, nat_lt}
use Rattle.std.specs.Prelude.{if◌then◌else◌, cond, ◌&&◌, ◌==◌}
use Rattle.std.specs.List.{list_all}
use Rattle.std.proofs.lemmas.Bool.Decides.{nat_tests}
use Rattle.rls_ident.specs.Lists.{IsIn}
use Rattle.rls_ident.proofs.Members.{all_in, in_all, not_true, and_left, and_right, and_true, eq_is, eq_test, lt_is, or_split, true_false}
use Rattle.rls_ops.specs.declared.op.Op.{Op}
use Rattle.rls_ops.specs.Waiting.{is_numbered, comes_before, with_waiting, without, is_in_order}

pub numbered_is : (a s : ℕ) (x : Op) → is_numbered a s x ≡ true → (x.author ≡ a) × (x.seq ≡ s)
numbered_is a s x h = (eq_is x.author a (and_left (x.author == a) (x.seq == s) h), eq_is x.seq s (and_right (x.author == a) (x.seq == s) h))

pub numbered_test : (a s : ℕ) (x : Op) → x.author ≡ a → x.seq ≡ s → is_numbered a s x ≡ true
numbered_test a s x e f = and_true (x.author == a) (x.seq == s) (eq_test x.author a e) (eq_test x.seq s f)

-- ---- elements

pub in_without : (a s : ℕ) (x : Op) (W : List Op) → IsIn x (without a s W) → IsIn x W × (is_numbered a s x ≡ false)
in_without a s x [] p = absurd p
in_without a s x (w ∷ ws) p = go (is_numbered a s w) refl p (λ q. in_without a s x ws q)
  where
    go : (b : Bool) → is_numbered a s w ≡ b → IsIn x (if b then without a s ws else w ∷ without a s ws) → (IsIn x (without a s ws) → IsIn x ws × (is_numbered a s x ≡ false)) → IsIn x (w ∷ ws) × (is_numbered a s x ≡ false)
    go true e q ih = let r = ih q in (inr r.0, r.1)
    go false e (inl q) ih = (inl q, ap (is_numbered a s) (sym q) ∙ e)
    go false e (inr q) ih = let r = ih q in (inr r.0, r.1)

pub in_with : (o x : Op) (W : List Op) → IsIn x (with_waiting o W) → (o ≡ x) ⊎ IsIn x W
in_with o x [] p = p
in_with o x (w ∷ ws) p = go (comes_before w o) p (λ q. in_with o x ws q)
  where
    go : (b : Bool) → IsIn x (if b then w ∷ with_waiting o ws else o ∷ w ∷ ws) → (IsIn x (with_waiting o ws) → (o ≡ x) ⊎ IsIn x ws) → (o ≡ x) ⊎ IsIn x (w ∷ ws)
    go true (inl q) ih = inr (inl q)
    go true (inr q) ih = ⊎_elim (λ e. inl e) (λ r. inr (inr r)) (ih q)
    go false q ih = q

pub length-without : (a s : ℕ) (W : List Op) → length (without a s W) ≤ length W
length-without a s [] = omega arith
length-without a s (w ∷ ws) = go (is_numbered a s w) (length-without a s ws)
  where
    go : (b : Bool) → length (without a s ws) ≤ length ws → length (if b then without a s ws else w ∷ without a s ws) ≤ suc (length ws)
    go true h = omega arith
    go false h = omega arith

pub less_without : (a s : ℕ) (x : Op) (W : List Op) → IsIn x W → is_numbered a s x ≡ true → length (without a s W) < length W
less_without a s x [] p h = absurd p
less_without a s x (w ∷ ws) p h = go (is_numbered a s w) refl p (length-without a s ws) (λ q. less_without a s x ws q h)
  where
    go : (b : Bool) → is_numbered a s w ≡ b → IsIn x (w ∷ ws) → length (without a s ws) ≤ length ws → (IsIn x ws → length (without a s ws) < length ws) → length (if b then without a s ws else w ∷ without a s ws) < suc (length ws)
    go true e q k ih = omega arith
    go false e (inl q) k ih = absurd (true_false (is_numbered a s x) h (ap (is_numbered a s) (sym q) ∙ e))
    go false e (inr q) k ih = let m = ih q in omega arith

-- ---- the order

pub before_is : (o p : Op) → comes_before o p ≡ true → (o.author < p.author) ⊎ ((o.author ≡ p.author) × (o.seq < p.seq))
before_is o p h =
    ⊎_elim (λ e. inl (lt_is o.author p.author e))
    (λ e. inr (eq_is o.author p.author (and_left (o.author == p.author) (nat_lt o.seq p.seq) e), lt_is o.seq p.seq (and_right (o.author == p.author) (nat_lt o.seq p.seq) e)))
    (or_split (nat_lt o.author p.author) ((o.author == p.author) && nat_lt o.seq p.seq) h)

pub before_trans : (o p q : Op) → comes_before o p ≡ true → comes_before p q ≡ true → comes_before o q ≡ true
before_trans o p q h k = grind (arith, nat_tests)

pub before_total : (o p : Op) → comes_before p o ≡ false → is_numbered o.author o.seq p ≡ false → comes_before o p ≡ true
before_total o p h k = grind (arith, nat_tests)

-- what comes before an operation has another number
pub before_other : (o p : Op) → comes_before o p ≡ true → is_numbered p.author p.seq o ≡ false
before_other o p h = grind (arith, nat_tests)

-- ---- lists in order

-- what comes after an operation has another number
apart : (a s : ℕ) (w x : Op) → is_numbered a s w ≡ true → comes_before w x ≡ true → is_numbered a s x ≡ false
apart a s w x h k = not_true (is_numbered a s x) (λ e. go (numbered_is a s w h) (numbered_is a s x e) (before_is w x k))
  where
    go : (w.author ≡ a) × (w.seq ≡ s) → (x.author ≡ a) × (x.seq ≡ s) → (w.author < x.author) ⊎ ((w.author ≡ x.author) × (w.seq < x.seq)) → ⊥
    go p q (inl l) = let e = p.0 in let f = q.0 in absurd (omega arith)
    go p q (inr l) = let e = p.1 in let f = q.1 in let m = l.1 in absurd (omega arith)

-- nothing after an operation stands under its number
pub none_behind : (a s : ℕ) (w : Op) (W : List Op) → is_numbered a s w ≡ true → list_all (comes_before w) W ≡ true → without a s W ≡ W
none_behind a s w [] h k = refl
none_behind a s w (x ∷ xs) h k =
    ap (λ b. cond b (without a s xs) (x ∷ without a s xs)) (apart a s w x h (and_left (comes_before w x) (list_all (comes_before w) xs) k))
    ∙ ap (λ ws. x ∷ ws) (none_behind a s w xs h (and_right (comes_before w x) (list_all (comes_before w) xs) k))

pub without_in_order : (a s : ℕ) (W : List Op) → is_in_order W ≡ true → is_in_order (without a s W) ≡ true
without_in_order a s [] h = refl
without_in_order a s (w ∷ ws) h = go (is_numbered a s w) (without_in_order a s ws (and_right (list_all (comes_before w) ws) (is_in_order ws) h))
  where
    go : (b : Bool) → is_in_order (without a s ws) ≡ true → is_in_order (if b then without a s ws else w ∷ without a s ws) ≡ true
    go true k = k
    go false k =
        and_true (list_all (comes_before w) (without a s ws)) (is_in_order (without a s ws))
        (all_in (comes_before w) (without a s ws) (λ x p. in_all (comes_before w) x ws (and_left (list_all (comes_before w) ws) (is_in_order ws) h) (in_without a s x ws p).0)) k

pub with_in_order : (o : Op) (W : List Op) → is_in_order W ≡ true → ((x : Op) → IsIn x W → is_numbered o.author o.seq x ≡ false) → is_in_order (with_waiting o W) ≡ true
with_in_order o [] h f = refl
with_in_order o (w ∷ ws) h f = go (comes_before w o) refl (with_in_order o ws (and_right (list_all (comes_before w) ws) (is_in_order ws) h) (λ x p. f x (inr p)))
  where
    behind : list_all (comes_before w) ws ≡ true
    behind = and_left (list_all (comes_before w) ws) (is_in_order ws) h

    go : (b : Bool) → comes_before w o ≡ b → is_in_order (with_waiting o ws) ≡ true → is_in_order (if b then w ∷ with_waiting o ws else o ∷ w ∷ ws) ≡ true
    go true t k =
        and_true (list_all (comes_before w) (with_waiting o ws)) (is_in_order (with_waiting o ws))
        (all_in (comes_before w) (with_waiting o ws) (λ x p. ⊎_elim (λ q. ap (comes_before w) (sym q) ∙ t) (λ q. in_all (comes_before w) x ws behind q) (in_with o x ws p))) k
    go false t k =
        let b = before_total o w t (f w (inl refl)) in
        and_true (list_all (comes_before o) (w ∷ ws)) (is_in_order (w ∷ ws))
        (and_true (comes_before o w) (list_all (comes_before o) ws) b (all_in (comes_before o) ws (λ x p. before_trans o w x b (in_all (comes_before w) x ws behind p)))) h

-- what comes after an operation doesn't come before it
pub not_after : (o w : Op) → comes_before o w ≡ true → comes_before w o ≡ false
not_after o w h = not_true (comes_before w o) (λ k. go (before_is o w h) (before_is w o k))
  where
    go : (o.author < w.author) ⊎ ((o.author ≡ w.author) × (o.seq < w.seq)) → (w.author < o.author) ⊎ ((w.author ≡ o.author) × (w.seq < o.seq)) → ⊥
    go (inl l) (inl m) = absurd (omega arith)
    go (inl l) (inr m) = let e = m.0 in absurd (omega arith)
    go (inr l) (inl m) = let e = l.0 in absurd (omega arith)
    go (inr l) (inr m) = let e = l.1 in let f = m.1 in absurd (omega arith)
