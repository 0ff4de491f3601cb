-- The greatest number of each author, and what a vector leaves uncovered.
use Rattle.std.proofs.Common.{◌≡◌, ◌∙◌, ℕ, zero, suc, ◌+◌, ◌-◌, ◌<◌, ◌≤◌, min, Bool, true, false, not, List, [], ◌∷◌, ◌++◌, Some, length, take, drop, refl, sym, ap, arith}
use Rattle.std.specs.Prelude.{slice_get, slice_index, slice_set, if◌then◌else◌}
use Rattle.std.proofs.lemmas.List.{length-append, length-take, take-append-drop, take-take, take_all}
use Rattle.std.proofs.lemmas.List.Elements.{filter-append}
use Rattle.std.proofs.Math.Seq.{drop-nil}
use Rattle.rls_ident.proofs.Members.{bool_cases, not_le_is}
use Rattle.rls_ops.specs.declared.op.Op.{Op}
use Rattle.rls_ops.specs.Rows.{is_covered, missing_for}
use Rattle.rls_log.specs.declared.latest.Latest.{Latest}
use Rattle.rls_log.specs.Latest.{excess, AreAbove, Bounds}
use Rattle.rls_log.proofs.Steps.{taken_covered, taken_uncovered}

-- ---- sums

-- one step of the sum
pub excess_next : (ns v : List ℕ) (a : ℕ) → a < length ns → excess (drop a ns) (drop a v) ≡ (slice_index ns a - slice_index v a) + excess (drop (a + 1) ns) (drop (a + 1) v)
excess_next [] v a l = absurd (omega (arith, l))
excess_next (n ∷ ns) [] zero l = omega arith
excess_next (n ∷ ns) (c ∷ v) zero l = refl
excess_next (n ∷ ns) [] (suc a) l =
    let e : suc a + 1 ≡ suc (a + 1) = omega arith in
    let none : drop a [] ≡ [] = drop-nil {A = ℕ} a in
    let more : drop (a + 1) [] ≡ [] = drop-nil {A = ℕ} (a + 1) in
    rw e (ap (excess (drop a ns)) (sym none) ∙ excess_next ns [] a (omega (arith, l)) ∙ ap (λ w. (slice_index ns a - 0) + excess (drop (a + 1) ns) w) more)
excess_next (n ∷ ns) (c ∷ v) (suc a) l =
    let e : suc a + 1 ≡ suc (a + 1) = omega arith in
    rw e (excess_next ns v a (omega (arith, l)))

-- more numbers
pub excess_more : (ns more v : List ℕ) → excess ns v ≤ excess (ns ++ more) v
excess_more [] more v = omega arith
excess_more (n ∷ ns) more [] = omega (arith, excess_more ns more [])
excess_more (n ∷ ns) more (c ∷ v) = omega (arith, excess_more ns more v)

-- a greater number
pub excess_set : (ns v : List ℕ) (a n : ℕ) → a < length ns → slice_index ns a < n → excess ns v ≤ excess (slice_set ns a n) v
excess_set [] v a n l h = absurd (omega (arith, l))
excess_set (m ∷ ns) [] zero n l h = omega (arith, h)
excess_set (m ∷ ns) (c ∷ v) zero n l h = omega (arith, h)
excess_set (m ∷ ns) [] (suc a) n l h = omega (arith, excess_set ns [] a n (omega (arith, l)) h)
excess_set (m ∷ ns) (c ∷ v) (suc a) n l h = omega (arith, excess_set ns v a n (omega (arith, l)) h)

-- one that the counts are below
pub excess_raised : (ns v : List ℕ) (a n : ℕ) → a < length ns → slice_index ns a < n → slice_index v a < n → excess ns v < excess (slice_set ns a n) v
excess_raised [] v a n l h k = absurd (omega (arith, l))
excess_raised (m ∷ ns) [] zero n l h k = omega (arith, h)
excess_raised (m ∷ ns) (c ∷ v) zero n l h k = omega (arith, h, k)
excess_raised (m ∷ ns) [] (suc a) n l h k = omega (arith, excess_raised ns [] a n (omega (arith, l)) h k)
excess_raised (m ∷ ns) (c ∷ v) (suc a) n l h k = omega (arith, excess_raised ns v a n (omega (arith, l)) h k)

-- ---- fewer operations

cons_few : (v : List ℕ) (o : Op) (os : List Op) → length (missing_for v os) ≤ length (missing_for v (o ∷ os))
cons_few v o os = go (not (is_covered v o))
  where
    go : (b : Bool) → length (missing_for v os) ≤ length (if b then o ∷ missing_for v os else missing_for v os)
    go true = omega arith
    go false = omega arith

cons_both : (b : Bool) (o : Op) (ps qs : List Op) → length ps ≤ length qs → length (if b then o ∷ ps else ps) ≤ length (if b then o ∷ qs else qs)
cons_both true o ps qs l = omega (arith, l)
cons_both false o ps qs l = l

pub few_kept : (v w : List ℕ) (os : List Op) → length (missing_for v (missing_for w os)) ≤ length (missing_for v os)
few_kept v w [] = omega arith
few_kept v w (o ∷ os) = go (few_kept v w os) (not (is_covered w o))
  where
    go : length (missing_for v (missing_for w os)) ≤ length (missing_for v os) → (b : Bool) → length (missing_for v (if b then o ∷ missing_for w os else missing_for w os)) ≤ length (missing_for v (o ∷ os))
    go few true = cons_both (not (is_covered v o)) o (missing_for v (missing_for w os)) (missing_for v os) few
    go few false = omega (arith, few, cons_few v o os)

-- the first and the last
both : (v : List ℕ) (os ps : List Op) → length (missing_for v (os ++ ps)) ≡ length (missing_for v os) + length (missing_for v ps)
both v os ps = ap length (filter-append (λ o. not (is_covered v o)) os ps) ∙ length-append (missing_for v os) (missing_for v ps)

pub few_taken : (v : List ℕ) (os : List Op) (n : ℕ) → length (missing_for v (take n os)) ≤ length (missing_for v os)
few_taken v os n = omega (arith, both v (take n os) (drop n os), ap (λ ps. length (missing_for v ps)) (take-append-drop n os))

pub few_of : (v : List ℕ) (os : List Op) → length (missing_for v os) ≤ length os
few_of v [] = omega arith
few_of v (o ∷ os) = go (few_of v os) (not (is_covered v o))
  where
    go : length (missing_for v os) ≤ length os → (b : Bool) → length (if b then o ∷ missing_for v os else missing_for v os) ≤ length (o ∷ os)
    go few true = omega (arith, few)
    go few false = omega (arith, few)

-- none
pub none_left : (v : List ℕ) (os : List Op) → length (missing_for v os) ≤ 0 → missing_for v os ≡ []
none_left v os l = go (missing_for v os) l
  where
    go : (ps : List Op) → length ps ≤ 0 → ps ≡ []
    go [] l = refl
    go (p ∷ ps) l = absurd (omega (arith, l))

-- none of the first ones, and of still fewer
pub none_taken : (v : List ℕ) (os : List Op) (m n : ℕ) → m ≤ n → missing_for v (take n os) ≡ [] → missing_for v (take m os) ≡ []
none_taken v os m n l e =
    none_left v (take m os) (omega (arith, ap (λ ps. length (missing_for v ps)) (take-take m n os l), few_taken v (take n os) m, ap length e))

-- all that are missing come after them
pub rest_missing : (v : List ℕ) (os : List Op) (n : ℕ) → missing_for v (take n os) ≡ [] → missing_for v (drop n os) ≡ missing_for v os
rest_missing v os n e = ap (λ (ps : List Op). ps ++ missing_for v (drop n os)) (sym e) ∙ sym (filter-append (λ o. not (is_covered v o)) (take n os) (drop n os)) ∙ ap (missing_for v) (take-append-drop n os)

-- ---- one more operation

alone_covered : (v : List ℕ) (o : Op) → is_covered v o ≡ true → length (missing_for v (o ∷ [])) ≡ 0
alone_covered v o e = ap (λ b. length (if not b then o ∷ [] else [])) e

alone_most : (v : List ℕ) (o : Op) → length (missing_for v (o ∷ [])) ≤ 1
alone_most v o = few_of v (o ∷ [])

pub one_noted : (ns : List ℕ) (os : List Op) (o : Op) (a n : ℕ) → a ≡ o.author → n ≡ o.seq → a < length ns → slice_index ns a < n → AreAbove ns os → AreAbove (slice_set ns a n) (os ++ o ∷ [])
one_noted ns os o a n author seq l h above v =
    bool_cases (is_covered v o)
    (λ e. omega (arith, both v os (o ∷ []), alone_covered v o e, above v, excess_set ns v a n l h))
    (λ e. omega (arith, both v os (o ∷ []), alone_most v o, above v, excess_raised ns v a n l h (omega (arith, not_le_is o.seq (slice_index v o.author) e, ap (slice_index v) author, seq))))

-- more room
pub reserved : (ns more zeros : List ℕ) (os : List Op) (n : ℕ) → more ≡ take n ns ++ zeros → length ns ≤ n → AreAbove ns os → AreAbove more os
reserved ns more zeros os n e l above v = omega (arith, ap (λ ms. excess ms v) (e ∙ ap (λ ms. ms ++ zeros) (take_all n ns l)), excess_more ns zeros v, above v)

-- ---- going back from the end

pub back_covered : (v : List ℕ) (os : List Op) (i left : ℕ) (o : Op) → 0 < i → slice_get os (i - 1) ≡ Some o → is_covered v o ≡ true → length (missing_for v (take i os)) ≤ left → length (missing_for v (take (i - 1) os)) ≤ left
back_covered v os i left o l h e few = omega (arith, few, few_back)
  where
    at : i - 1 + 1 ≡ i
    at = omega (arith, l)

    few_back : length (missing_for v (take (i - 1) os)) ≡ length (missing_for v (take i os))
    few_back = ap length (sym (taken_covered v os (i - 1) o h e)) ∙ ap (λ n. length (missing_for v (take n os))) at

pub back_uncovered : (v : List ℕ) (os : List Op) (i left : ℕ) (o : Op) → 0 < i → slice_get os (i - 1) ≡ Some o → is_covered v o ≡ false → length (missing_for v (take i os)) ≤ left → length (missing_for v (take (i - 1) os)) ≤ left - 1
back_uncovered v os i left o l h e few =
    omega (arith, few, ap length (taken_uncovered v os (i - 1) o h e), length-append (missing_for v (take (i - 1) os)) (o ∷ []), ap (λ n. length (missing_for v (take n os))) at)
  where
    at : i - 1 + 1 ≡ i
    at = omega (arith, l)

-- ---- what the greatest numbers of a log tell

pub bounds_kept : (latest : Latest) (w : List ℕ) (os ps : List Op) → ps ≡ missing_for w os → Bounds latest os → Bounds latest ps
bounds_kept latest w os ps e b rising v = omega (arith, ap (λ qs. length (missing_for v qs)) e, few_kept v w os, b rising v)

pub bounds_taken : (latest : Latest) (n : ℕ) (os ps : List Op) → ps ≡ take n os → Bounds latest os → Bounds latest ps
bounds_taken latest n os ps e b rising v = omega (arith, ap (λ qs. length (missing_for v qs)) e, few_taken v os n, b rising v)

pub bounds_same : (latest : Latest) (os ps : List Op) → ps ≡ os → Bounds latest os → Bounds latest ps
bounds_same latest os ps e b rising v = omega (arith, ap (λ qs. length (missing_for v qs)) e, b rising v)

-- as many as are left were found, or none is before the place
pub back_ends : (v : List ℕ) (os : List Op) (n start left : ℕ) → length (missing_for v (take start os)) ≤ left → min left start ≤ 0 → n ≤ start → missing_for v (take n os) ≡ []
back_ends v os n start left few end l = none_taken v os n start l (none_left v (take start os) (omega (arith, few, end, few_of v (take start os), length-take start os)))
