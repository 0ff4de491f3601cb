-- Entries that are added in the order of their identifiers.
use Rattle.std.proofs.Common.{◌≡◌, ℕ, zero, suc, ◌+◌, ◌<◌, ◌≤◌, Bool, true, false, List, [], ◌∷◌, ◌++◌, length, get_or, refl, sym, ap, subst, ◌∙◌, arith, inl, inr, ⊎_elim}
use Rattle.std.specs.Prelude.{if◌then◌else◌, zip}
use Rattle.std.specs.List.{Contains, sum_by}
use Rattle.std.specs.List.Sorted.{IsPermutation, IsSortedBy}
use Rattle.std.proofs.lemmas.List.Sums.{sum_by-cons, sum_by-append}
use Rattle.std.proofs.lemmas.List.Sorted.{IsPermutation-sym, Contains-permutation, sum_by-IsPermutation}
use Rattle.std.proofs.lemmas.Slice.Zip.{firsts-zip}
use Rattle.rls_ident.specs.declared.tuple.Tuple.{Tuple}
use Rattle.rls_ident.specs.Lists.{IsIn}
use Rattle.rls_ident.specs.Identifiers.{ident_eq, ident_lt}
use Rattle.rls_ident.proofs.Lists.{Lt, lt_irrefl, tri}
use Rattle.rls_ident.proofs.Members.{bool_cases, in_left, in_right, in_split, true_false, or_false, in_any}
use Rattle.rls_ident.proofs.Tuples.{tuples}
use Rattle.rls_ident.proofs.Ends.{eq_same, ident_eq_refl}
use Rattle.rls_runs.specs.Runs.{is_increasing}
use Rattle.rls_runs.specs.Entries.{put, put_all, idents_in, has_ident}
use Rattle.rls_runs.proofs.RunOrder.{of_lt}
use Rattle.rls_runs.proofs.Sorted.{Entry, IsBelow, AreAbove, Rises, AreApart, AreDistinct, AllApart, rises_all, in_put_all, put_all_in, same_rising, above_less, rises_of_increasing, increasing_of_rises, distinct_of}
use Rattle.rls_doc.specs.Documents.{AreNew}

-- ---- identifiers that differ

apart_of : (e : Entry) (es : List Entry) → has_ident (idents_in es) e.0 ≡ false → AreApart e es
apart_of e [] h = tt
apart_of e (x ∷ es) h =
    let p = or_false (ident_eq x.0 e.0) (has_ident (idents_in es) e.0) h in
    ((λ q. true_false (ident_eq x.0 e.0) (subst (λ z. ident_eq x.0 z ≡ true) (sym q) (ident_eq_refl x.0)) p.0), apart_of e es p.1)

all_apart : (ids : List (List Tuple)) (cs : List ℕ) (es : List Entry) → AreNew ids (idents_in es) → AllApart (zip ids cs) es
all_apart [] cs es h = tt
all_apart (x ∷ ids) [] es h = tt
all_apart (x ∷ ids) (c ∷ cs) es h = (apart_of (x, c) es h.0, all_apart ids cs es h.1)

-- identifiers that aren't there are new
pub are_new : (xs ys : List (List Tuple)) → ((x : List Tuple) → IsIn x xs → IsIn x ys → ⊥) → AreNew xs ys
are_new [] ys h = tt
are_new (x ∷ xs) ys h = (
  bool_cases (has_ident ys x)
      (λ e. let p = in_any (λ y. ident_eq y x) ys e in absurd (h x (inl refl) (subst (λ z. IsIn z ys) (eq_same p.0 x p.2) p.1)))
      (λ e. e),
  are_new xs ys (λ z p. h z (inr p)),
)

-- ---- a strictly increasing list with the elements of both

put_in_order : (added es all : List Entry) → Rises es → AreDistinct added → AllApart added es → Rises all → ((z : Entry) → IsIn z all → IsIn z (es ++ added)) → ((z : Entry) → IsIn z (es ++ added) → IsIn z all) → all ≡ put_all added es
put_in_order added es all r d a s f g =
    same_rising all (put_all added es) s (rises_all added es r d a)
    (λ z p. put_all_in z added es (⊎_elim (λ q. inr q) (λ q. inl q) (in_split z es added (f z p))))
    (λ z p. g z (⊎_elim (λ q. in_right z es added q) (λ q. in_left z es added q) (in_put_all z added es p)))

pub increasing_zip : (ids : List (List Tuple)) (cs : List ℕ) → length ids ≡ length cs → is_increasing ids ≡ true → is_increasing (idents_in (zip ids cs)) ≡ true
increasing_zip ids cs n h = ap is_increasing (firsts-zip ids cs (sym n)) ∙ h

pub added_behind : (ids : List (List Tuple)) (cs : List ℕ) (es added : List Entry) → added ≡ zip ids cs → length ids ≡ length cs → is_increasing ids ≡ true → AreNew ids (idents_in es) → is_increasing (idents_in es) ≡ true
    → is_increasing (idents_in (es ++ added)) ≡ true → es ++ added ≡ put_all (zip ids cs) es
added_behind ids cs es added z n h a r s =
    ap (λ xs. es ++ xs) z
    ∙ put_in_order (zip ids cs) es (es ++ zip ids cs) (rises_of_increasing es r) (distinct_of (zip ids cs) (rises_of_increasing (zip ids cs) (increasing_zip ids cs n h))) (all_apart ids cs es a)
    (rises_of_increasing (es ++ zip ids cs) (ap (λ xs. is_increasing (idents_in (es ++ xs))) (sym z) ∙ s)) (λ e p. p) (λ e p. p)

-- ---- how often an identifier stands in a list

abbrev same : List Tuple → Entry → ℕ
same x e = if ident_eq e.0 x then 1 else 0

abbrev times : List Tuple → List Entry → ℕ
times x es = sum_by (same x) es

times_put : (x : List Tuple) (e : Entry) (es : List Entry) → times x (put e es) ≡ same x e + times x es
times_put x e [] = sum_by-cons (same x) e []
times_put x e (y ∷ es) = go (ident_lt y.0 e.0) (times_put x e es)
  where
    go : (b : Bool) → times x (put e es) ≡ same x e + times x es → times x (if b then y ∷ put e es else e ∷ y ∷ es) ≡ same x e + times x (y ∷ es)
    go true h =
        let p = sum_by-cons (same x) y (put e es) in
        let q = sum_by-cons (same x) y es in
        omega arith
    go false h = sum_by-cons (same x) e (y ∷ es)

times_put_all : (x : List Tuple) (added es : List Entry) → times x (put_all added es) ≡ times x (es ++ added)
times_put_all x [] es =
    let p = sum_by-append (same x) es [] in
    let z : times x [] ≡ 0 = refl in
    omega arith
times_put_all x (e ∷ added) es =
    let h = times_put_all x added (put e es) in
    let p = sum_by-append (same x) (put e es) added in
    let q = times_put x e es in
    let r = sum_by-append (same x) es (e ∷ added) in
    let s = sum_by-cons (same x) e added in
    omega arith

none_above : (e : Entry) (es : List Entry) → AreAbove e es → times e.0 es ≡ 0
none_above e [] h = refl
none_above e (y ∷ es) h =
    let p = sum_by-cons (same e.0) y es in
    let k = none_above e es h.1 in
    let n : same e.0 y ≡ 0 = bool_cases (ident_eq y.0 e.0) (λ q. absurd (lt_irrefl (subst (λ z. Lt tuples e.0 z) (eq_same y.0 e.0 q) h.0))) (λ q. ap (λ b. if b then 1 else 0) q) in
    omega arith

rises_once : (x : List Tuple) (es : List Entry) → Rises es → times x es ≤ 1
rises_once x [] h = omega arith
rises_once x (e ∷ es) h =
    let p = sum_by-cons (same x) e es in
    let k = rises_once x es h.1 in
    bool_cases (ident_eq e.0 x)
    (λ q. let z : times x es ≡ 0 = subst (λ w. times w es ≡ 0) (eq_same e.0 x q) (none_above e es h.0) in
    let n : same x e ≡ 1 = ap (λ b. if b then 1 else 0) q in
    omega arith)
    (λ q. let n : same x e ≡ 0 = ap (λ b. if b then 1 else 0) q in omega arith)

-- a list that is sorted, in which no identifier stands twice, strictly increases
rises_sorted : (es : List Entry) → ((x : List Tuple) → times x es ≤ 1) → IsSortedBy (λ (x y : Entry). ident_lt x.0 y.0) es → Rises es
rises_sorted [] h s = tt
rises_sorted (y ∷ []) h s = (tt, tt)
rises_sorted (y ∷ (z ∷ es)) h s =
    let p = sum_by-cons (same y.0) y (z ∷ es) in
    let q = sum_by-cons (same y.0) z es in
    let one : same y.0 y ≡ 1 = ap (λ b. if b then 1 else 0) (ident_eq_refl y.0) in
    let l : IsBelow y z = ⊎_elim (λ l. l) (λ r. ⊎_elim (λ e. absurd (twice p q one (h y.0) e)) (λ g. absurd (true_false (ident_lt z.0 y.0) (of_lt z.0 y.0 g) (s 0 y (omega arith) (omega arith)))) r) (tri tuples y.0 z.0) in
    let r = rises_sorted (z ∷ es) (λ x. let k = sum_by-cons (same x) y (z ∷ es) in let m = h x in omega arith) (λ k d a b. let e : suc k + 1 ≡ suc (k + 1) = omega arith in subst (λ m. ident_lt (get_or (y ∷ (z ∷ es)) m d).0 (get_or (z ∷ es) k d).0 ≡ false) e (s (suc k) d (omega arith) (omega arith))) in
    ((l, above_less y z es l r.0), r)
  where
    twice : times y.0 (y ∷ (z ∷ es)) ≡ same y.0 y + times y.0 (z ∷ es) → times y.0 (z ∷ es) ≡ same y.0 z + times y.0 es → same y.0 y ≡ 1 → times y.0 (y ∷ (z ∷ es)) ≤ 1 → y.0 ≡ z.0 → ⊥
    twice p q one h e =
        let two : same y.0 z ≡ 1 = ap (λ b. if b then 1 else 0) (ap (λ w. ident_eq w y.0) (sym e) ∙ ident_eq_refl y.0) in
        omega arith

-- ---- the elements of a permutation

contains : (x : Entry) (es : List Entry) → IsIn x es → Contains es x
contains x [] p = absurd p
contains x (y ∷ es) (inl e) = (0, omega arith, e)
contains x (y ∷ es) (inr p) = let r = contains x es p in (suc r.0, omega arith, r.2)

contained : (x : Entry) (es : List Entry) (k : ℕ) → k < length es → get_or es k x ≡ x → IsIn x es
contained x [] k h e = absurd (omega arith)
contained x (y ∷ es) zero h e = inl e
contained x (y ∷ es) (suc k) h e = inr (contained x es k (omega arith) e)

moved : (x : Entry) (xs ys : List Entry) → IsPermutation xs ys → IsIn x xs → IsIn x ys
moved x xs ys h p = let r = Contains-permutation xs ys x h (contains x xs p) in contained x ys r.0 r.1 r.2

-- the entries and the added ones, sorted
added_sorted : (ids : List (List Tuple)) (cs : List ℕ) (es all : List Entry) → length ids ≡ length cs → is_increasing ids ≡ true → AreNew ids (idents_in es) → is_increasing (idents_in es) ≡ true
    → IsSortedBy (λ (x y : Entry). ident_lt x.0 y.0) all → IsPermutation (es ++ zip ids cs) all → Rises all × (all ≡ put_all (zip ids cs) es)
added_sorted ids cs es all n h a r s p =
    let d = distinct_of (zip ids cs) (rises_of_increasing (zip ids cs) (increasing_zip ids cs n h)) in
    let b = all_apart ids cs es a in
    let once : (x : List Tuple) → times x all ≤ 1 = λ x.
    let c = rises_once x (put_all (zip ids cs) es) (rises_all (zip ids cs) es (rises_of_increasing es r) d b) in
    let e = times_put_all x (zip ids cs) es in
    let f = sum_by-IsPermutation (same x) (es ++ zip ids cs) all p in
    omega arith in
    let up = rises_sorted all once s in
    (up, put_in_order (zip ids cs) es all (rises_of_increasing es r) d b up (λ z q. moved z all (es ++ zip ids cs) (IsPermutation-sym (es ++ zip ids cs) all p) q) (λ z q. moved z (es ++ zip ids cs) all p q))

pub sorted_is : (ids : List (List Tuple)) (cs : List ℕ) (es added all : List Entry) → added ≡ zip ids cs → length ids ≡ length cs → is_increasing ids ≡ true → AreNew ids (idents_in es) → is_increasing (idents_in es) ≡ true
    → IsSortedBy (λ (x y : Entry). ident_lt x.0 y.0) all → IsPermutation (es ++ added) all → all ≡ put_all (zip ids cs) es
sorted_is ids cs es added all z n h a r s p = (added_sorted ids cs es all n h a r s (subst (λ xs. IsPermutation (es ++ xs) all) z p)).1

pub sorted_rises : (ids : List (List Tuple)) (cs : List ℕ) (es added all : List Entry) → added ≡ zip ids cs → length ids ≡ length cs → is_increasing ids ≡ true → AreNew ids (idents_in es) → is_increasing (idents_in es) ≡ true
    → IsSortedBy (λ (x y : Entry). ident_lt x.0 y.0) all → IsPermutation (es ++ added) all → is_increasing (idents_in all) ≡ true
sorted_rises ids cs es added all z n h a r s p = increasing_of_rises all (added_sorted ids cs es all n h a r s (subst (λ xs. IsPermutation (es ++ xs) all) z p)).0
