-- Two lists of identifiers become one.
use Rattle.std.proofs.Common.{◌≡◌, ◌∙◌, ℕ, zero, suc, ◌+◌, ◌-◌, ◌<◌, ◌≤◌, ◌⊎◌, List, [], ◌∷◌, ◌++◌, length, Some, None, true, false, refl, sym, ap, subst, inl, inr, arith, ⊎_elim, get_or}
use Rattle.std.proofs.lemmas.Bool.{cases_lt}
use Rattle.std.proofs.lemmas.Option.{slice_get_cases}
use Rattle.std.specs.Prelude.{slice_get, pos}
use Rattle.std.proofs.lemmas.Int.{ints}
use Rattle.rls_ident.specs.declared.tuple.Tuple.{Tuple}
use Rattle.rls_ident.specs.Identifiers.{ident_lt, shifted}
use Rattle.rls_ident.specs.Lists.{IsIn}
use Rattle.rls_ident.proofs.Lists.{lt_irrefl, lt_trans, tri}
use Rattle.rls_ident.proofs.Members.{some_is, get_in, in_left, in_right, in_split, not_true}
use Rattle.rls_ident.proofs.Shifted.{shifted_shifted}
use Rattle.rls_ident.proofs.Tuples.{tuples, lt_of, of_lt}
use Rattle.rls_runs.specs.Places.{last_ident, is_above, below_count}
use Rattle.rls_runs.specs.Runs.{run_idents}
use Rattle.rls_runs.proofs.Finding.{run_length}
use Rattle.rls_runs.proofs.Gaps.{less_at, at_less, at_same}
use Rattle.rls_runs.proofs.RunOrder.{Rising, run_gets}
use Rattle.rls_replica.specs.Unions.{Stands, AreBelow, IsPut}

-- what all are less than is above the last one
pub above_all : (xs : List (List Tuple)) (x : List Tuple) → AreBelow xs x → is_above (last_ident xs) x ≡ true
above_all [] x h = refl
above_all (y ∷ []) x h = h y (inl refl)
above_all (y ∷ (z ∷ zs)) x h = above_all (z ∷ zs) x (λ w p. h w (inr p))

-- an earlier one is less
pub earlier : (xs : List (List Tuple)) (j k : ℕ) (x y : List Tuple) → Rising xs → slice_get xs j ≡ Some x → slice_get xs k ≡ Some y → j < k → ident_lt x y ≡ true
earlier xs j k x y r g h l = let e = at_same xs k y r h in of_lt x y (less_at xs j x y r g (omega (arith, e, l)))

-- what is among a list stands in it
pub stands_in : (xs : List (List Tuple)) (x : List Tuple) → IsIn x xs → Stands xs 0 (length xs) x
stands_in [] x p = absurd p
stands_in (y ∷ ys) x (inl e) = (0, omega arith, omega arith, ap Some e)
stands_in (y ∷ ys) x (inr p) = let s = stands_in ys x p in (suc s.0, omega arith, omega (arith, s.2), s.3)

-- where all are put, each is there
pub all_put : (xs : List (List Tuple)) (i : ℕ) (both : List (List Tuple)) → IsPut xs i both → length xs ≤ i → (x : List Tuple) → IsIn x xs → IsIn x both
all_put xs i both h l x p = let s = stands_in xs x p in h.has x (s.0, s.1, omega (arith, s.2, l), s.3)

-- more of a list are put
pub put_more : (xs : List (List Tuple)) (i at : ℕ) (old new : List (List Tuple)) → Rising xs → IsPut xs i old → i < at → at ≤ length xs
    → ((x : List Tuple) → IsIn x old ⊎ Stands xs i at x → IsIn x new) → ((x : List Tuple) → IsIn x new → IsIn x old ⊎ Stands xs i at x) → IsPut xs at new
put_more xs i at old new r h l w all only = record {
  within = w;
  has = λ x s. ⊎_elim (λ k. all x (inl (h.has x (s.0, s.1, k, s.3)))) (λ k. all x (inr (s.0, k, s.2, s.3))) (before_or s.0 i);
  above = λ x g y p. ⊎_elim (λ q. beyond x g y q (slice_get_cases xs i).1) (λ s. earlier xs s.0 at y x r s.3 g s.2) (only y p);
}
  where
    before_or : (k n : ℕ) → (k < n) ⊎ (n ≤ k)
    before_or zero zero = inr (omega arith)
    before_or zero (suc n) = inl (omega arith)
    before_or (suc k) zero = inr (omega arith)
    before_or (suc k) (suc n) = ⊎_elim (λ p. inl (omega (arith, p))) (λ p. inr (omega (arith, p))) (before_or k n)

    beyond : (x : List Tuple) → slice_get xs at ≡ Some x → (y : List Tuple) → IsIn y old
        → ((z : List Tuple) × (i < length xs) × (slice_get xs i ≡ Some z) × (get_or xs i z ≡ z)) ⊎ ((length xs ≤ i) × (slice_get xs i ≡ None)) → ident_lt y x ≡ true
    beyond x g y q (inl p) = of_lt y x (lt_trans (lt_of y p.0 (h.above p.0 p.2 y q)) (lt_of p.0 x (earlier xs i at p.0 x r p.2 g l)))
    beyond x g y q (inr p) = absurd (omega (arith, l, w, p.0))

-- of another list as many are put as before
pub put_still : (ys : List (List Tuple)) (j : ℕ) (xs : List (List Tuple)) (i at : ℕ) (old new : List (List Tuple)) → IsPut ys j old
    → ((x : List Tuple) → IsIn x old ⊎ Stands xs i at x → IsIn x new) → ((x : List Tuple) → IsIn x new → IsIn x old ⊎ Stands xs i at x)
    → ((y : List Tuple) → slice_get ys j ≡ Some y → (x : List Tuple) → Stands xs i at x → ident_lt x y ≡ true) → IsPut ys j new
put_still ys j xs i at old new h all only less = record {
  within = h.within;
  has = λ x s. all x (inl (h.has x s));
  above = λ y g x p. ⊎_elim (h.above y g x) (less y g x) (only x p);
}

-- places of one list are places of another where the two agree
pub moved : (xs ys : List (List Tuple)) (i j n at : ℕ) → ((k : ℕ) → k < n → slice_get xs (i + k) ≡ slice_get ys (j + k)) → i ≤ at → at ≤ i + n
    → (x : List Tuple) → Stands ys j (j + (at - i)) x → Stands xs i at x
moved xs ys i j n at same l m x s =
    let a : i + (s.0 - j) ≡ i + (s.0 - j) = refl in
    let b : j + (s.0 - j) ≡ s.0 = omega (arith, s.1) in
    (i + (s.0 - j), omega arith, omega (arith, s.1, s.2, l), same (s.0 - j) (omega (arith, s.1, s.2, l, m)) ∙ (ap (slice_get ys) b ∙ s.3))

pub moved_back : (xs ys : List (List Tuple)) (i j n at : ℕ) → ((k : ℕ) → k < n → slice_get xs (i + k) ≡ slice_get ys (j + k)) → i ≤ at → at ≤ i + n
    → (x : List Tuple) → Stands xs i at x → Stands ys j (j + (at - i)) x
moved_back xs ys i j n at same l m x s =
    let b : i + (s.0 - i) ≡ s.0 = omega (arith, s.1) in
    (j + (s.0 - i), omega arith, omega (arith, s.1, s.2, l), sym (same (s.0 - i) (omega (arith, s.1, s.2, l, m))) ∙ (ap (slice_get xs) b ∙ s.3))

-- ---- the parts that are put

-- where less are counted, those are less
pub counted_less : (xs : List (List Tuple)) (n : ℕ) (x y z : List Tuple) → Rising xs → n ≡ below_count xs z → Some z ≡ Some y → Stands xs 0 n x → ident_lt x y ≡ true
counted_less xs n x y z r e g s = let l : s.0 < below_count xs z = omega (arith, s.2, e) in subst (λ w. ident_lt x w ≡ true) (some_is z y g) (of_lt x z (less_at xs s.0 x z r s.3 l))

-- and no others
pub counted_rest : (xs : List (List Tuple)) (n k : ℕ) (x y z : List Tuple) → Rising xs → n ≡ below_count xs z → Some z ≡ Some y → n ≤ k → slice_get xs k ≡ Some x → ident_lt x y ≡ false
counted_rest xs n k x y z r e g l h =
    not_true (ident_lt x y) (λ t. let m = at_less xs k x z r h (lt_of x z (subst (λ w. ident_lt x w ≡ true) (sym (some_is z y g)) t)) in absurd (omega (arith, e, l, m)))

-- n identifiers of one run, which stand in a list from a place on, are put after others
module _ (xs old new : List (List Tuple)) (from place n : ℕ) (a : List Tuple) (part : List Tuple × ℕ) (is : part ≡ (shifted (pos place) a, n)) (there : (k : ℕ) → k < n → slice_get xs (from + k) ≡ Some (shifted (pos (place + k)) a)) where
  pub first_at : 0 < n → slice_get xs from ≡ Some part.0
  first_at l =
      let b : from + 0 ≡ from = omega arith in
      let d : place + 0 ≡ place = omega arith in
      ap (slice_get xs) (sym b) ∙ (there 0 l ∙ (ap (λ k. Some (shifted (pos k) a)) d ∙ ap (λ (r : List Tuple × ℕ). Some r.0) (sym is)))

  part_gets : (k : ℕ) → k < n → slice_get (run_idents part.0 part.1) k ≡ slice_get xs (from + k)
  part_gets k l =
      ap (λ (r : List Tuple × ℕ). slice_get (run_idents r.0 r.1) k) is
      ∙ (run_gets (shifted (pos place) a) n k l ∙ (ap Some (shifted_shifted (pos k) (pos place) a ∙ ap (λ j. shifted j a) (omega (arith, ints))) ∙ sym (there k l)))

  part_length : length (run_idents part.0 part.1) ≡ n
  part_length = ap (λ (r : List Tuple × ℕ). length (run_idents r.0 r.1)) is ∙ run_length (shifted (pos place) a) n

  pub put_all : new ≡ old ++ run_idents part.0 part.1 → (x : List Tuple) → IsIn x old ⊎ Stands xs from (from + n) x → IsIn x new
  put_all e x p = subst (IsIn x) (sym e) (⊎_elim (in_left x old (run_idents part.0 part.1)) (λ s.
      let b : from + (s.0 - from) ≡ s.0 = omega (arith, s.1) in
      in_right x old (run_idents part.0 part.1) (get_in (run_idents part.0 part.1) (s.0 - from) x (part_gets (s.0 - from) (omega (arith, s.1, s.2)) ∙ (ap (slice_get xs) b ∙ s.3)))) p)

  pub put_only : new ≡ old ++ run_idents part.0 part.1 → (x : List Tuple) → IsIn x new → IsIn x old ⊎ Stands xs from (from + n) x
  put_only e x p = ⊎_elim inl (λ q.
      let s = stands_in (run_idents part.0 part.1) x q in
      let l : s.0 < n = omega (arith, s.2, part_length) in
      inr (from + s.0, omega arith, omega (arith, l), sym (part_gets s.0 l) ∙ s.3)) (in_split x old (run_idents part.0 part.1) (subst (IsIn x) e p))

-- where neither list's next identifier is less than the other's, they are the same
pub both_next : (xs ys : List (List Tuple)) (i j n m : ℕ) → (i < length xs) ⊎ (j < length ys) → (length ys ≤ j → n ≡ length xs) → n ≤ i → (length xs ≤ i → m ≡ length ys) → m ≤ j
    → ((k : ℕ) (x y : List Tuple) → n ≤ k → slice_get ys j ≡ Some y → slice_get xs k ≡ Some x → ident_lt x y ≡ false) → ((k : ℕ) (y x : List Tuple) → m ≤ k → slice_get xs i ≡ Some x → slice_get ys k ≡ Some y → ident_lt y x ≡ false)
    → slice_get xs i ≡ slice_get ys j
both_next xs ys i j n m more all h all' h' less less' = go (slice_get_cases xs i).1 (slice_get_cases ys j).1
  where
    go : ((z : List Tuple) × (i < length xs) × (slice_get xs i ≡ Some z) × (get_or xs i z ≡ z)) ⊎ ((length xs ≤ i) × (slice_get xs i ≡ None))
        → ((z : List Tuple) × (j < length ys) × (slice_get ys j ≡ Some z) × (get_or ys j z ≡ z)) ⊎ ((length ys ≤ j) × (slice_get ys j ≡ None)) → slice_get xs i ≡ slice_get ys j
    go (inr p) (inr q) = p.1 ∙ sym q.1
    go (inr p) (inl q) = let e = all' p.0 in absurd (omega (arith, e, h', q.1))
    go (inl p) (inr q) = let e = all q.0 in absurd (omega (arith, e, h, p.1))
    go (inl p) (inl q) =
        let a = less i p.0 q.0 h q.2 p.2 in
        let b = less' j q.0 p.0 h' p.2 q.2 in
        ⊎_elim (λ l. let k = of_lt p.0 q.0 l in absurd (cc)) (λ s. ⊎_elim (λ e. p.2 ∙ (ap Some e ∙ sym q.2)) (λ l. let k = of_lt q.0 p.0 l in absurd (cc)) s) (tri tuples p.0 q.0)

-- ---- what isn't in a list

-- no identifier is less than itself, or than a lesser one
itself_not : (x : List Tuple) → ident_lt x x ≡ true → ⊥
itself_not x h = lt_irrefl {A = tuples} {x = x} (lt_of x x h)

both_not : (x y : List Tuple) → ident_lt x y ≡ true → ident_lt y x ≡ true → ⊥
both_not x y h k = lt_irrefl {A = tuples} {x = x} (lt_trans (lt_of x y h) (lt_of y x k))

-- what comes from a place on, and is less than the first identifier of a list that isn't less than the one there, isn't in that list
pub not_among : (xs list : List (List Tuple)) (at end i k : ℕ) (first x : List Tuple) → Rising xs → Rising list → slice_get xs at ≡ Some first → i ≡ below_count list first
    → ((y : List Tuple) → slice_get list i ≡ Some y → (z : List Tuple) → Stands xs 0 end z → ident_lt z y ≡ true) → k < end - at → slice_get xs (at + k) ≡ Some x → IsIn x list → ⊥
not_among xs list at end i k first x r q f e less l g p = ⊎_elim before after (cases_lt s.0 i)
  where
    s : Stands list 0 (length list) x
    s = stands_in list x p

    before : s.0 < i → ⊥
    before m =
        let h = counted_less list i x first first q e refl (s.0, omega arith, m, s.3) in
        ⊎_elim (λ n. both_not x first h (earlier xs at (at + k) first x r f g (omega (arith, n))))
        (λ n.
        let z : at + k ≡ at = omega (arith, n) in
        let same : first ≡ x = some_is first x (sym f ∙ (ap (slice_get xs) (sym z) ∙ g)) in
        itself_not x (subst (λ w. ident_lt x w ≡ true) same h)) (cases_lt 0 k)

    after : i ≤ s.0 → ⊥
    after m = ⊎_elim (λ c.
        let h = less c.0 c.2 x (at + k, omega arith, omega (arith, l), g) in
        ⊎_elim (λ n. both_not x c.0 h (earlier list i s.0 c.0 x q c.2 s.3 n))
        (λ n.
        let z : s.0 ≡ i = omega (arith, n, m) in
        let same : c.0 ≡ x = some_is c.0 x (sym c.2 ∙ (ap (slice_get list) (sym z) ∙ s.3)) in
        itself_not x (subst (λ w. ident_lt x w ≡ true) same h)) (cases_lt i s.0))
        (λ c. let d = s.2 in absurd (omega (arith, c.0, d, m))) (slice_get_cases list i).1
