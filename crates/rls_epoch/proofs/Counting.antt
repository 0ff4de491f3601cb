-- How many marks there are.
use Rattle.std.proofs.Common.{◌≡◌, ℕ, zero, suc, ◌+◌, ◌<◌, ◌≤◌, true, false, cond, List, [], ◌∷◌, length, take, set, refl, sym, ap, ◌∙◌, arith, nat_lt, ◌⊎◌, inl, inr, ⊎_elim}
use Rattle.std.specs.Prelude.{count_by}
use Rattle.std.proofs.lemmas.List.Recursion.{is_count_by}
use Rattle.std.proofs.lemmas.Bool.{cases_lt}
use Rattle.rls_ident.proofs.Members.{lt_is, lt_test, not_lt_is}
use Rattle.rls_epoch.specs.Marks.{has_mark, mark_count}

pub mark_count_is : (ms : List ℕ) → mark_count ms ≡ count_by (λ m. nat_lt 0 m) ms
mark_count_is = is_count_by mark_count (λ m. nat_lt 0 m) refl step
  where
    step : (m : ℕ) (ms : List ℕ) → mark_count (m ∷ ms) ≡ cond (nat_lt 0 m) (1 + mark_count ms) (mark_count ms)
    step zero ms = refl
    step (suc m) ms = let e : suc (mark_count ms) ≡ 1 + mark_count ms = omega arith in e ∙ sym (ap (λ b. cond b (1 + mark_count ms) (mark_count ms)) (lt_test 0 (suc m) (omega arith)))

-- one mark more, or none
pub count_marked : (ms : List ℕ) (n : ℕ) → n < length ms → has_mark ms n ≡ true → mark_count (take (suc n) ms) ≡ suc (mark_count (take n ms))
count_marked [] n h q = absurd (omega arith)
count_marked (zero ∷ ms) zero h q = absurd (omega (arith, lt_is 0 0 q))
count_marked (suc m ∷ ms) zero h q = refl
count_marked (zero ∷ ms) (suc n) h q = count_marked ms n (omega arith) q
count_marked (suc m ∷ ms) (suc n) h q = ap suc (count_marked ms n (omega arith) q)

pub count_unmarked : (ms : List ℕ) (n : ℕ) → n < length ms → has_mark ms n ≡ false → mark_count (take (suc n) ms) ≡ mark_count (take n ms)
count_unmarked [] n h q = absurd (omega arith)
count_unmarked (zero ∷ ms) zero h q = refl
count_unmarked (suc m ∷ ms) zero h q = absurd (omega (arith, not_lt_is 0 (suc m) q))
count_unmarked (zero ∷ ms) (suc n) h q = count_unmarked ms n (omega arith) q
count_unmarked (suc m ∷ ms) (suc n) h q = ap suc (count_unmarked ms n (omega arith) q)

-- what one mark that is set adds before n
pub count_set : (ms : List ℕ) (n u : ℕ) → u < n → u < length ms → has_mark ms u ≡ false → mark_count (take n (set ms u 1)) ≡ suc (mark_count (take n ms))
count_set ms zero u l h q = absurd (omega arith)
count_set [] (suc n) u l h q = absurd (omega arith)
count_set (zero ∷ ms) (suc n) zero l h q = refl
count_set (suc m ∷ ms) (suc n) zero l h q = absurd (omega (arith, not_lt_is 0 (suc m) q))
count_set (zero ∷ ms) (suc n) (suc u) l h q = count_set ms n u (omega arith) (omega arith) q
count_set (suc m ∷ ms) (suc n) (suc u) l h q = ap suc (count_set ms n u (omega arith) (omega arith) q)

pub count_set_again : (ms : List ℕ) (n u : ℕ) → u < length ms → has_mark ms u ≡ true → mark_count (take n (set ms u 1)) ≡ mark_count (take n ms)
count_set_again ms zero u h q = refl
count_set_again [] (suc n) u h q = absurd (omega arith)
count_set_again (zero ∷ ms) (suc n) zero h q = absurd (omega (arith, lt_is 0 0 q))
count_set_again (suc m ∷ ms) (suc n) zero h q = refl
count_set_again (zero ∷ ms) (suc n) (suc u) h q = count_set_again ms n u (omega arith) q
count_set_again (suc m ∷ ms) (suc n) (suc u) h q = ap suc (count_set_again ms n u (omega arith) q)

-- if there is a mark, it has a place
pub count_some : (ms : List ℕ) (n : ℕ) → 0 < mark_count (take n ms) → (m : ℕ) × (m < n) × (m < length ms) × (has_mark ms m ≡ true)
count_some ms zero h = absurd (omega arith)
count_some [] (suc n) h = absurd (omega arith)
count_some (zero ∷ ms) (suc n) h = let r = count_some ms n h in (suc r.0, omega arith, omega arith, r.3)
count_some (suc m ∷ ms) (suc n) h = (0, omega arith, omega arith, lt_test 0 (suc m) (omega arith))

-- if something is marked, there is a mark
pub some_count : (ms : List ℕ) (n m : ℕ) → m < n → m < length ms → has_mark ms m ≡ true → 0 < mark_count (take n ms)
some_count ms zero m l h q = absurd (omega arith)
some_count [] (suc n) m l h q = absurd (omega arith)
some_count (zero ∷ ms) (suc n) zero l h q = absurd (omega (arith, lt_is 0 0 q))
some_count (suc k ∷ ms) (suc n) m l h q = omega arith
some_count (zero ∷ ms) (suc n) (suc m) l h q = some_count ms n m (omega arith) (omega arith) q

-- a single mark has one place
pub count_one : (ms : List ℕ) (n i j : ℕ) → mark_count (take n ms) ≤ 1 → i < n → j < n → i < length ms → j < length ms → has_mark ms i ≡ true → has_mark ms j ≡ true → i ≡ j
count_one ms zero i j c k l h g p q = absurd (omega arith)
count_one [] (suc n) i j c k l h g p q = absurd (omega arith)
count_one (zero ∷ ms) (suc n) zero j c k l h g p q = absurd (omega (arith, lt_is 0 0 p))
count_one (zero ∷ ms) (suc n) (suc i) zero c k l h g p q = absurd (omega (arith, lt_is 0 0 q))
count_one (zero ∷ ms) (suc n) (suc i) (suc j) c k l h g p q = ap suc (count_one ms n i j c (omega arith) (omega arith) (omega arith) (omega arith) p q)
count_one (suc m ∷ ms) (suc n) zero zero c k l h g p q = refl
count_one (suc m ∷ ms) (suc n) zero (suc j) c k l h g p q = let x = some_count ms n j (omega arith) (omega arith) q in absurd (omega arith)
count_one (suc m ∷ ms) (suc n) (suc i) j c k l h g p q = let x = some_count ms n i (omega arith) (omega arith) p in absurd (omega arith)

-- a mark that is set
pub mark_set : (ms : List ℕ) (u : ℕ) → u < length ms → has_mark (set ms u 1) u ≡ true
mark_set [] u h = absurd (omega arith)
mark_set (m ∷ ms) zero h = lt_test 0 1 (omega arith)
mark_set (m ∷ ms) (suc u) h = mark_set ms u (omega arith)

pub mark_kept : (ms : List ℕ) (u n : ℕ) → has_mark ms n ≡ true → has_mark (set ms u 1) n ≡ true
mark_kept [] u n q = q
mark_kept (m ∷ ms) zero zero q = lt_test 0 1 (omega arith)
mark_kept (m ∷ ms) zero (suc n) q = q
mark_kept (m ∷ ms) (suc u) zero q = q
mark_kept (m ∷ ms) (suc u) (suc n) q = mark_kept ms u n q

pub mark_other : (ms : List ℕ) (u n : ℕ) → (n ≡ u → ⊥) → has_mark (set ms u 1) n ≡ has_mark ms n
mark_other [] u n h = refl
mark_other (m ∷ ms) zero zero h = absurd (h refl)
mark_other (m ∷ ms) zero (suc n) h = refl
mark_other (m ∷ ms) (suc u) zero h = refl
mark_other (m ∷ ms) (suc u) (suc n) h = mark_other ms u n (λ e. h (ap suc e))

-- there are at most as many marks as places
pub count_most : (ms : List ℕ) (n : ℕ) → mark_count (take n ms) ≤ n
count_most ms zero = omega arith
count_most [] (suc n) = omega arith
count_most (zero ∷ ms) (suc n) = omega (arith, count_most ms n)
count_most (suc m ∷ ms) (suc n) = omega (arith, count_most ms n)

pub set_from : (ms : List ℕ) (u n : ℕ) → has_mark (set ms u 1) n ≡ true → (n ≡ u) ⊎ (has_mark ms n ≡ true)
set_from ms u n q =
    ⊎_elim (λ l. inr (sym (mark_other ms u n (λ e. let x : n ≡ u = e in omega arith)) ∙ q))
    (λ l. ⊎_elim (λ k. inr (sym (mark_other ms u n (λ e. let x : n ≡ u = e in omega arith)) ∙ q)) (λ k. inl (omega arith)) (cases_lt u n)) (cases_lt n u)
