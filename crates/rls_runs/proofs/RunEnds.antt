-- The last identifier of a run.
use Rattle.std.proofs.Common.{◌≡◌, ℕ, zero, suc, ◌+◌, ◌-◌, ◌<◌, ◌≤◌, ◌^◌, Bool, true, false, List, [], ◌∷◌, ◌++◌, length, take, Some, Result, Ok, Err, slice_get, refl, sym, ap, ◌∙◌, arith, rules}
use Rattle.std.specs.Prelude.{pos, ◌+ℤ◌, ◌-ℤ◌, ◌≤ℤ◌, ◌&&◌, ◌==◌, if◌then◌else◌, nat_lt, int_le}
use Rattle.std.proofs.lemmas.Int.{ints}
use Rattle.std.proofs.Math.ListN.{drop_of_length-le}
use Rattle.rls_ident.specs.declared.tuple.Tuple.{Tuple}
use Rattle.rls_ident.specs.Tuples.{offset_of}
use Rattle.rls_ident.specs.Identifiers.{is_ident, is_bounded, last_of, ident_lt, ident_eq, shifted, follows, least_offset}
use Rattle.rls_ident.proofs.Lists.{Lt}
use Rattle.rls_ident.proofs.Ends.{eq_same, least_last}
use Rattle.rls_ident.proofs.Members.{and_left, and_right, and_true, eq_refl, neq_test, lt_test, int_le_is}
use Rattle.rls_ident.proofs.Shifted.{shifted_shifted}
pub use Rattle.rls_ident.proofs.Shifted.{last_offset}
use Rattle.rls_ident.proofs.Tuples.{tuples}
use Rattle.rls_runs.specs.Runs.{run_idents, run_last, idents_of, is_run, past_offsets}
use Rattle.rls_runs.specs.Entries.{has_ident}
use Rattle.rls_runs.specs.Places.{below_count, find_ident, last_ident}
use Rattle.rls_runs.proofs.Finding.{told, run_length}
use Rattle.rls_runs.proofs.RunOrder.{lt_of, run_less, run_some, run_ident, last_at}
use Rattle.rls_runs.proofs.RunPlaces.{tells_less, tells_append, split_at}
use Rattle.rls_runs.proofs.RunJoins.{last_pushed, run_longer}

-- ---- whether it is less than an identifier

-- the answer of a search says that all are less
abbrev pub says_all : ℕ → Result ℕ ℕ → Bool
says_all n (Ok i) = false
says_all n (Err below) = below == n

pub count_most : (xs : List (List Tuple)) (y : List Tuple) → below_count xs y ≤ length xs
count_most [] y = omega arith
count_most (x ∷ xs) y = go (ident_lt x y) (count_most xs y)
  where
    go : (b : Bool) → below_count xs y ≤ length xs → (if b then suc (below_count xs y) else below_count xs y) ≤ suc (length xs)
    go true h = omega arith
    go false h = omega arith

not_all : (xs : List (List Tuple)) (y : List Tuple) (n : ℕ) → below_count xs y < n → says_all n (find_ident xs y) ≡ false
not_all xs y n h = go (has_ident xs y)
  where
    go : (b : Bool) → says_all n (if b then Ok (below_count xs y) else Err (below_count xs y)) ≡ false
    go true = refl
    go false = neq_test (below_count xs y) n (λ e. let f : below_count xs y ≡ n = e in omega arith)

not_counted : (x : List Tuple) (m : ℕ) (y : List Tuple) → ident_lt (shifted (pos m) x) y ≡ false → below_count (run_idents x (suc m)) y < suc m
not_counted x m y h =
    let one : suc m ≡ m + 1 = omega arith in
    let e : run_idents x (suc m) ≡ run_idents x m ++ run_idents (shifted (pos m) x) 1 = ap (run_idents x) one ∙ run_longer x m 1 in
    let last : below_count (run_idents (shifted (pos m) x) 1) y ≡ 0 = ap (λ b. if b then 1 else 0) h in
    let all = (tells_append (run_idents x m) (run_idents (shifted (pos m) x) 1) y (has_ident (run_idents x m) y) (has_ident (run_idents (shifted (pos m) x) 1) y) (below_count (run_idents x m) y) 0 (refl, refl) (refl, last)).1 in
    let f = ap (λ xs. below_count xs y) e in
    let most = count_most (run_idents x m) y in
    let l = run_length x m in
    omega arith

not_lower : (x y : List Tuple) → (Lt tuples x y → ⊥) → ident_lt x y ≡ false
not_lower x y n = go (ident_lt x y) refl
  where
    go : (b : Bool) → ident_lt x y ≡ b → b ≡ false
    go true e = absurd (n (lt_of x y e))
    go false e = refl

pub ends_below : (r : List Tuple × ℕ) (y : List Tuple) → is_run r ≡ true → says_all r.1 (find_ident (run_idents r.0 r.1) y) ≡ ident_lt (run_last r) y
ends_below (x, zero) y h = let l = run_some (x, zero) h in absurd (omega arith)
ends_below (x, suc m) y h = go (ident_lt (shifted (pos m) x) y) refl ∙ ap (λ z. ident_lt z y) (sym (last_at x m))
  where
    go : (b : Bool) → ident_lt (shifted (pos m) x) y ≡ b → says_all (suc m) (find_ident (run_idents x (suc m)) y) ≡ ident_lt (shifted (pos m) x) y
    go true e =
        ap (says_all (suc m)) (told (run_idents x (suc m)) y false (length (run_idents x (suc m))) (tells_less (run_idents x (suc m)) y (run_less x m y (run_ident (x, suc m) h) (lt_of (shifted (pos m) x) y e))))
        ∙ ap (λ k. k == suc m) (run_length x (suc m)) ∙ eq_refl (suc m) ∙ sym e
    go false e = not_all (run_idents x (suc m)) y (suc m) (not_counted x m y e) ∙ sym e

-- ---- what is right after it

pub behind_last : (r : List Tuple × ℕ) → 0 < r.1 → shifted (pos 1) (run_last r) ≡ shifted (pos r.1) r.0
behind_last r h = shifted_shifted (pos 1) (pos (r.1 - 1)) r.0 ∙ ap (λ k. shifted k r.0) (let e : (r.1 - 1) + 1 ≡ r.1 = omega arith in omega (arith, ints))

pub touches_at : (r : List Tuple × ℕ) (y : List Tuple) → is_run r ≡ true → ident_eq y (shifted (pos r.1) r.0) ≡ follows y (run_last r)
touches_at r y h = ap (ident_eq y) (sym (behind_last r (run_some r h)))

pub touched_is : (r : List Tuple × ℕ) (y : List Tuple) → is_run r ≡ true → follows y (run_last r) ≡ true → y ≡ shifted (pos r.1) r.0
touched_is r y h t = eq_same y (shifted (pos 1) (run_last r)) t ∙ behind_last r (run_some r h)

-- ---- the last run of several

pub last_is : (rs : List (List Tuple × ℕ)) (r : List Tuple × ℕ) → slice_get rs (length rs - 1) ≡ Some r → take (length rs - 1) rs ++ r ∷ [] ≡ rs
last_is rs r g = ap (λ xs. take (length rs - 1) rs ++ r ∷ xs) (sym (drop_of_length-le rs (omega arith))) ∙ split_at rs (length rs - 1) r g

pub last_run : (rs : List (List Tuple × ℕ)) (r : List Tuple × ℕ) → slice_get rs (length rs - 1) ≡ Some r → is_run r ≡ true → last_ident (idents_of rs) ≡ Some (run_last r)
last_run rs r g h = ap (λ xs. last_ident (idents_of xs)) (sym (last_is rs r g)) ∙ last_pushed (take (length rs - 1) rs) r h

-- ---- the length of a longer run

run_parts : (r : List Tuple × ℕ) → is_run r ≡ true → (is_ident r.0 ≡ true) × (is_bounded r.0 ≡ true) × (int_le (offset_of (last_of r.0) +ℤ pos r.1) past_offsets ≡ true)
run_parts r h =
    let a = is_ident r.0 in
    let b = is_bounded r.0 in
    let c = nat_lt 0 r.1 in
    let d = int_le (offset_of (last_of r.0) +ℤ pos r.1) past_offsets in
    let p = and_left (a && b) c (and_left (a && b && c) d h) in
    (and_left a b p, and_right a b p, and_right (a && b && c) d h)

pub run_end : (r : List Tuple × ℕ) → is_run r ≡ true → (offset_of (last_of r.0) +ℤ pos r.1) ≤ℤ past_offsets
run_end r h = int_le_is (offset_of (last_of r.0) +ℤ pos r.1) past_offsets (run_parts r h).2

pub run_limit : (r : List Tuple × ℕ) → is_run r ≡ true → r.1 ≤ 2 ^ 31
run_limit r h =
    let p = run_parts r h in
    let least = least_last r.0 p.0 p.1 in
    let end = run_end r h in
    omega (arith, ints)

pub run_short : (r : List Tuple × ℕ) → is_run r ≡ true → r.1 < 2 ^ 32
run_short r h = omega (arith, run_limit r h)

pub longer_is : (r : List Tuple × ℕ) (y : List Tuple) (m : ℕ) → is_run r ≡ true → is_run (y, m) ≡ true → y ≡ shifted (pos r.1) r.0 → is_run (r.0, r.1 + m) ≡ true
longer_is r y m h k e =
    let p = run_parts r h in
    let end = run_end (y, m) k in
    let some = run_some r h in
    let at = ap (λ z. offset_of (last_of z)) e ∙ last_offset (pos r.1) r.0 p.0 in
    let fits : (offset_of (last_of r.0) +ℤ pos (r.1 + m)) ≤ℤ past_offsets = omega (arith, ints) in
    and_true (is_ident r.0 && is_bounded r.0 && nat_lt 0 (r.1 + m)) (int_le (offset_of (last_of r.0) +ℤ pos (r.1 + m)) past_offsets)
    (and_true (is_ident r.0 && is_bounded r.0) (nat_lt 0 (r.1 + m)) (and_true (is_ident r.0) (is_bounded r.0) p.0 p.1) (lt_test 0 (r.1 + m) (omega arith)))
    (search rules)

pub shorter_is : (r : List Tuple × ℕ) (m : ℕ) → is_run r ≡ true → 0 < m → m ≤ r.1 → is_run (r.0, m) ≡ true
shorter_is r m h some l =
    let p = run_parts r h in
    let end = run_end r h in
    let fits : (offset_of (last_of r.0) +ℤ pos m) ≤ℤ past_offsets = omega (arith, ints) in
    and_true (is_ident r.0 && is_bounded r.0 && nat_lt 0 m) (int_le (offset_of (last_of r.0) +ℤ pos m) past_offsets)
    (and_true (is_ident r.0 && is_bounded r.0) (nat_lt 0 m) (and_true (is_ident r.0) (is_bounded r.0) p.0 p.1) (lt_test 0 m some))
    (search rules)

-- ---- the front of a longer run

-- the offset of its first identifier is in the program's range
pub front_least : (r : List Tuple × ℕ) (k : ℕ) → is_run r ≡ true → is_run (shifted (pos 0 -ℤ pos k) r.0, r.1 + k) ≡ true → least_offset ≤ℤ (offset_of (last_of r.0) -ℤ pos k)
front_least r k h l =
    let p = run_parts (shifted (pos 0 -ℤ pos k) r.0, r.1 + k) l in
    let least = least_last (shifted (pos 0 -ℤ pos k) r.0) p.0 p.1 in
    let at = last_offset (pos 0 -ℤ pos k) r.0 (run_parts r h).0 in
    omega (arith, ints)
