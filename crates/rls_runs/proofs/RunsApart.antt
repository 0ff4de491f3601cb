-- Runs that stand apart: the maximal ones of a strictly increasing list, and what stands after others.
use Rattle.std.proofs.Common.{◌≡◌, ℕ, ◌+◌, ◌-◌, true, false, List, [], ◌∷◌, ◌++◌, Option, Some, None, refl, sym, ap, ◌∙◌, arith}
use Rattle.std.specs.Prelude.{ℤ, pos, ◌+ℤ◌, not, ◌&&◌, nat_lt}
use Rattle.std.specs.List.{list_all}
use Rattle.std.proofs.lemmas.Int.{ints}
use Rattle.rls_ident.specs.declared.tuple.Tuple.{Tuple}
use Rattle.rls_ident.specs.Identifiers.{ident_lt, shifted, follows}
use Rattle.rls_ident.proofs.Ends.{eq_same}
use Rattle.rls_ident.proofs.Lists.{Lt, lt_trans}
use Rattle.rls_ident.proofs.Members.{bool_cases, and_left, and_right, and_true, lt_is, lt_test}
use Rattle.rls_ident.proofs.Shifted.{shifted_none, shifted_shifted}
use Rattle.rls_ident.proofs.Tuples.{tuples}
use Rattle.rls_runs.specs.Runs.{put_run, runs_of, run_last, is_increasing, is_apart, are_apart, run_before, is_run}
use Rattle.rls_runs.proofs.RunOrder.{less_shifted, run_ident, apart_head, apart_rest}

-- the first run begins with x
abbrev BeginsWith : List Tuple → List (List Tuple × ℕ) → Type 0
BeginsWith x [] = Unit {0}
BeginsWith x (r ∷ rs) = r.0 ≡ x

begins : (x : List Tuple) (rs : List (List Tuple × ℕ)) → BeginsWith x (put_run x rs)
begins x [] = refl
begins x ((y, n) ∷ rs) = bool_cases (follows y x) (λ h. rw h refl) (λ h. rw h refl)

-- x is less than the first identifier of the runs
abbrev IsAbove : List Tuple → List (List Tuple × ℕ) → Type 0
IsAbove x [] = Unit {0}
IsAbove x (r ∷ rs) = ident_lt x r.0 ≡ true

above : (x y : List Tuple) (rs : List (List Tuple × ℕ)) → ident_lt x y ≡ true → BeginsWith y rs → IsAbove x rs
above x y [] h b = tt
above x y (r ∷ rs) h b = ap (ident_lt x) b ∙ h

apart_put : (x : List Tuple) (rs : List (List Tuple × ℕ)) → IsAbove x rs → are_apart None rs ≡ true → are_apart None (put_run x rs) ≡ true
apart_put x [] above h = refl
apart_put x ((y, n) ∷ rs) above h = bool_cases (follows y x) joined alone
  where
    some : nat_lt 0 n ≡ true
    some = and_left (nat_lt 0 n) true (and_left (nat_lt 0 n && true) (are_apart (Some (y, n)) rs) h)

    rest : are_apart (Some (y, n)) rs ≡ true
    rest = and_right (nat_lt 0 n && true) (are_apart (Some (y, n)) rs) h

    same_last : follows y x ≡ true → run_last (x, n + 1) ≡ run_last (y, n)
    same_last f =
        let k : ℤ = pos (n - 1) in
        let e : pos 1 +ℤ k ≡ pos (n + 1 - 1) = omega (arith, ints, lt_is 0 n some) in
        sym (ap (shifted k) (eq_same y (shifted (pos 1) x) f) ∙ shifted_shifted k (pos 1) x ∙ ap (λ z. shifted z x) e)

    moved : (qs : List (List Tuple × ℕ)) → run_last (x, n + 1) ≡ run_last (y, n) → are_apart (Some (y, n)) qs ≡ true → are_apart (Some (x, n + 1)) qs ≡ true
    moved [] e g = refl
    moved (q ∷ qs) e g = ap (λ l. nat_lt 0 q.1 && (ident_lt l q.0 && not (follows q.0 l)) && are_apart (Some q) qs) e ∙ g

    joined : follows y x ≡ true → are_apart None (put_run x ((y, n) ∷ rs)) ≡ true
    joined f = rw f (and_true (nat_lt 0 (n + 1) && true) (are_apart (Some (x, n + 1)) rs) (and_true (nat_lt 0 (n + 1)) true (lt_test 0 (n + 1) (omega arith)) refl) (moved rs (same_last f) rest))

    alone : follows y x ≡ false → are_apart None (put_run x ((y, n) ∷ rs)) ≡ true
    alone f =
        let l : run_last (x, 1) ≡ x = shifted_none x in
        let apart : is_apart (Some (x, 1)) (y, n) ≡ true = ap (λ w. ident_lt w y && not (follows y w)) l ∙ and_true (ident_lt x y) (not (follows y x)) above (ap not f) in
        rw f (and_true (nat_lt 0 n && is_apart (Some (x, 1)) (y, n)) (are_apart (Some (y, n)) rs) (and_true (nat_lt 0 n) (is_apart (Some (x, 1)) (y, n)) some apart) rest)

pub apart_runs : (xs : List (List Tuple)) → is_increasing xs ≡ true → are_apart None (runs_of xs) ≡ true
apart_runs [] h = refl
apart_runs (x ∷ []) h = apart_put x [] tt refl
apart_runs (x ∷ (y ∷ ys)) h =
    apart_put x (runs_of (y ∷ ys)) (above x y (runs_of (y ∷ ys)) (and_left (ident_lt x y) (is_increasing (y ∷ ys)) h) (begins y (runs_of ys))) (apart_runs (y ∷ ys) (and_right (ident_lt x y) (is_increasing (y ∷ ys)) h))

-- ---- what stands after others

pub apart_right : (before : Option (List Tuple × ℕ)) (xs ys : List (List Tuple × ℕ)) → are_apart before (xs ++ ys) ≡ true → are_apart (run_before before xs) ys ≡ true
apart_right before [] ys h = h
apart_right before (x ∷ xs) ys h = apart_right (Some x) xs ys (apart_rest before x (xs ++ ys) h)

-- a run ends below each that stands after it
pub ahead : (r : List Tuple × ℕ) (xs : List (List Tuple × ℕ)) (s : List Tuple × ℕ) (ys : List (List Tuple × ℕ)) → list_all is_run xs ≡ true → are_apart (Some r) (xs ++ s ∷ ys) ≡ true → Lt tuples (run_last r) s.0
ahead r [] s ys i h = (apart_head r s ys h).0
ahead r (x ∷ xs) s ys i h =
    let a = apart_head r x (xs ++ s ∷ ys) h in
    lt_trans (less_shifted (run_last r) x.0 (x.1 - 1) (run_ident x (and_left (is_run x) (list_all is_run xs) i)) a.0) (ahead x xs s ys (and_right (is_run x) (list_all is_run xs) i) a.1)
