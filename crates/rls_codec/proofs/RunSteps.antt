-- Runs put one after the other, as reading a list of them does.
use Rattle.std.proofs.Common.{◌≡◌, ℕ, zero, suc, ◌+◌, ◌-◌, ◌^◌, ◌<◌, ◌≤◌, true, false, List, [], ◌∷◌, ◌++◌, length, Some, None, Result, Ok, Err, refl, sym, ap, ◌∙◌, arith}
use Rattle.std.specs.Prelude.{pos, nat_lt, not, ◌&&◌}
use Rattle.std.specs.Int.{w32}
use Rattle.std.proofs.lemmas.Int.{ints}
use Rattle.std.proofs.lemmas.List.{append-nil, length-append}
use Rattle.rls_ident.specs.declared.tuple.Tuple.{Tuple}
use Rattle.rls_ident.specs.Identifiers.{shifted}
use Rattle.rls_ident.proofs.Members.{bool_cases, and_left, and_right, not_true, lt_is}
use Rattle.rls_runs.specs.Runs.{run_idents, runs_of, run_last, is_apart, are_apart, idents_of, run_before}
use Rattle.rls_runs.specs.Places.{last_ident, is_above, touches}
use Rattle.rls_runs.proofs.RunsOf.{shifted_zero, shifted_shifted, runs_of_idents, apart_more, run_before_pushed, idents_of_runs}
use Rattle.rls_runs.proofs.RunJoins.{idents_pushed}
use Rattle.rls_runs.proofs.Finding.{run_length}
use Rattle.rls_codec.specs.declared.fault.ReadError.{ReadError}
use Rattle.rls_codec.specs.declared.fault.ReadError.TheVariants.{Fault}
use Rattle.rls_codec.specs.declared.fault.ReadError.TheVariants as faults
use Rattle.rls_codec.specs.Gives.{Fails, PutsRun}
use Rattle.rls_codec.specs.Reading.{Read, number_at, run_at, next_run_at, chain_at, runs_at}
use Rattle.rls_codec.proofs.Loop.{with_front, goes_on, ends, is_done}

-- ---- the last identifier of runs

last_append : (xs ys : List (List Tuple)) (y : List Tuple) → last_ident ys ≡ Some y → last_ident (xs ++ ys) ≡ Some y
last_append [] ys y e = e
last_append (x ∷ []) [] y e = absurd cc
last_append (x ∷ []) (z ∷ ys) y e = e
last_append (x ∷ (w ∷ xs)) ys y e = last_append (w ∷ xs) ys y e

last_of_run : (n : ℕ) (x : List Tuple) → last_ident (run_idents x (suc n)) ≡ Some (shifted (pos n) x)
last_of_run zero x = ap (λ y. Some y) (sym (shifted_zero x))
last_of_run (suc n) x = last_of_run n (shifted (pos 1) x) ∙ ap (λ y. Some y) (shifted_shifted (pos n) (pos 1) x ∙ ap (λ z. shifted z x) (omega (arith, ints)))

run_ends : (r : List Tuple × ℕ) → nat_lt 0 r.1 ≡ true → last_ident (run_idents r.0 r.1) ≡ Some (run_last r)
run_ends (x, zero) h = absurd (omega (arith, lt_is 0 0 h))
run_ends (x, suc n) h = last_of_run n x ∙ ap (λ k. Some (shifted (pos k) x)) (omega arith)

-- the last of these runs
abbrev end_of : List Tuple × ℕ → List (List Tuple × ℕ) → List Tuple × ℕ
end_of q [] = q
end_of q (r ∷ rs) = end_of r rs

before_is : (q : List Tuple × ℕ) (rs : List (List Tuple × ℕ)) → run_before (Some q) rs ≡ Some (end_of q rs)
before_is q [] = refl
before_is q (r ∷ rs) = before_is r rs

last_of_runs : (q : List Tuple × ℕ) (rs : List (List Tuple × ℕ)) → nat_lt 0 q.1 ≡ true → are_apart (Some q) rs ≡ true → last_ident (idents_of (q ∷ rs)) ≡ Some (run_last (end_of q rs))
last_of_runs q [] n h = ap last_ident (append-nil (run_idents q.0 q.1)) ∙ run_ends q n
last_of_runs q (r ∷ rs) n h =
    let a = and_left (nat_lt 0 r.1 && is_apart (Some q) r) (are_apart (Some r) rs) h in
    last_append (run_idents q.0 q.1) (idents_of (r ∷ rs)) (run_last (end_of r rs)) (last_of_runs r rs (and_left (nat_lt 0 r.1) (is_apart (Some q) r) a) (and_right (nat_lt 0 r.1 && is_apart (Some q) r) (are_apart (Some r) rs) h))

-- the test of a run after these, by their last identifier
tests_apart : (rs : List (List Tuple × ℕ)) (r : List Tuple × ℕ) → are_apart None rs ≡ true → is_apart (run_before None rs) r ≡ (is_above (last_ident (idents_of rs)) r.0 && not (touches (last_ident (idents_of rs)) r.0))
tests_apart [] r h = refl
tests_apart (q ∷ rs) r h =
    let some = and_left (nat_lt 0 q.1) true (and_left (nat_lt 0 q.1 && true) (are_apart (Some q) rs) h) in
    let last = last_of_runs q rs some (and_right (nat_lt 0 q.1 && true) (are_apart (Some q) rs) h) in
    rw (before_is q rs, last) refl

apart_is : (xs : List (List Tuple)) (r : List Tuple × ℕ) → are_apart None (runs_of xs) ≡ true → is_apart (run_before None (runs_of xs)) r ≡ (is_above (last_ident xs) r.0 && not (touches (last_ident xs) r.0))
apart_is xs r h = tests_apart (runs_of xs) r h ∙ ap (λ ys. is_above (last_ident ys) r.0 && not (touches (last_ident ys) r.0)) (idents_of_runs xs)

-- ---- one more run

module _ (xs : List (List Tuple)) (r : List Tuple × ℕ) (bytes rest : List ℕ) (h : are_apart None (runs_of xs) ≡ true) (e : run_at bytes ≡ Ok (r, rest)) where
  read_ok : is_apart (run_before None (runs_of xs)) r ≡ true → next_run_at (run_before None (runs_of xs)) bytes ≡ Ok (r, rest)
  read_ok a = rw (e, a) refl

  read_bad : is_apart (run_before None (runs_of xs)) r ≡ false → next_run_at (run_before None (runs_of xs)) bytes ≡ Err (length bytes)
  read_bad a = rw (e, a) refl

  -- the run isn't above the last identifier
  pub below_fails : is_above (last_ident xs) r.0 ≡ false → next_run_at (run_before None (runs_of xs)) bytes ≡ Err (length bytes)
  below_fails f = read_bad (apart_is xs r h ∙ ap (λ b. b && not (touches (last_ident xs) r.0)) f)

  -- it touches it
  pub touching_fails : is_above (last_ident xs) r.0 ≡ true → touches (last_ident xs) r.0 ≡ true → next_run_at (run_before None (runs_of xs)) bytes ≡ Err (length bytes)
  touching_fails f t = read_bad (apart_is xs r h ∙ ap (λ b. b && not (touches (last_ident xs) r.0)) f ∙ ap not t)

  -- it is put after the others
  pub put_run_behind : (ys : List (List Tuple)) → nat_lt 0 r.1 ≡ true → r.1 < 2 ^ 32 → ys ≡ xs ++ run_idents r.0 r.1 → (is_above (last_ident xs) r.0 ≡ false → ⊥) → (is_above (last_ident xs) r.0 ≡ true → touches (last_ident xs) r.0 ≡ true → ⊥) → PutsRun xs ys bytes rest
  put_run_behind ys some short put not_above not_touching =
      let above : is_above (last_ident xs) r.0 ≡ true = bool_cases (is_above (last_ident xs) r.0) (λ b. b) (λ b. absurd (not_above b)) in
      let free : touches (last_ident xs) r.0 ≡ false = not_true (touches (last_ident xs) r.0) (not_touching above) in
      let a : is_apart (run_before None (runs_of xs)) r ≡ true = apart_is xs r h ∙ ap (λ b. b && not (touches (last_ident xs) r.0)) above ∙ ap not free in
      let more : are_apart None (runs_of xs ++ r ∷ []) ≡ true = apart_more None (runs_of xs) r h some a in
      let is : ys ≡ idents_of (runs_of xs ++ r ∷ []) = put ∙ ap (λ zs. zs ++ run_idents r.0 r.1) (sym (idents_of_runs xs)) ∙ sym (idents_pushed (runs_of xs) r) in
      let runs : runs_of ys ≡ runs_of xs ++ r ∷ [] = ap runs_of is ∙ runs_of_idents None (runs_of xs ++ r ∷ []) more in
      record {
        run = r;
        read = read_ok a;
        runs = runs;
        apart = ap (are_apart None) runs ∙ more;
        few = omega (arith, short, ap length put, length-append xs (run_idents r.0 r.1), run_length r.0 r.1);
      }

-- ---- many runs

-- the runs so far and what is still read give what all of it gives
abbrev pub RunsSoFar : List (List Tuple) → ℕ → List ℕ → Read (List (List Tuple × ℕ)) → Type 0
RunsSoFar xs n bytes total = with_front (runs_of xs) (chain_at next_run_at (run_before None (runs_of xs)) n bytes) ≡ total

pub one_run : (xs ys : List (List Tuple)) (count i : ℕ) (bytes rest : List ℕ) (total : Read (List (List Tuple × ℕ))) → i < count → PutsRun xs ys bytes rest → RunsSoFar xs (count - i) bytes total → RunsSoFar ys (count - (i + 1)) rest total
one_run xs ys count i bytes rest total lt p so_far =
    let before = run_before_pushed None (runs_of xs) p.run in
    ap (λ rs. with_front rs (chain_at next_run_at (run_before None rs) (count - (i + 1)) rest)) p.runs
    ∙ ap (λ b. with_front (runs_of xs ++ p.run ∷ []) (chain_at next_run_at b (count - (i + 1)) rest)) before
    ∙ goes_on next_run_at (runs_of xs) (run_before None (runs_of xs)) count i bytes p.run rest total lt p.read so_far

pub no_run : (e : ReadError) (xs : List (List Tuple)) (count i : ℕ) (bytes : List ℕ) (total : Read (List (List Tuple × ℕ))) → i < count → Fails e (next_run_at (run_before None (runs_of xs)) bytes) → RunsSoFar xs (count - i) bytes total → Fails e total
no_run e xs count i bytes total lt f so_far = ends next_run_at e (runs_of xs) (run_before None (runs_of xs)) count i bytes total lt f so_far

pub all_runs : (xs : List (List Tuple)) (count i : ℕ) (bytes : List ℕ) (total : Read (List (List Tuple × ℕ))) → count ≤ i → RunsSoFar xs (count - i) bytes total → total ≡ Ok (runs_of xs, bytes)
all_runs xs count i bytes total le so_far = is_done next_run_at (runs_of xs) (run_before None (runs_of xs)) count i bytes total le so_far

-- a number of runs and the runs, as the list of their identifiers
pub counted_runs : (bytes rest after : List ℕ) (count : ℕ) (xs : List (List Tuple)) → number_at w32 bytes ≡ Ok (count, rest) → chain_at next_run_at None count rest ≡ Ok (runs_of xs, after) → runs_at bytes ≡ Ok (xs, after)
unfolding runs_at
counted_runs bytes rest after count xs e f = rw (e, f) (ap (λ ys. Ok (ys, after)) (idents_of_runs xs))

pub counted_fails : (e : ReadError) (bytes rest : List ℕ) (count : ℕ) → number_at w32 bytes ≡ Ok (count, rest) → Fails e (chain_at next_run_at None count rest) → Fails e (runs_at bytes)
unfolding runs_at
counted_fails faults.OutOfMemory bytes rest count e f = tt
counted_fails (Fault left) bytes rest count e f = rw (e, f) refl

pub count_fails : (e : ReadError) (bytes : List ℕ) → Fails e (number_at w32 bytes) → Fails e (runs_at bytes)
unfolding runs_at
count_fails faults.OutOfMemory bytes f = tt
count_fails (Fault left) bytes f = rw f refl

pub ok_err : {A E : Type 0} (r : Result A E) (x : A) (e : E) → r ≡ Ok x → r ≡ Err e → ⊥
ok_err r x e p q = let h = sym p ∙ q in cc
