-- Lists of identifiers and their maximal runs.
use Rattle.std.proofs.Common.{◌≡◌, ℕ, zero, suc, ◌+◌, ◌<◌, Bool, true, false, cond, List, [], ◌∷◌, ◌++◌, length, Option, Some, refl, sym, ap, subst, ◌∙◌, arith, add-one}
use Rattle.std.specs.Prelude.{pos, not, ◌&&◌, nat_lt}
use Rattle.std.specs.Ordering.{is_eq}
use Rattle.std.proofs.lemmas.Int.{ints}
use Rattle.std.proofs.lemmas.Cmp.{lists_total, tied_itself}
use Rattle.std.proofs.lemmas.Bool.{and_parts, and_from}
use Rattle.rls_ident.specs.declared.tuple.Tuple.{Tuple}
use Rattle.rls_ident.specs.Identifiers.{shifted, follows, ident_lt}
use Rattle.rls_ident.proofs.Shifted.{shifted_none}
pub use Rattle.rls_ident.proofs.Shifted.{shifted_shifted, shifted_none as shifted_zero}
use Rattle.rls_ident.proofs.Tuples.{tuple_total}
use Rattle.rls_ident.proofs.Ends.{eq_same}
use Rattle.rls_ident.proofs.Members.{not_is}
use Rattle.rls_runs.specs.Runs.{run_idents, put_run, runs_of, is_apart, run_last, idents_of, are_apart, run_before}

pub follows_next : (x : List Tuple) → follows (shifted (pos 1) x) x ≡ true
follows_next x = ap is_eq (tied_itself (lists_total tuple_total) (shifted (pos 1) x))

-- ---- runs that don't touch are the maximal ones

-- the first of these runs, if there is one, isn't right after x
abbrev pub IsFree : List Tuple → List (List Tuple × ℕ) → Type 0
IsFree x [] = Unit {0}
IsFree x (r ∷ rs) = follows r.0 x ≡ false

put_alone : (x : List Tuple) (rs : List (List Tuple × ℕ)) → IsFree x rs → put_run x rs ≡ (x, 1) ∷ rs
put_alone x [] free = refl
put_alone x ((y, n) ∷ rs) free = ap (λ b. cond b ((x, n + 1) ∷ rs) ((x, 1) ∷ (y, n) ∷ rs)) free

put_before : (x y : List Tuple) (n : ℕ) (rs : List (List Tuple × ℕ)) → follows y x ≡ true → put_run x ((y, n) ∷ rs) ≡ (x, n + 1) ∷ rs
put_before x y n rs e = ap (λ b. cond b ((x, n + 1) ∷ rs) ((x, 1) ∷ (y, n) ∷ rs)) e

pub runs_of_run : (n : ℕ) (x : List Tuple) (tail : List (List Tuple)) (rs : List (List Tuple × ℕ)) → runs_of tail ≡ rs → IsFree (shifted (pos n) x) rs → runs_of (run_idents x (suc n) ++ tail) ≡ (x, suc n) ∷ rs
runs_of_run zero x tail rs e free = ap (put_run x) e ∙ put_alone x rs (subst (λ y. IsFree y rs) (shifted_none x) free)
runs_of_run (suc n) x tail rs e free =
    let there : shifted (pos n) (shifted (pos 1) x) ≡ shifted (pos (suc n)) x = shifted_shifted (pos n) (pos 1) x ∙ ap (λ z. shifted z x) (omega (arith, ints)) in
    let rest : runs_of (run_idents (shifted (pos 1) x) (suc n) ++ tail) ≡ (shifted (pos 1) x, suc n) ∷ rs = runs_of_run n (shifted (pos 1) x) tail rs e (subst (λ y. IsFree y rs) (sym there) free) in
    ap (put_run x) rest ∙ put_before x (shifted (pos 1) x) (suc n) rs (follows_next x) ∙ ap (λ k. (x, k) ∷ rs) (omega arith)

pub free_of : (r : List Tuple × ℕ) (rs : List (List Tuple × ℕ)) → are_apart (Some r) rs ≡ true → IsFree (run_last r) rs
free_of r [] c = tt
free_of r (s ∷ rs) c =
    let p = and_parts (nat_lt 0 s.1 && is_apart (Some r) s) (are_apart (Some s) rs) c in
    let q = and_parts (nat_lt 0 s.1) (is_apart (Some r) s) p.0 in
    not_is (follows s.0 (run_last r)) (and_parts (ident_lt (run_last r) s.0) (not (follows s.0 (run_last r))) q.1).1

pub runs_of_idents : (before : Option (List Tuple × ℕ)) (rs : List (List Tuple × ℕ)) → are_apart before rs ≡ true → runs_of (idents_of rs) ≡ rs
runs_of_idents before [] c = refl
runs_of_idents before ((x, zero) ∷ rs) c = absurd cc
runs_of_idents before ((x, suc n) ∷ rs) c =
    let p = and_parts (nat_lt 0 (suc n) && is_apart before (x, suc n)) (are_apart (Some (x, suc n)) rs) c in
    runs_of_run n x (idents_of rs) rs (runs_of_idents (Some (x, suc n)) rs p.1) (subst (λ k. IsFree (shifted (pos k) x) rs) (omega arith) (free_of (x, suc n) rs p.1))

-- one more run after these
pub apart_more : (before : Option (List Tuple × ℕ)) (rs : List (List Tuple × ℕ)) (r : List Tuple × ℕ) → are_apart before rs ≡ true → nat_lt 0 r.1 ≡ true → is_apart (run_before before rs) r ≡ true → are_apart before (rs ++ r ∷ []) ≡ true
apart_more before [] r h n a = and_from (nat_lt 0 r.1 && is_apart before r) true (and_from (nat_lt 0 r.1) (is_apart before r) n a) refl
apart_more before (q ∷ rs) r h n a =
    let p = and_parts (nat_lt 0 q.1 && is_apart before q) (are_apart (Some q) rs) h in
    and_from (nat_lt 0 q.1 && is_apart before q) (are_apart (Some q) (rs ++ r ∷ [])) p.0 (apart_more (Some q) rs r p.1 n a)

pub run_before_pushed : (before : Option (List Tuple × ℕ)) (rs : List (List Tuple × ℕ)) (r : List Tuple × ℕ) → run_before before (rs ++ r ∷ []) ≡ Some r
run_before_pushed before [] r = refl
run_before_pushed before (q ∷ rs) r = run_before_pushed (Some q) rs r

put_idents : (x : List Tuple) (rs : List (List Tuple × ℕ)) → idents_of (put_run x rs) ≡ x ∷ idents_of rs
put_idents x [] = refl
put_idents x ((y, n) ∷ rs) = go (follows y x) refl
  where
    go : (b : Bool) → follows y x ≡ b → idents_of (cond b ((x, n + 1) ∷ rs) ((x, 1) ∷ (y, n) ∷ rs)) ≡ x ∷ run_idents y n ++ idents_of rs
    go true e = rw add-one (ap (λ z. x ∷ run_idents z n ++ idents_of rs) (sym (eq_same y (shifted (pos 1) x) e)))
    go false e = refl

-- the identifiers of the maximal runs
pub idents_of_runs : (xs : List (List Tuple)) → idents_of (runs_of xs) ≡ xs
idents_of_runs [] = refl
idents_of_runs (x ∷ xs) = put_idents x (runs_of xs) ∙ ap (λ ys. x ∷ ys) (idents_of_runs xs)

-- a list with an identifier has a run
pub some_runs : (xs : List (List Tuple)) → 0 < length xs → 0 < length (runs_of xs)
some_runs [] h = h
some_runs (x ∷ xs) h = grind arith
