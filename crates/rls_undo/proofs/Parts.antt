-- Runs that are translated as parts of a longer one.
use Rattle.std.proofs.Common.{◌≡◌, ◌∙◌, ℕ, zero, suc, ◌+◌, ◌<◌, List, [], ◌∷◌, map, length, Some, Err, refl, sym, ap, arith}
use Rattle.std.specs.Prelude.{pos, slice_get, option_map, IsErrOf}
use Rattle.std.proofs.lemmas.List.{append-nil, length-map}
use Rattle.std.proofs.lemmas.Option.{slice_get-map}
use Rattle.rls_ident.specs.declared.tuple.Tuple.{Tuple}
use Rattle.rls_ident.specs.Identifiers.{shifted}
use Rattle.rls_ident.proofs.Members.{some_is}
use Rattle.rls_runs.specs.Runs.{idents_of, run_idents, runs_of}
use Rattle.rls_runs.proofs.Finding.{run_length}
use Rattle.rls_runs.proofs.RunOrder.{run_gets}
use Rattle.rls_runs.proofs.RunsOf.{idents_of_runs}
use Rattle.rls_replica.proofs.Fronts.{moved}
use Rattle.rls_undo.specs.Translations.{LiesAt}

run_there : (f : List Tuple → List Tuple) (a h : List Tuple) (n from place : ℕ) → ((k : ℕ) → k < n → shifted (pos (from + k)) a ≡ f (shifted (pos (place + k)) h))
    → run_idents (shifted (pos from) a) n ≡ map f (run_idents (shifted (pos place) h) n)
run_there f a h zero from place e = refl
run_there f a h (suc n) from place e =
    let left : from ≡ from + 0 = omega arith in
    let right : place + 0 ≡ place = omega arith in
    let first : shifted (pos from) a ≡ f (shifted (pos place) h) = ap (λ k. shifted (pos k) a) left ∙ (e 0 (omega arith) ∙ ap (λ k. f (shifted (pos k) h)) right) in
    let next : (k : ℕ) → k < n → shifted (pos (from + 1 + k)) a ≡ f (shifted (pos (place + 1 + k)) h) = λ k l.
    let p : from + 1 + k ≡ from + suc k = omega arith in
    let q : place + suc k ≡ place + 1 + k = omega arith in
    ap (λ j. shifted (pos j) a) p ∙ (e (suc k) (omega (arith, l)) ∙ ap (λ j. f (shifted (pos j) h)) q) in
    let rest : run_idents (shifted (pos 1) (shifted (pos from) a)) n ≡ map f (run_idents (shifted (pos 1) (shifted (pos place) h)) n) =
    ap (λ y. run_idents y n) (moved from 1 a) ∙ (run_there f a h n (from + 1) (place + 1) next ∙ sym (ap (λ y. map f (run_idents y n)) (moved place 1 h))) in
    ap (λ y. y ∷ run_idents (shifted (pos 1) (shifted (pos from) a)) n) first ∙ ap (λ ys. f (shifted (pos place) h) ∷ ys) rest

-- a part of what a run was translated to, from a place on, is that of the identifiers there
pub part_there : (f : List Tuple → List Tuple) (r : List Tuple × ℕ) (xs : List (List Tuple)) (x a : List Tuple) (n from place : ℕ) → xs ≡ map f (run_idents r.0 r.1) → LiesAt r x n place
    → ((k : ℕ) → k < n → slice_get xs (place + k) ≡ Some (shifted (pos (from + k)) a)) → run_idents (shifted (pos from) a) n ≡ map f (run_idents x n)
part_there f r xs x a n from place e l g =
    run_there f a r.0 n from place (λ k h.
    let within : place + k < r.1 = omega (arith, h, l.within) in
    some_is (shifted (pos (from + k)) a) (f (shifted (pos (place + k)) r.0))
    (sym (g k h) ∙ (ap (λ ys. slice_get ys (place + k)) e ∙ (slice_get-map f (run_idents r.0 r.1) (place + k) ∙ ap (option_map f) (run_gets r.0 r.1 (place + k) within)))))
    ∙ ap (λ y. map f (run_idents y n)) (sym l.first)

-- as many as before
pub as_many : (f : List Tuple → List Tuple) (r : List Tuple × ℕ) (xs : List (List Tuple)) → xs ≡ map f (run_idents r.0 r.1) → length xs ≡ r.1
as_many f r xs e = ap length e ∙ (length-map (run_idents r.0 r.1) f ∙ run_length r.0 r.1)

-- where one identifier is
pub one_there : (f : List Tuple → List Tuple) (x y : List Tuple) (n : ℕ) → run_idents y n ≡ map f (run_idents x 1) → y ≡ f x
one_there f x y zero e = absurd cc
one_there f x y (suc n) e = cc

only_one : (rs : List (List Tuple × ℕ)) (r : List Tuple × ℕ) → length rs ≡ 1 → slice_get rs 0 ≡ Some r → rs ≡ r ∷ []
only_one [] r l e = absurd (omega arith)
only_one (q ∷ []) r l e = cc
only_one (q ∷ (p ∷ rs)) r l e = absurd (omega arith)

-- a list of one run
pub one_run : (xs : List (List Tuple)) (r : List Tuple × ℕ) → length (runs_of xs) ≡ 1 → slice_get (runs_of xs) 0 ≡ Some r → xs ≡ run_idents r.0 r.1
one_run xs r l e = sym (idents_of_runs xs) ∙ (ap idents_of (only_one (runs_of xs) r l e) ∙ append-nil (run_idents r.0 r.1))

-- an error that is handed on
pub err_as : {T U E : Type 0} (x y : E) → IsErrOf {T = T} {E = E} (Err x) y → IsErrOf {T = U} {E = E} (Err x) y
err_as x y h = let e : x ≡ y = cc in ap (λ z. Err z) e
