-- The place of an identifier among entries, and the runs of entries.
use Rattle.std.proofs.Common.{◌≡◌, ℕ, zero, suc, ◌+◌, ◌<◌, ◌≤◌, Bool, true, false, List, [], ◌∷◌, length, drop, Some, Ok, Err, slice_get, refl, sym, ap, subst, ◌∙◌, arith, not}
use Rattle.std.specs.Prelude.{if◌then◌else◌, is_ok}
use Rattle.std.specs.declared.cmp.Ordering.TheVariants.{Less, Equal, Greater}
use Rattle.std.proofs.lemmas.Cmp.{tied_itself}
use Rattle.rls_ident.specs.declared.tuple.Tuple.{Tuple}
use Rattle.rls_ident.specs.Identifiers.{ident_cmp, follows}
use Rattle.rls_ident.proofs.Lists.{Lt, lt_trans}
use Rattle.rls_ident.proofs.Tuples.{tuples, ident_same, ident_total}
use Rattle.rls_ident.proofs.Members.{get_in, some_is}
use Rattle.rls_runs.specs.Runs.{is_increasing, place_from, place_of, placed, put_run, runs_of}
use Rattle.rls_runs.specs.Entries.{idents_in, has_ident}
use Rattle.rls_runs.proofs.Sorted.{Entry, Rises, above_at, rises_of_increasing}
use Rattle.rls_runs.specs.Places.{find_ident, below_count}

-- after a lesser one
less_at : (n : ℕ) (es : List Entry) (m : ℕ) (e : Entry) (x : List Tuple) → Rises es → slice_get es m ≡ Some e → Lt tuples e.0 x → place_from n x (idents_in es) ≡ place_from (n + suc m) x (idents_in (drop (suc m) es))
less_at n [] m e x r g l = absurd (cc)
less_at n (y ∷ es) zero e x r g l =
    let q : ident_cmp y.0 x ≡ Less = subst (λ (z : Entry). ident_cmp z.0 x ≡ Less) (sym (some_is y e g)) l.less in
    ap (λ o. placed o n (place_from (suc n) x (idents_in es))) q ∙ ap (λ k. place_from k x (idents_in es)) (omega arith)
less_at n (y ∷ es) (suc m) e x r g l =
    let b : Lt tuples y.0 x = lt_trans (above_at y e es r.0 (get_in es m e g)) l in
    ap (λ o. placed o n (place_from (suc n) x (idents_in es))) b.less ∙ less_at (suc n) es m e x r.1 g l ∙ ap (λ k. place_from k x (idents_in (drop (suc m) es))) (omega arith)

same_at : (n : ℕ) (es : List Entry) (m : ℕ) (e : Entry) → Rises es → slice_get es m ≡ Some e → place_from n e.0 (idents_in es) ≡ Ok (n + m)
same_at n [] m e r g = absurd (cc)
same_at n (y ∷ es) zero e r g =
    let s = some_is y e g in
    let q : ident_cmp y.0 e.0 ≡ Equal = subst (λ (z : Entry). ident_cmp y.0 z.0 ≡ Equal) s (tied_itself ident_total y.0) in
    ap (λ o. placed o n (place_from (suc n) e.0 (idents_in es))) q ∙ ap (λ k. Ok k) (omega arith)
same_at n (y ∷ es) (suc m) e r g =
    let b : Lt tuples y.0 e.0 = above_at y e es r.0 (get_in es m e g) in
    ap (λ o. placed o n (place_from (suc n) e.0 (idents_in es))) b.less ∙ same_at (suc n) es m e r.1 g ∙ ap (λ k. Ok k) (omega arith)

pub place_begins : (x : List Tuple) (es : List Entry) → place_from 0 x (idents_in (drop 0 es)) ≡ place_of x (idents_in es)
unfolding place_of
place_begins x es = refl

pub place_behind : (x : List Tuple) (es : List Entry) (m : ℕ) (e : Entry) → is_increasing (idents_in es) ≡ true → slice_get es m ≡ Some e → ident_cmp e.0 x ≡ Less → place_from (m + 1) x (idents_in (drop (m + 1) es)) ≡ place_of x (idents_in es)
unfolding place_of
place_behind x es m e h g q =
    let s : suc m ≡ m + 1 = omega arith in
    ap (λ k. place_from k x (idents_in (drop k es))) (sym s) ∙ ap (λ k. place_from k x (idents_in (drop (suc m) es))) (omega arith) ∙ sym (less_at 0 es m e x (rises_of_increasing es h) g (record { less = q }))

pub place_found : (x : List Tuple) (es : List Entry) (m : ℕ) (e : Entry) → is_increasing (idents_in es) ≡ true → slice_get es m ≡ Some e → ident_cmp e.0 x ≡ Equal → Ok m ≡ place_of x (idents_in es)
unfolding place_of
place_found x es m e h g q = ap (λ k. Ok k) (omega arith) ∙ sym (same_at 0 es m e (rises_of_increasing es h) g) ∙ ap (λ z. place_from 0 z (idents_in es)) (ident_same e.0 x q)

-- nothing is below the first one, from place i on, which is above x
pub place_ends : (x : List Tuple) (es : List Entry) (i : ℕ) → ((e : Entry) → slice_get es i ≡ Some e → ident_cmp e.0 x ≡ Greater) → place_from i x (idents_in (drop i es)) ≡ place_of x (idents_in es) → Err i ≡ place_of x (idents_in es)
place_ends x es i f h = sym (ends i es f) ∙ h
  where
    ends_at : (n : ℕ) (i : ℕ) (es : List Entry) → ((e : Entry) → slice_get es i ≡ Some e → ident_cmp e.0 x ≡ Greater) → place_from n x (idents_in (drop i es)) ≡ Err n
    ends_at n i [] f = nothing i
      where
        nothing : (i : ℕ) → place_from n x (idents_in (drop i [])) ≡ Err n
        nothing zero = refl
        nothing (suc i) = refl
    ends_at n zero (y ∷ es) f = ap (λ o. placed o n (place_from (suc n) x (idents_in es))) (f y refl)
    ends_at n (suc i) (y ∷ es) f = ends_at n i es f

    ends : (i : ℕ) (es : List Entry) → ((e : Entry) → slice_get es i ≡ Some e → ident_cmp e.0 x ≡ Greater) → place_from i x (idents_in (drop i es)) ≡ Err i
    ends i es f = ends_at i i es f

-- ---- runs

-- the first run begins at the identifier put in front
headed : (y : List Tuple) (rs : List (List Tuple × ℕ)) → (n : ℕ) × (qs : List (List Tuple × ℕ)) × (put_run y rs ≡ (y, n) ∷ qs)
headed y [] = (1, [], refl)
headed y ((z, n) ∷ rs) = go (follows z y)
  where
    go : (b : Bool) → (m : ℕ) × (qs : List (List Tuple × ℕ)) × ((if b then (y, n + 1) ∷ rs else (y, 1) ∷ (z, n) ∷ rs) ≡ (y, m) ∷ qs)
    go true = (n + 1, rs, refl)
    go false = (1, (z, n) ∷ rs, refl)

joins : (x y : List Tuple) (n : ℕ) (rs : List (List Tuple × ℕ)) → length (put_run x ((y, n) ∷ rs)) ≡ (if not (follows y x) then 1 else 0) + length ((y, n) ∷ rs)
joins x y n rs = go (follows y x)
  where
    go : (b : Bool) → length (if b then (x, n + 1) ∷ rs else (x, 1) ∷ (y, n) ∷ rs) ≡ (if not b then 1 else 0) + length ((y, n) ∷ rs)
    go true = omega arith
    go false = omega arith

joined_next : (x y : List Tuple) (xs : List (List Tuple)) → length (runs_of (x ∷ (y ∷ xs))) ≡ (if not (follows y x) then 1 else 0) + length (runs_of (y ∷ xs))
joined_next x y xs =
    let h = headed y (runs_of xs) in
    ap (λ rs. length (put_run x rs)) h.2 ∙ joins x y h.0 h.1 ∙ ap (λ rs. (if not (follows y x) then 1 else 0) + length rs) (sym h.2)

pub run_goes_on : (es : List Entry) (i : ℕ) (e next : Entry) → slice_get es i ≡ Some e → slice_get es (i + 1) ≡ Some next → length (runs_of (idents_in (drop i es))) ≡ (if not (follows next.0 e.0) then 1 else 0) + length (runs_of (idents_in (drop (i + 1) es)))
run_goes_on es i e next g h =
    let s : i + 1 ≡ suc i = omega arith in
    at i es g (ap (slice_get es) (sym s) ∙ h) ∙ ap (λ k. (if not (follows next.0 e.0) then 1 else 0) + length (runs_of (idents_in (drop k es)))) (sym s)
  where
    at : (i : ℕ) (es : List Entry) → slice_get es i ≡ Some e → slice_get es (suc i) ≡ Some next → length (runs_of (idents_in (drop i es))) ≡ (if not (follows next.0 e.0) then 1 else 0) + length (runs_of (idents_in (drop (suc i) es)))
    at i [] g h = absurd (cc)
    at zero (x ∷ []) g h = absurd (cc)
    at zero (x ∷ (y ∷ es)) g h =
        let p = some_is x e g in
        let q = some_is y next h in
        joined_next x.0 y.0 (idents_in es) ∙ ap (λ (z : Entry). (if not (follows z.0 x.0) then 1 else 0) + length (runs_of (idents_in (y ∷ es)))) q ∙ ap (λ (z : Entry). (if not (follows next.0 z.0) then 1 else 0) + length (runs_of (idents_in (y ∷ es)))) p
    at (suc i) (x ∷ es) g h = at i es g h

pub run_ends : (es : List Entry) (i : ℕ) → i < length es → length es ≤ i + 1 → length (runs_of (idents_in (drop i es))) ≡ 1 + length (runs_of (idents_in (drop (i + 1) es)))
run_ends es i g h =
    let s : suc i ≡ i + 1 = omega arith in
    at i es g h ∙ ap (λ k. 1 + length (runs_of (idents_in (drop k es)))) s
  where
    at : (i : ℕ) (es : List Entry) → i < length es → length es ≤ i + 1 → length (runs_of (idents_in (drop i es))) ≡ 1 + length (runs_of (idents_in (drop (suc i) es)))
    at i [] g h = absurd (omega arith)
    at zero (x ∷ []) g h = refl
    at zero (x ∷ (y ∷ es)) g h = absurd (omega arith)
    at (suc i) (x ∷ es) g h = at i es (omega arith) (omega arith)

-- ---- whether it is there

-- where an identifier is found
pub found_known : (xs : List (List Tuple)) (x : List Tuple) → is_ok (find_ident xs x) ≡ has_ident xs x
found_known xs x = go (has_ident xs x)
  where
    go : (b : Bool) → is_ok (if b then Ok (below_count xs x) else Err (below_count xs x)) ≡ b
    go true = refl
    go false = refl
