-- Rows with and without the own one.
use Rattle.std.proofs.Common.{◌≡◌, ℕ, zero, suc, ◌+◌, ◌<◌, ◌≤◌, ◌==◌, ◌++◌, List, [], ◌∷◌, length, get_or, refl, sym, ap, ◌∙◌, arith, if◌then◌else◌, length-append, append-nil, take, ⊎_elim}
use Rattle.std.proofs.lemmas.List.{get_or_append_left, get_or_push, take_all, take_more}
use Rattle.std.proofs.lemmas.Bool.{cases_lt}
use Rattle.rls_ident.proofs.Members.{bool_cases, eq_is, eq_not}
use Rattle.rls_ops.specs.Rows.{HaveLength}
use Rattle.rls_parts.specs.Restored.{with_own}

-- ---- the own row is put in

pub length-own : (me : ℕ) (own : List ℕ) (rows : List (List ℕ)) → me ≤ length rows → length (with_own me own rows) ≡ suc (length rows)
length-own zero own rows h = refl
length-own (suc me) own [] h = absurd (omega arith)
length-own (suc me) own (row ∷ rows) h = ap suc (length-own me own rows (omega arith))

pub own_lengths : (n me : ℕ) (own : List ℕ) (rows : List (List ℕ)) → length own ≡ n → HaveLength n rows → HaveLength n (with_own me own rows)
own_lengths n zero own rows e h = (e, h)
own_lengths n (suc me) own [] e h = tt
own_lengths n (suc me) own (row ∷ rows) e h = (h.0, own_lengths n me own rows e h.1)

-- each row before it stays at its place, and each after it is at the next one
pub own_before : (me : ℕ) (own : List ℕ) (rows : List (List ℕ)) (a : ℕ) → a < me → get_or (with_own me own rows) a [] ≡ get_or rows a []
own_before zero own rows a h = absurd (omega arith)
own_before (suc me) own [] a h = refl
own_before (suc me) own (row ∷ rows) zero h = refl
own_before (suc me) own (row ∷ rows) (suc a) h = own_before me own rows a (omega arith)

pub own_behind : (me : ℕ) (own : List ℕ) (rows : List (List ℕ)) (b : ℕ) → me ≤ b → get_or (with_own me own rows) (suc b) [] ≡ get_or rows b []
own_behind zero own rows b h = refl
own_behind (suc me) own [] b h = refl
own_behind (suc me) own (row ∷ rows) zero h = absurd (omega arith)
own_behind (suc me) own (row ∷ rows) (suc b) h = own_behind me own rows b (omega arith)

-- ---- it is left out

-- the list without what stands at this place
abbrev pub without_at : ℕ → List (List ℕ) → List (List ℕ)
without_at me [] = []
without_at zero (row ∷ rows) = rows
without_at (suc me) (row ∷ rows) = row ∷ without_at me rows

-- what was put in is left out again
pub without_own : (me : ℕ) (own : List ℕ) (rows : List (List ℕ)) → me ≤ length rows → without_at me (with_own me own rows) ≡ rows
without_own zero own rows h = refl
without_own (suc me) own [] h = absurd (omega arith)
without_own (suc me) own (row ∷ rows) h = ap (λ rs. row ∷ rs) (without_own me own rows (omega arith))

without_none : (me : ℕ) (rows : List (List ℕ)) → length rows ≤ me → without_at me rows ≡ rows
without_none me [] h = refl
without_none zero (row ∷ rows) h = absurd (omega arith)
without_none (suc me) (row ∷ rows) h = ap (λ rs. row ∷ rs) (without_none me rows (omega arith))

without_last : (rows : List (List ℕ)) (row : List ℕ) → without_at (length rows) (rows ++ row ∷ []) ≡ rows
without_last [] row = refl
without_last (x ∷ rows) row = ap (λ rs. x ∷ rs) (without_last rows row)

without_push : (me : ℕ) (rows : List (List ℕ)) (row : List ℕ) → me < length rows → without_at me (rows ++ row ∷ []) ≡ without_at me rows ++ row ∷ []
without_push me [] row h = absurd (omega arith)
without_push zero (x ∷ rows) row h = refl
without_push (suc me) (x ∷ rows) row h = ap (λ rs. x ∷ rs) (without_push me rows row (omega arith))

pub length-without_at : (me : ℕ) (rows : List (List ℕ)) → me < length rows → suc (length (without_at me rows)) ≡ length rows
length-without_at me [] h = absurd (omega arith)
length-without_at zero (x ∷ rows) h = refl
length-without_at (suc me) (x ∷ rows) h = ap suc (length-without_at me rows (omega arith))

-- and with another one put in, the others are as before
pub own_other : (me : ℕ) (own : List ℕ) (rows : List (List ℕ)) (a : ℕ) → (a ≡ me → ⊥) → get_or (with_own me own (without_at me rows)) a [] ≡ get_or rows a []
own_other zero own [] zero h = absurd (h refl)
own_other zero own [] (suc a) h = refl
own_other (suc me) own [] a h = refl
own_other zero own (x ∷ rows) zero h = absurd (h refl)
own_other zero own (x ∷ rows) (suc a) h = refl
own_other (suc me) own (x ∷ rows) zero h = refl
own_other (suc me) own (x ∷ rows) (suc a) h = own_other me own rows a (λ e. h (ap suc e))

-- ---- the rows of the members below n

-- all of them
abbrev pub rows_below : (ℕ → List ℕ) → ℕ → List (List ℕ)
rows_below f zero = []
rows_below f (suc n) = rows_below f n ++ f n ∷ []

-- all but the own one
abbrev pub others_below : (ℕ → List ℕ) → ℕ → ℕ → List (List ℕ)
others_below f me zero = []
others_below f me (suc n) = others_below f me n ++ (if n == me then [] else f n ∷ [])

pub length-rows_below : (f : ℕ → List ℕ) (n : ℕ) → length (rows_below f n) ≡ n
length-rows_below f zero = refl
length-rows_below f (suc n) = let h = length-rows_below f n in let k = length-append (rows_below f n) (f n ∷ []) in omega arith

pub row_below : (f : ℕ → List ℕ) (n a : ℕ) → a < n → get_or (rows_below f n) a [] ≡ f a
row_below f zero a h = absurd (omega arith)
row_below f (suc n) a h =
    bool_cases (a == n)
    (λ e. let q = eq_is a n e in get_or_push (rows_below f n) (f n) [] a (length-rows_below f n ∙ sym q) ∙ ap f (sym q))
    (λ e. let l : a < n = let q = eq_not a n e in let x : (a ≡ n) → ⊥ = q in omega arith in
    get_or_append_left (rows_below f n) (f n ∷ []) [] a (let k = length-rows_below f n in omega arith) ∙ row_below f n a l)

pub others_are : (f : ℕ → List ℕ) (me n : ℕ) → others_below f me n ≡ without_at me (rows_below f n)
others_are f me zero = refl
others_are f me (suc n) =
    let l = length-rows_below f n in
    ap (λ rs. rs ++ (if n == me then [] else f n ∷ [])) (others_are f me n)
    ∙ bool_cases (n == me)
    (λ e. let q = eq_is n me e in
    ap (λ b. without_at me (rows_below f n) ++ (if b then [] else f n ∷ [])) e
    ∙ (append-nil (without_at me (rows_below f n))
    ∙ (without_none me (rows_below f n) (omega arith)
    ∙ (sym (without_last (rows_below f n) (f n)) ∙ ap (λ k. without_at k (rows_below f n ++ f n ∷ [])) (l ∙ q)))))
    (λ e. let q = eq_not n me e in
    ap (λ b. without_at me (rows_below f n) ++ (if b then [] else f n ∷ [])) e ∙ at n l (λ x. q (sym x)))
  where
    at : (m : ℕ) → length (rows_below f n) ≡ m → (me ≡ m → ⊥) → without_at me (rows_below f n) ++ f n ∷ [] ≡ without_at me (rows_below f n ++ f n ∷ [])
    at m l q =
        let k = length-append (rows_below f n) (f n ∷ []) in
        ⊎_elim (λ h. sym (without_push me (rows_below f n) (f n) (omega arith)))
        (λ h. let b : m < me = omega arith in
        ap (λ rs. rs ++ f n ∷ []) (without_none me (rows_below f n) (omega arith)) ∙ sym (without_none me (rows_below f n ++ f n ∷ []) (omega arith)))
        (cases_lt me m)

-- where the rows of the others are the same
pub others_same : (f g : ℕ → List ℕ) (me n : ℕ) → ((a : ℕ) → a < n → (a ≡ me → ⊥) → f a ≡ g a) → others_below f me n ≡ others_below g me n
others_same f g me zero h = refl
others_same f g me (suc n) h =
    ap (λ rs. rs ++ (if n == me then [] else f n ∷ [])) (others_same f g me n (λ a l q. h a (omega arith) q))
    ∙ bool_cases (n == me)
    (λ e. ap (λ b. others_below g me n ++ (if b then [] else f n ∷ [])) e ∙ sym (ap (λ b. others_below g me n ++ (if b then [] else g n ∷ [])) e))
    (λ e. ap (λ r. others_below g me n ++ (if n == me then [] else r ∷ [])) (h n (omega arith) (eq_not n me e)))

-- all of a list
pub all_below : (rows : List (List ℕ)) (n : ℕ) → n ≡ length rows → rows_below (λ a. get_or rows a []) n ≡ rows
all_below rows n e = front n (omega arith) ∙ take_all n rows (omega arith)
  where
    front : (m : ℕ) → m ≤ length rows → rows_below (λ a. get_or rows a []) m ≡ take m rows
    front zero h = refl
    front (suc m) h =
        let one : m + 1 ≡ suc m = omega arith in
        ap (λ rs. rs ++ get_or rows m [] ∷ []) (front m (omega arith)) ∙ (sym (take_more rows m [] (omega arith)) ∙ ap (λ k. take k rows) one)
