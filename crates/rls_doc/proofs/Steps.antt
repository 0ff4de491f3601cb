-- One entry more, in a pass over entries.
use Rattle.std.proofs.Common.{◌≡◌, ℕ, zero, suc, ◌+◌, ◌<◌, true, List, [], ◌∷◌, ◌++◌, length, map, take, get_or, Some, slice_get, refl, ap, ◌∙◌, arith}
use Rattle.std.specs.Prelude.{None, Option}
use Rattle.std.specs.List.{list_all}
use Rattle.std.proofs.lemmas.Option.{slice_get_read}
use Rattle.rls_ident.specs.declared.tuple.Tuple.{Tuple}
use Rattle.rls_ident.specs.Identifiers.{is_ident}
use Rattle.rls_ident.proofs.Members.{some_is, and_true, and_left, and_right}
use Rattle.rls_runs.specs.Runs.{run_idents, idents_of, are_apart, IsImage}
use Rattle.rls_runs.specs.Entries.{idents_in}
use Rattle.rls_runs.proofs.Sorted.{Entry}

pub entry_at : (es : List Entry) (i : ℕ) (e : Entry) → i < length es → e ≡ get_or es i e → slice_get es i ≡ Some e
entry_at es i e h g = slice_get_read es (length es) i e refl h g

pub ident_there : (es : List Entry) (i : ℕ) (e : Entry) → slice_get es i ≡ Some e → slice_get (idents_in es) i ≡ Some e.0
ident_there [] i e g = absurd (cc)
ident_there (x ∷ es) zero e g = ap (λ (z : Entry). Some z.0) (some_is x e g)
ident_there (x ∷ es) (suc i) e g = ident_there es i e g

taken_next : {X : Type 0} (f : Entry → X) (es : List Entry) (i : ℕ) (e : Entry) → slice_get es i ≡ Some e → map f (take (suc i) es) ≡ map f (take i es) ++ f e ∷ []
taken_next f [] i e g = absurd (cc)
taken_next f (x ∷ es) zero e g = ap (λ z. f z ∷ []) (some_is x e g)
taken_next f (x ∷ es) (suc i) e g = ap (λ zs. f x ∷ zs) (taken_next f es i e g)

-- what is made of each entry, with one entry more
taken_more : {X : Type 0} (f : Entry → X) (es : List Entry) (i : ℕ) (e : Entry) → slice_get es i ≡ Some e → map f (take (i + 1) es) ≡ map f (take i es) ++ f e ∷ []
taken_more f es i e g = let s : i + 1 ≡ suc i = omega arith in ap (λ k. map f (take k es)) s ∙ taken_next f es i e g

pub idents_more : (es : List Entry) (i : ℕ) (e : Entry) → slice_get es i ≡ Some e → idents_in (take (i + 1) es) ≡ idents_in (take i es) ++ e.0 ∷ []
idents_more es i e g = taken_more (λ z. z.0) es i e g

all_more : (xs : List (List Tuple)) (x : List Tuple) → list_all is_ident xs ≡ true → is_ident x ≡ true → list_all is_ident (xs ++ x ∷ []) ≡ true
all_more [] x h k = and_true (is_ident x) true k refl
all_more (y ∷ xs) x h k = and_true (is_ident y) (list_all is_ident (xs ++ x ∷ [])) (and_left (is_ident y) (list_all is_ident xs) h) (all_more xs x (and_right (is_ident y) (list_all is_ident xs) h) k)

-- ---- a run of one identifier, mapped

pub image_first : (f : List Tuple → List Tuple) (x : List Tuple) (run : List Tuple × ℕ) (rs : List (List Tuple × ℕ)) (r : List Tuple × ℕ) → IsImage f run rs → run ≡ (x, 1) → slice_get rs 0 ≡ Some r → r.0 ≡ f x
image_first f x run rs r h e g = at rs h.apart (h.idents ∙ ap (λ (q : List Tuple × ℕ). map f (run_idents q.0 q.1)) e) g
  where
    at : (rs : List (List Tuple × ℕ)) → are_apart None rs ≡ true → idents_of rs ≡ f x ∷ [] → slice_get rs 0 ≡ Some r → r.0 ≡ f x
    at [] a i g = absurd (cc)
    at ((y, zero) ∷ rs) a i g = absurd (cc)
    at ((y, suc n) ∷ rs) a i g = let p = ap (λ (q : Option (List Tuple × ℕ)). q) g in cc
