-- Identifiers with their labels, the last one first.
use Rattle.std.proofs.Common.{◌≡◌, ℕ, zero, suc, ◌+◌, List, [], ◌∷◌, ◌++◌, length, drop, refl, sym, ap, ◌∙◌, arith}
use Rattle.std.specs.Prelude.{reverse, zip, min, slice_get, Some}
use Rattle.std.proofs.lemmas.List.{reverse-append}

zip_drop : {A B : Type 0} (xs : List A) (ys : List B) (i : ℕ) (x : A) (y : B) → slice_get xs i ≡ Some x → slice_get ys i ≡ Some y → drop i (zip xs ys) ≡ (x, y) ∷ drop (suc i) (zip xs ys)
zip_drop [] ys i x y g h = absurd (cc)
zip_drop (a ∷ xs) [] i x y g h = absurd (cc)
zip_drop (a ∷ xs) (b ∷ ys) zero x y g h =
    let p : a ≡ x = cc in
    let q : b ≡ y = cc in
    ap (λ z. (z, b) ∷ zip xs ys) p ∙ ap (λ z. (x, z) ∷ zip xs ys) q
zip_drop (a ∷ xs) (b ∷ ys) (suc i) x y g h = zip_drop xs ys i x y g h

drop_nil : {A : Type 0} (k : ℕ) (xs : List A) → xs ≡ [] → drop k xs ≡ []
drop_nil zero xs e = e
drop_nil (suc k) [] e = refl
drop_nil (suc k) (x ∷ xs) e = absurd (cc)

pub zip_end : {A B : Type 0} (xs : List A) (ys : List B) (i : ℕ) → i ≡ min (length xs) (length ys) → drop i (zip xs ys) ≡ []
zip_end [] ys i e = drop_nil i (zip [] ys) refl
zip_end (x ∷ xs) [] i e = drop_nil i (zip (x ∷ xs) []) refl
zip_end (x ∷ xs) (y ∷ ys) zero e = absurd (omega (arith, e))
zip_end (x ∷ xs) (y ∷ ys) (suc i) e = zip_end xs ys i (omega (arith, e))

pub named_next : {A B : Type 0} (xs : List A) (ys : List B) (i : ℕ) (x : A) (y : B) (old new : List (A × B)) (first : List (A × B)) → slice_get xs i ≡ Some x → slice_get ys i ≡ Some y → new ≡ old ++ (x, y) ∷ [] →
    reverse old ≡ drop (i + 1) (zip xs ys) ++ first → reverse new ≡ drop i (zip xs ys) ++ first
named_next xs ys i x y old new first g h e f =
    let one : i + 1 ≡ suc i = omega arith in
    ap reverse e
    ∙ (reverse-append old ((x, y) ∷ [])
    ∙ (ap (λ zs. (x, y) ∷ zs) (f ∙ ap (λ k. drop k (zip xs ys) ++ first) one) ∙ ap (λ zs. zs ++ first) (sym (zip_drop xs ys i x y g h))))
