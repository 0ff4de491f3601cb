-- Labels that characters get, one after another, and fronts that stay.
use Rattle.std.proofs.Common.{◌≡◌, ℕ, zero, suc, ◌+◌, List, [], ◌∷◌, ◌++◌, length, take, refl, ap, ◌∙◌, arith}
use Rattle.std.specs.Prelude.{reverse}
use Rattle.std.proofs.lemmas.List.{reverse-append}
use Rattle.rls_ident.specs.declared.tuple.Tuple.{Tuple}
use Rattle.rls_steps.specs.Marks.{numbers_from}
use Rattle.rls_steps.specs.Labelled.{Labelled, label_of, new_label, label_all}

pub all_append : (h : Labelled) (xs ys : List (List Tuple)) → label_all h (xs ++ ys) ≡ label_all (label_all h xs) ys
all_append h [] ys = refl
all_append h (x ∷ xs) ys = all_append (new_label (label_of h.names x) h x) xs ys

-- ---- a front that stays

pub front_stays : {A : Type 0} (xs ys zs : List A) → take (length xs) ys ≡ xs → take (length xs) (ys ++ zs) ≡ xs
front_stays [] ys zs h = refl
front_stays (x ∷ xs) [] zs h = absurd (cc)
front_stays (x ∷ xs) (y ∷ ys) zs h =
    let e : y ≡ x = cc in
    let k : take (length xs) ys ≡ xs = cc in
    ap (λ w. w ∷ take (length xs) (ys ++ zs)) e ∙ ap (λ ws. x ∷ ws) (front_stays xs ys zs k)

pub front_trans : {A : Type 0} (xs ys zs : List A) → take (length xs) ys ≡ xs → take (length ys) zs ≡ ys → take (length xs) zs ≡ xs
front_trans [] ys zs h k = refl
front_trans (x ∷ xs) [] zs h k = absurd (cc)
front_trans (x ∷ xs) (y ∷ ys) [] h k = absurd (cc)
front_trans (x ∷ xs) (y ∷ ys) (z ∷ zs) h k =
    let a : y ≡ x = cc in
    let b : take (length xs) ys ≡ xs = cc in
    let c : z ≡ y = cc in
    let d : take (length ys) zs ≡ ys = cc in
    ap (λ w. w ∷ take (length xs) zs) (c ∙ a) ∙ ap (λ ws. x ∷ ws) (front_trans xs ys zs b d)

-- ---- a list with one more at its end, the last first

pub reverse_snoc : {A : Type 0} (xs : List A) (x : A) → reverse (xs ++ x ∷ []) ≡ x ∷ reverse xs
reverse_snoc xs x = reverse-append xs (x ∷ [])

-- ---- numbers

pub numbers_snoc : (i n : ℕ) → numbers_from i (n + 1) ≡ numbers_from i n ++ (i + n) ∷ []
numbers_snoc i n = let one : n + 1 ≡ suc n = omega arith in ap (numbers_from i) one ∙ more i n
  where
    more : (j k : ℕ) → numbers_from j (suc k) ≡ numbers_from j k ++ (j + k) ∷ []
    more j zero = let e : j ≡ j + 0 = omega arith in ap (λ m. m ∷ []) e
    more j (suc k) = let e : suc j + k ≡ j + suc k = omega arith in ap (λ ms. j ∷ ms) (more (suc j) k ∙ ap (λ m. numbers_from (suc j) k ++ m ∷ []) e)
