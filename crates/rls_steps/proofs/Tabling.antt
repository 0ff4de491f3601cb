-- The labels of a text, place by place.
use Rattle.std.proofs.Common.{◌≡◌, ℕ, zero, suc, ◌+◌, ◌<◌, ◌≤◌, List, [], ◌∷◌, ◌++◌, map, length, take, drop, inl, inr, refl, sym, ap, ◌∙◌, subst, arith}
use Rattle.std.specs.Prelude.{slice_get, Option, Some, Ok}
use Rattle.std.proofs.lemmas.List.{length-map}
use Rattle.rls_ident.specs.declared.tuple.Tuple.{Tuple}
use Rattle.rls_ident.specs.Lists.{IsIn}
use Rattle.rls_ident.proofs.Lists.{Lt, lt_irrefl}
use Rattle.rls_ident.proofs.Members.{get_in}
use Rattle.rls_ident.proofs.Tuples.{tuples}
use Rattle.rls_model.proofs.Spliced.{append_map}
use Rattle.rls_runs.specs.Runs.{place_of}
use Rattle.rls_runs.proofs.RunOrder.{AllMore, Rising}
use Rattle.rls_runs.proofs.RunPlaces.{found_is, found_there}
use Rattle.rls_tree.proofs.Puts.{get_drop}
use Rattle.rls_steps.specs.Labelled.{Names, label_of}

pub take_snoc : {A : Type 0} (xs : List A) (i : ℕ) (x : A) → slice_get xs i ≡ Some x → take (suc i) xs ≡ take i xs ++ x ∷ []
take_snoc [] i x h = absurd (cc)
take_snoc (y ∷ ys) zero x h = let e : y ≡ x = cc in ap (λ z. z ∷ []) e
take_snoc (y ∷ ys) (suc i) x h = ap (λ zs. y ∷ zs) (take_snoc ys i x h)

-- ---- places

more_at : (y x : List Tuple) (ys : List (List Tuple)) → AllMore y ys → IsIn x ys → Lt tuples y x
more_at y x [] a p = absurd p
more_at y x (z ∷ zs) a (inl e) = subst (λ w. Lt tuples y w) e a.0
more_at y x (z ∷ zs) a (inr p) = more_at y x zs a.1 p

-- an identifier has one place
pub once : (xs : List (List Tuple)) (x : List Tuple) (i j : ℕ) → Rising xs → slice_get xs i ≡ Some x → slice_get xs j ≡ Some x → i ≡ j
once [] x i j r p q = absurd (cc)
once (y ∷ ys) x zero zero r p q = refl
once (y ∷ ys) x zero (suc j) r p q = let e : y ≡ x = cc in absurd (lt_irrefl (subst (λ z. Lt tuples z x) e (more_at y x ys r.0 (get_in ys j x q))))
once (y ∷ ys) x (suc i) zero r p q = let e : y ≡ x = cc in absurd (lt_irrefl (subst (λ z. Lt tuples z x) e (more_at y x ys r.0 (get_in ys i x p))))
once (y ∷ ys) x (suc i) (suc j) r p q = ap suc (once ys x i j r.1 p q)

pub get_take : {A : Type 0} (n k : ℕ) (xs : List A) → k < n → slice_get (take n xs) k ≡ slice_get xs k
get_take zero k xs h = absurd (omega (arith, h))
get_take (suc n) k [] h = refl
get_take (suc n) zero (x ∷ xs) h = refl
get_take (suc n) (suc k) (x ∷ xs) h = get_take n k xs (omega (arith, h))

pub place_is : (xs : List (List Tuple)) (x : List Tuple) (at : ℕ) → Rising xs → place_of x xs ≡ Ok at → slice_get xs at ≡ Some x
place_is xs x at r h = found_there xs x at r (found_is xs x r ∙ h)

pub part_length : {A : Type 0} (from n : ℕ) (xs : List A) → from + n ≤ length xs → n ≡ length (take n (drop from xs))
part_length zero zero xs h = refl
part_length zero (suc n) [] h = absurd (omega (arith, h))
part_length zero (suc n) (x ∷ xs) h = ap suc (part_length zero n xs (omega (arith, h)))
part_length (suc k) n [] h = absurd (omega (arith, h))
part_length (suc k) n (x ∷ xs) h = part_length k n xs (omega (arith, h))

pub table_length : (xs : List (List Tuple)) (from count : ℕ) (names : Names) (os : List (Option ℕ)) → from + count ≤ length xs → os ≡ map (label_of names) (take count (drop from xs)) → length os ≡ count
table_length xs from count names os w e = ap length e ∙ (length-map (take count (drop from xs)) (label_of names) ∙ sym (part_length from count xs w))

-- one more element of a part of a list
pub mapped_next : {A B : Type 0} (f : A → B) (xs : List A) (from i : ℕ) (x : A) (y : B) (old new : List B) → slice_get xs (from + i) ≡ Some x → y ≡ f x → old ≡ map f (take i (drop from xs)) → new ≡ old ++ y ∷ [] → new ≡ map f (take (i + 1) (drop from xs))
mapped_next f xs from i x y old new g e o n =
    let part = drop from xs in
    let one : suc i ≡ i + 1 = omega arith in
    let more : take (i + 1) part ≡ take i part ++ x ∷ [] = ap (λ k. take k part) (sym one) ∙ take_snoc part i x (get_drop from i xs ∙ g) in
    n ∙ (ap (λ ys. ys ++ y ∷ []) o ∙ (ap (λ z. map f (take i part) ++ z ∷ []) e ∙ sym (ap (map f) more ∙ append_map f (take i part) (x ∷ []))))
