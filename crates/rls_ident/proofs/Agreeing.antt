-- Maps, filters and tests that agree on each element of a list.
use Rattle.std.proofs.Common.{◌≡◌, true, false, Bool, List, [], ◌∷◌, map, cond, refl, ap, ◌∙◌, inl, inr}
use Rattle.std.specs.Prelude.{filter, ◌||◌}
use Rattle.std.specs.List.{list_any}
use Rattle.rls_ident.specs.Lists.{IsIn}

pub map_same : {A B : Type 0} (f g : A → B) (xs : List A) → ((x : A) → IsIn x xs → f x ≡ g x) → map f xs ≡ map g xs
map_same f g [] h = refl
map_same f g (x ∷ xs) h = ap (λ y. y ∷ map f xs) (h x (inl refl)) ∙ ap (λ ys. g x ∷ ys) (map_same f g xs (λ z p. h z (inr p)))

pub map_itself : {A : Type 0} (f : A → A) (xs : List A) → ((x : A) → IsIn x xs → f x ≡ x) → map f xs ≡ xs
map_itself f [] h = refl
map_itself f (x ∷ xs) h = ap (λ y. y ∷ map f xs) (h x (inl refl)) ∙ ap (λ ys. x ∷ ys) (map_itself f xs (λ y p. h y (inr p)))

pub any_same : {B : Type 0} (s t : B → Bool) (xs : List B) → ((x : B) → IsIn x xs → s x ≡ t x) → list_any s xs ≡ list_any t xs
any_same s t [] f = refl
any_same s t (x ∷ xs) f = ap (λ b. b || list_any s xs) (f x (inl refl)) ∙ ap (λ b. t x || b) (any_same s t xs (λ z p. f z (inr p)))

pub filter_same : {A : Type 0} (s t : A → Bool) (xs : List A) → ((x : A) → IsIn x xs → s x ≡ t x) → filter s xs ≡ filter t xs
filter_same s t [] f = refl
filter_same s t (x ∷ xs) f = ap (λ b. cond b (x ∷ filter s xs) (filter s xs)) (f x (inl refl)) ∙ ap (λ zs. cond (t x) (x ∷ zs) zs) (filter_same s t xs (λ z p. f z (inr p)))

pub filter_all : {A : Type 0} (t : A → Bool) (xs : List A) → ((x : A) → IsIn x xs → t x ≡ true) → filter t xs ≡ xs
filter_all t [] f = refl
filter_all t (x ∷ xs) f = ap (λ b. cond b (x ∷ filter t xs) (filter t xs)) (f x (inl refl)) ∙ ap (λ zs. x ∷ zs) (filter_all t xs (λ z p. f z (inr p)))

pub filter_none : {A : Type 0} (t : A → Bool) (xs : List A) → ((x : A) → IsIn x xs → t x ≡ false) → filter t xs ≡ []
filter_none t [] f = refl
filter_none t (x ∷ xs) f = ap (λ b. cond b (x ∷ filter t xs) (filter t xs)) (f x (inl refl)) ∙ filter_none t xs (λ z p. f z (inr p))
