-- What a renaming does to an identifier, by the index of its place.
use Rattle.std.proofs.Common.{◌≡◌, ℕ, suc, ◌<◌, ◌≤◌, length, List, [], ◌∷◌, ◌++◌, get_or, take, drop, sym, ap, ◌∙◌, subst, arith}
use Rattle.std.specs.declared.cmp.Ordering.TheVariants.{Less}
use Rattle.std.proofs.lemmas.List.{take-append-drop}
use Rattle.std.proofs.Math.Seq.{drop-cons}
use Rattle.std.proofs.Math.ListN.{drop_of_length-le}
use Rattle.std.proofs.lemmas.List.{length-take}
use Rattle.rls_ident.specs.declared.tuple.Spot.{Spot}
use Rattle.rls_ident.specs.declared.tuple.Tuple.{Tuple}
use Rattle.rls_ident.specs.Identifiers.{ident_cmp}
use Rattle.rls_rename.specs.Renaming.{IsFormer, old_below_inverse, old_between_inverse, old_above_inverse, new_at, new_below, new_between, new_above, forward_by}
use Rattle.rls_rename.proofs.Places.{former_at, forward_former, forward_below, forward_between, forward_last}

pub split_at : (f : List (List Tuple)) (i : ℕ) → i < length f → f ≡ take i f ++ (get_or f i [] ∷ drop (suc i) f)
split_at f i h = let e = drop-cons f i [] h in sym (take-append-drop i f) ∙ ap (λ z. take i f ++ z) e

pub split_two : (f : List (List Tuple)) (i : ℕ) → suc i < length f → f ≡ take i f ++ (get_or f i [] ∷ (get_or f (suc i) [] ∷ drop (suc (suc i)) f))
split_two f i h = let l : i < length f = omega arith in let e = drop-cons f (suc i) [] h in split_at f i l ∙ ap (λ z. take i f ++ (get_or f i [] ∷ z)) e

pub split_end : (f : List (List Tuple)) (i : ℕ) → suc i ≡ length f → f ≡ take i f ++ (get_or f i [] ∷ [])
split_end f i h = let l : i < length f = omega arith in let k : length f ≤ suc i = omega arith in split_at f i l ∙ ap (λ z. take i f ++ (get_or f i [] ∷ z)) (drop_of_length-le f k)

pub index_less : (f : List (List Tuple)) (i : ℕ) → IsFormer f → suc i < length f → ident_cmp (get_or f i []) (get_or f (suc i) []) ≡ Less
index_less f i h l = (former_at (take i f) (get_or f i []) (get_or f (suc i) [] ∷ drop (suc (suc i)) f) (subst IsFormer (split_two f i l) h)).1

pub index_former : (s : Spot) (f : List (List Tuple)) (i : ℕ) → IsFormer f → i < length f → forward_by s f (get_or f i []) ≡ new_at s i
index_former s f i h l =
    let e = split_at f i l in
    let n : length (take i f) ≡ i = omega (arith, length-take i f) in
    ap (λ z. forward_by s z (get_or f i [])) e ∙ (forward_former s (take i f) (get_or f i []) (drop (suc i) f) (subst IsFormer e h) ∙ ap (new_at s) n)

pub index_below : (s : Spot) (f : List (List Tuple)) (x : List Tuple) → 0 < length f → ident_cmp x (get_or f 0 []) ≡ Less → forward_by s f x ≡ new_below s (old_below_inverse (get_or f 0 []) x)
index_below s [] x l h = absurd (omega arith)
index_below s (a ∷ rest) x l h = forward_below s a rest x (record { less = h })

pub index_between : (s : Spot) (f : List (List Tuple)) (i : ℕ) (x : List Tuple) → IsFormer f → suc i < length f → ident_cmp (get_or f i []) x ≡ Less → ident_cmp x (get_or f (suc i) []) ≡ Less →
    forward_by s f x ≡ new_between s i (old_between_inverse (get_or f i []) (get_or f (suc i) []) x)
index_between s f i x h l a b =
    let e = split_two f i l in
    let n : length (take i f) ≡ i = omega (arith, length-take i f) in
    ap (λ z. forward_by s z x) e
    ∙ (forward_between s (take i f) (get_or f i []) (get_or f (suc i) []) (drop (suc (suc i)) f) x (subst IsFormer e h) (record { less = a }) (record { less = b })
    ∙ ap (λ k. new_between s k (old_between_inverse (get_or f i []) (get_or f (suc i) []) x)) n)

pub index_above : (s : Spot) (f : List (List Tuple)) (i : ℕ) (x : List Tuple) → IsFormer f → suc i ≡ length f → ident_cmp (get_or f i []) x ≡ Less → forward_by s f x ≡ new_above s i (old_above_inverse (get_or f i []) x)
index_above s f i x h l a =
    let e = split_end f i l in
    let n : length (take i f) ≡ i = omega (arith, length-take i f) in
    ap (λ z. forward_by s z x) e ∙ (forward_last s (take i f) (get_or f i []) x (subst IsFormer e h) (record { less = a }) ∙ ap (λ k. new_above s k (old_above_inverse (get_or f i []) x)) n)
