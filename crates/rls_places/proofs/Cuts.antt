-- Lists that are cut at the first byte that passes a test.
use Rattle.std.proofs.Common.{◌≡◌, ◌∙◌, ◌<◌, ◌+◌, ℕ, suc, Bool, true, false, List, [], ◌∷◌, ◌++◌, length, take, drop, Some, None, refl, ap, arith}
use Rattle.std.specs.Prelude.{nat_lt, if◌then◌else◌}
use Rattle.std.specs.List.{onto_first, position_or_len, slice_split}
use Rattle.std.proofs.lemmas.Bool.{lt-ltb}
use Rattle.rls_places.specs.Words.{parts_by}

-- ---- lists in which no byte passes

abbrev pub Lacks : (ℕ → Bool) → List ℕ → Type 0
Lacks p [] = Unit {0}
Lacks p (c ∷ cs) = (p c ≡ false) × Lacks p cs

pub lacks_more : (p : ℕ → Bool) (xs ys : List ℕ) → Lacks p xs → Lacks p ys → Lacks p (xs ++ ys)
lacks_more p [] ys h k = k
lacks_more p (x ∷ xs) ys h k = (h.0, lacks_more p xs ys h.1 k)

first_there : (p : ℕ → Bool) (xs : List ℕ) (c : ℕ) (ys : List ℕ) → Lacks p xs → p c ≡ true → position_or_len p (xs ++ (c ∷ ys)) ≡ length xs
first_there p [] c ys h k = rw k refl
first_there p (x ∷ xs) c ys h k = let rest = first_there p xs c ys h.1 k in rw h.0 (omega (arith, rest))

front : (xs ys : List ℕ) → take (length xs) (xs ++ ys) ≡ xs
front [] ys = refl
front (x ∷ xs) ys = ap (λ zs. x ∷ zs) (front xs ys)

past : (xs : List ℕ) (c : ℕ) (ys : List ℕ) → drop (suc (length xs)) (xs ++ (c ∷ ys)) ≡ ys
past [] c ys = refl
past (x ∷ xs) c ys = past xs c ys

back : (xs : List ℕ) (c : ℕ) (ys : List ℕ) → drop (length xs + 1) (xs ++ (c ∷ ys)) ≡ ys
back xs c ys = let next : length xs + 1 ≡ suc (length xs) = omega arith in ap (λ n. drop n (xs ++ (c ∷ ys))) next ∙ past xs c ys

within : (xs : List ℕ) (c : ℕ) (ys : List ℕ) → length xs < length (xs ++ (c ∷ ys))
within [] c ys = omega arith
within (x ∷ xs) c ys = let rest = within xs c ys in omega (arith, rest)

pub parts_there : (p : ℕ → Bool) (xs : List ℕ) (c : ℕ) (ys : List ℕ) → Lacks p xs → p c ≡ true → parts_by p (xs ++ (c ∷ ys)) ≡ Some (xs, ys)
parts_there p xs c ys h k =
    let all = xs ++ (c ∷ ys) in
    ap (λ n. if nat_lt n (length all) then Some (take n all, drop (n + 1) all) else None) (first_there p xs c ys h k)
    ∙ (ap (λ b. if b then Some (take (length xs) all, drop (length xs + 1) all) else None) (lt-ltb (length xs) (length all) (within xs c ys))
    ∙ (ap (λ x. Some (x, drop (length xs + 1) all)) (front xs (c ∷ ys)) ∙ ap (λ y. Some (xs, y)) (back xs c ys)))

pub split_none : (p : ℕ → Bool) (xs : List ℕ) → Lacks p xs → slice_split p xs ≡ xs ∷ []
split_none p [] h = refl
split_none p (x ∷ xs) h = rw h.0 (ap (onto_first x) (split_none p xs h.1))

pub split_there : (p : ℕ → Bool) (xs : List ℕ) (c : ℕ) (ys : List ℕ) → Lacks p xs → p c ≡ true → slice_split p (xs ++ (c ∷ ys)) ≡ xs ∷ slice_split p ys
split_there p [] c ys h k = rw k refl
split_there p (x ∷ xs) c ys h k = rw h.0 (ap (onto_first x) (split_there p xs c ys h.1 k))
