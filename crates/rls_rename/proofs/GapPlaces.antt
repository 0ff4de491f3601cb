-- What a search among increasing identifiers says of its neighbours.
use Rattle.std.proofs.Common.{◌≡◌, ℕ, zero, suc, ◌+◌, ◌-◌, ◌<◌, ◌≤◌, List, [], ◌∷◌, length, Some, Result, Ok, Err, slice_get, refl, sym, ap, ◌∙◌, arith}
use Rattle.std.specs.declared.cmp.Ordering.{Ordering}
use Rattle.std.specs.declared.cmp.Ordering.TheVariants.{Less, Equal, Greater}
use Rattle.std.specs.Ordering.{ordering_reverse}
use Rattle.std.proofs.lemmas.Option.{slice_get_within}
use Rattle.rls_ident.specs.declared.tuple.Tuple.{Tuple}
use Rattle.rls_ident.specs.Identifiers.{ident_cmp}
use Rattle.rls_ident.proofs.Tuples.{ident_total, ident_same}
use Rattle.rls_runs.specs.Runs.{placed, place_from, place_of}

-- the number of an answer
abbrev pub number_of : Result ℕ ℕ → ℕ
number_of (Ok k) = k
number_of (Err k) = k

place_least : (xs : List (List Tuple)) (x : List Tuple) (i : ℕ) → i ≤ number_of (place_from i x xs)
place_least [] x i = omega arith
place_least (y ∷ ys) x i = go (ident_cmp y x) (place_least ys x (suc i))
  where
    go : (o : Ordering) → suc i ≤ number_of (place_from (suc i) x ys) → i ≤ number_of (placed o i (place_from (suc i) x ys))
    go Less h = omega arith
    go Equal h = omega arith
    go Greater h = omega arith

turned : (x y : List Tuple) → ident_cmp y x ≡ Greater → ident_cmp x y ≡ Less
turned x y e = ident_total.antisymm x y ∙ ap ordering_reverse e

above_from : (xs : List (List Tuple)) (x : List Tuple) (i j : ℕ) (b : List Tuple) → place_from i x xs ≡ Err (i + j) → slice_get xs j ≡ Some b → ident_cmp x b ≡ Less
above_from [] x i j b e g = cc
above_from (y ∷ ys) x i j b e g = go (ident_cmp y x) refl (λ m. above_from ys x (suc i) m b) j e g
  where
    go : (o : Ordering) → ident_cmp y x ≡ o → ((m : ℕ) → place_from (suc i) x ys ≡ Err (suc i + m) → slice_get ys m ≡ Some b → ident_cmp x b ≡ Less) → (j : ℕ) → placed o i (place_from (suc i) x ys) ≡ Err (i + j) → slice_get (y ∷ ys) j ≡ Some b → ident_cmp x b ≡ Less
    go Less q f zero e g = let l = place_least ys x (suc i) in let n = ap number_of e in absurd (omega arith)
    go Less q f (suc j) e g = let n : i + suc j ≡ suc i + j = omega arith in f j (e ∙ ap Err n) g
    go Equal q f j e g = absurd (cc)
    go Greater q f zero e g = let s : y ≡ b = cc in turned x b (ap (λ t. ident_cmp t x) (sym s) ∙ q)
    go Greater q f (suc j) e g = let n = ap number_of e in absurd (omega arith)

below_from : (xs : List (List Tuple)) (x : List Tuple) (i j : ℕ) (a : List Tuple) → place_from i x xs ≡ Err (i + suc j) → slice_get xs j ≡ Some a → ident_cmp a x ≡ Less
below_from [] x i j a e g = cc
below_from (y ∷ ys) x i j a e g = go (ident_cmp y x) refl (λ m. below_from ys x (suc i) m a) j e g
  where
    go : (o : Ordering) → ident_cmp y x ≡ o → ((m : ℕ) → place_from (suc i) x ys ≡ Err (suc i + suc m) → slice_get ys m ≡ Some a → ident_cmp a x ≡ Less) → (j : ℕ) → placed o i (place_from (suc i) x ys) ≡ Err (i + suc j) → slice_get (y ∷ ys) j ≡ Some a → ident_cmp a x ≡ Less
    go Less q f zero e g = let s : y ≡ a = cc in ap (λ t. ident_cmp t x) (sym s) ∙ q
    go Less q f (suc j) e g = let n : i + suc (suc j) ≡ suc i + suc j = omega arith in f j (e ∙ ap Err n) g
    go Equal q f j e g = absurd (cc)
    go Greater q f j e g = let n = ap number_of e in absurd (omega arith)

there_from : (xs : List (List Tuple)) (x : List Tuple) (i j : ℕ) → place_from i x xs ≡ Ok (i + j) → slice_get xs j ≡ Some x
there_from [] x i j e = cc
there_from (y ∷ ys) x i j e = go (ident_cmp y x) refl (there_from ys x (suc i)) j e
  where
    go : (o : Ordering) → ident_cmp y x ≡ o → ((m : ℕ) → place_from (suc i) x ys ≡ Ok (suc i + m) → slice_get ys m ≡ Some x) → (j : ℕ) → placed o i (place_from (suc i) x ys) ≡ Ok (i + j) → slice_get (y ∷ ys) j ≡ Some x
    go Less q f zero e = let l = place_least ys x (suc i) in let n = ap number_of e in absurd (omega arith)
    go Less q f (suc j) e = let n : i + suc j ≡ suc i + j = omega arith in f j (e ∙ ap Ok n)
    go Equal q f zero e = ap Some (ident_same y x q)
    go Equal q f (suc j) e = let n = ap number_of e in absurd (omega arith)
    go Greater q f j e = absurd (cc)

most_from : (xs : List (List Tuple)) (x : List Tuple) (i : ℕ) → number_of (place_from i x xs) ≤ i + length xs
most_from [] x i = omega arith
most_from (y ∷ ys) x i = go (ident_cmp y x) (most_from ys x (suc i))
  where
    go : (o : Ordering) → number_of (place_from (suc i) x ys) ≤ suc i + length ys → number_of (placed o i (place_from (suc i) x ys)) ≤ i + length (y ∷ ys)
    go Less h = omega arith
    go Equal h = omega arith
    go Greater h = omega arith

-- the identifier behind the gap
pub gap_above : (xs : List (List Tuple)) (x : List Tuple) (k : ℕ) (b : List Tuple) → place_of x xs ≡ Err k → slice_get xs k ≡ Some b → ident_cmp x b ≡ Less
unfolding place_of
gap_above xs x k b e g = let n : k ≡ 0 + k = omega arith in above_from xs x 0 k b (e ∙ ap Err n) g

-- the identifier in front of it
pub gap_below : (xs : List (List Tuple)) (x : List Tuple) (k : ℕ) (a : List Tuple) → place_of x xs ≡ Err k → 0 < k → slice_get xs (k - 1) ≡ Some a → ident_cmp a x ≡ Less
unfolding place_of
gap_below xs x k a e l g = let n : k ≡ 0 + suc (k - 1) = omega arith in below_from xs x 0 (k - 1) a (e ∙ ap Err n) g

pub gap_there : (xs : List (List Tuple)) (x : List Tuple) (k : ℕ) → place_of x xs ≡ Ok k → slice_get xs k ≡ Some x
unfolding place_of
gap_there xs x k e = let n : k ≡ 0 + k = omega arith in there_from xs x 0 k (e ∙ ap Ok n)

pub gap_most : (xs : List (List Tuple)) (x : List Tuple) (k : ℕ) → place_of x xs ≡ Err k → k ≤ length xs
unfolding place_of
gap_most xs x k e = let m = most_from xs x 0 in let n = ap number_of e in omega arith

pub gap_within : (xs : List (List Tuple)) (x : List Tuple) (k : ℕ) → place_of x xs ≡ Ok k → k < length xs
gap_within xs x k e = slice_get_within xs k x (gap_there xs x k e)
