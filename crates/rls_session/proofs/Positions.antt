-- Where the first line feed is, by the bytes that were looked at.
use Rattle.std.proofs.Common.{◌≡◌, ◌∙◌, ◌+◌, ◌<◌, ◌≤◌, ℕ, suc, Bool, true, false, cond, ltb, List, [], ◌∷◌, ◌++◌, length, take, drop, refl, sym, ap, arith, length-drop, length-take}
use Rattle.std.proofs.lemmas.Grind.{common_steps}
use Rattle.std.proofs.lemmas.List.{take-append-drop}
use Rattle.std.proofs.lemmas.Bool.Decides.{nat_tests}
use Rattle.std.specs.Prelude.{not}
use Rattle.rls_script.proofs.LineEnds.{position_or_len_le}
use Rattle.std.specs.List.{position_or_len}

-- none is in the first bytes
pub clear_then : (p : ℕ → Bool) (xs ys : List ℕ) → position_or_len p xs ≡ length xs → position_or_len p (xs ++ ys) ≡ length xs + position_or_len p ys
clear_then p [] ys e = omega arith
clear_then p (x ∷ xs) ys e = go (p x) (λ f. clear_then p xs ys f) e
  where
    go : (b : Bool) → (position_or_len p xs ≡ length xs → position_or_len p (xs ++ ys) ≡ length xs + position_or_len p ys) → cond (not b) (1 + position_or_len p xs) 0 ≡ suc (length xs)
        → cond (not b) (1 + position_or_len p (xs ++ ys)) 0 ≡ suc (length xs) + position_or_len p ys
    go true h e = absurd (omega arith)
    go false h e = let f = h (omega arith) in omega arith

-- one is
pub in_front : (p : ℕ → Bool) (xs ys : List ℕ) → position_or_len p xs < length xs → position_or_len p (xs ++ ys) ≡ position_or_len p xs
in_front p [] ys h = absurd (omega arith)
in_front p (x ∷ xs) ys h = go (p x) (λ k. in_front p xs ys k) h
  where
    go : (b : Bool) → (position_or_len p xs < length xs → position_or_len p (xs ++ ys) ≡ position_or_len p xs) → cond (not b) (1 + position_or_len p xs) 0 < suc (length xs)
        → cond (not b) (1 + position_or_len p (xs ++ ys)) 0 ≡ cond (not b) (1 + position_or_len p xs) 0
    go true f h = refl
    go false f h = let e = f (omega arith) in omega arith

-- looking on behind what was looked at, where `ws` is the whole and `ys` what is left
pub looked_on : (p : ℕ → Bool) (xs ws ys : List ℕ) (i n : ℕ) → i ≤ length xs → position_or_len p (take i xs) ≡ i → ws ≡ xs → ys ≡ drop i ws → n ≡ position_or_len p ys → i + n ≡ position_or_len p xs
looked_on p xs ws ys i n h clear whole is e =
    let front : length (take i xs) ≡ i = omega (arith, length-take i xs) in
    let both = clear_then p (take i xs) (drop i xs) (clear ∙ sym front) in
    let all : position_or_len p (take i xs ++ drop i xs) ≡ position_or_len p xs = ap (position_or_len p) (take-append-drop i xs) in
    let rest : position_or_len p ys ≡ position_or_len p (drop i xs) = ap (position_or_len p) (is ∙ ap (drop i) whole) in
    omega arith

-- and nothing is there
pub none_found : (p : ℕ → Bool) (xs ws ys : List ℕ) (i n len : ℕ) → i ≤ length xs → position_or_len p (take i xs) ≡ i → ws ≡ xs → ys ≡ drop i ws → n ≡ position_or_len p ys → len ≡ length ys → len ≤ n
    → (i + n ≡ length xs) × (position_or_len p xs ≡ length xs)
none_found p xs ws ys i n len h clear whole is e l none =
    let found = looked_on p xs ws ys i n h clear whole is e in
    let rest : length ys ≡ length (drop i xs) = ap length (is ∙ ap (drop i) whole) in
    let le = position_or_len_le p ys in
    let all : i + n ≡ length xs = omega (arith, length-drop i xs) in
    (all, sym found ∙ all)

-- nothing was found, and more was taken
pub looked_at : (p : ℕ → Bool) (xs ys more : List ℕ) (i : ℕ) → i ≡ length xs → position_or_len p xs ≡ length xs → ys ≡ xs ++ more → position_or_len p (take i ys) ≡ i
looked_at p xs ys more i e none is =
    let front : take i ys ≡ xs = grind (arith, common_steps) in
    ap (position_or_len p) front ∙ (none ∙ sym e)

-- it is no further back in fewer bytes
pub position_more : (p : ℕ → Bool) (xs ys : List ℕ) → position_or_len p xs ≤ position_or_len p (xs ++ ys)
position_more p [] ys = omega arith
position_more p (x ∷ xs) ys = go (p x) (position_more p xs ys)
  where
    go : (b : Bool) → position_or_len p xs ≤ position_or_len p (xs ++ ys) → cond (not b) (1 + position_or_len p xs) 0 ≤ cond (not b) (1 + position_or_len p (xs ++ ys)) 0
    go true h = omega arith
    go false h = omega arith

-- nor is it further in front, if it is among them
pub position_front : (p : ℕ → Bool) (n : ℕ) (xs : List ℕ) → position_or_len p xs < n → n ≤ length xs → position_or_len p (take n xs) ≡ position_or_len p xs
position_front p n xs h l = go (in_front p (take n xs) (drop n xs)) (clear_then p (take n xs) (drop n xs)) (position_or_len_le p (take n xs))
  where
    whole : position_or_len p (take n xs ++ drop n xs) ≡ position_or_len p xs
    whole = ap (position_or_len p) (take-append-drop n xs)

    len : length (take n xs) ≡ n
    len = omega (arith, length-take n xs)

    go : (position_or_len p (take n xs) < length (take n xs) → position_or_len p (take n xs ++ drop n xs) ≡ position_or_len p (take n xs))
        → (position_or_len p (take n xs) ≡ length (take n xs) → position_or_len p (take n xs ++ drop n xs) ≡ length (take n xs) + position_or_len p (drop n xs))
        → position_or_len p (take n xs) ≤ length (take n xs) → position_or_len p (take n xs) ≡ position_or_len p xs
    go f g le = at (ltb (position_or_len p (take n xs)) (length (take n xs))) refl
      where
        at : (b : Bool) → ltb (position_or_len p (take n xs)) (length (take n xs)) ≡ b → position_or_len p (take n xs) ≡ position_or_len p xs
        at true t = let less : position_or_len p (take n xs) < length (take n xs) = grind (arith, nat_tests) in sym (f less) ∙ whole
        at false t =
            let all : position_or_len p (take n xs) ≡ length (take n xs) = let m : length (take n xs) ≤ position_or_len p (take n xs) = grind (arith, nat_tests) in omega arith in
            let far = g all in
            absurd (omega (arith, whole, len))
