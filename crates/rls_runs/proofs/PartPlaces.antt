-- The place of an identifier among three parts of a rising list.
use Rattle.std.proofs.Common.{◌≡◌, ℕ, suc, ◌+◌, ◌<◌, ◌⊎◌, inl, inr, ⊎_elim, Bool, true, false, List, [], ◌∷◌, ◌++◌, length, Ok, Err, refl, sym, ap, ◌∙◌, subst, arith}
use Rattle.std.specs.Prelude.{◌||◌, if◌then◌else◌}
use Rattle.std.specs.Ordering.{is_eq, is_lt}
use Rattle.rls_ident.specs.declared.tuple.Tuple.{Tuple}
use Rattle.rls_ident.specs.Identifiers.{ident_eq, ident_lt}
use Rattle.rls_ident.proofs.Lists.{Lt, lt_trans, tri, flipped}
use Rattle.rls_ident.proofs.Tuples.{tuples}
use Rattle.rls_runs.specs.Entries.{has_ident}
use Rattle.rls_runs.specs.Places.{below_count, find_ident}
use Rattle.rls_runs.proofs.Finding.{Tells, told, one_less}
use Rattle.rls_runs.proofs.Gaps.{read_ok, read_err}
use Rattle.rls_runs.proofs.RunOrder.{AllLess, AllMore, Rising, more_trans, more_right, rising_right}
use Rattle.rls_runs.proofs.RunPlaces.{moved, tells_append, tells_less, tells_more}

-- y is one of these, or some of these are not less
abbrev pub Within : List (List Tuple) → List Tuple → Type 0
Within xs y = (has_ident xs y ≡ true) ⊎ (below_count xs y < length xs)

-- what is after is more
beyond : (xs zs : List (List Tuple)) (y : List Tuple) → Rising (xs ++ zs) → Within xs y → AllMore y zs
beyond [] zs y h w = ⊎_elim (λ e. absurd (cc)) (λ l. absurd (omega arith)) w
beyond (x ∷ xs) zs y h w =
    ⊎_elim (λ l. beyond xs zs y h.1 (later l))
    (λ r. ⊎_elim (λ e. subst (λ u. AllMore u zs) e (more_right x xs zs h.0)) (λ l. more_trans y x zs l (more_right x xs zs h.0)) r)
    (tri tuples x y)
  where
    later : Lt tuples x y → Within xs y
    later l =
        let t = one_less x xs y (has_ident xs y) (below_count xs y) l.less (refl, refl) in
        ⊎_elim (λ e. inl (sym t.0 ∙ e)) (λ k. let s = t.1 in inr (omega (arith, s, k))) w

-- y is one of these, or some of these are less
abbrev pub Past : List (List Tuple) → List Tuple → Type 0
Past xs y = (has_ident xs y ≡ true) ⊎ (0 < below_count xs y)

less_than : (x : List Tuple) (ys : List (List Tuple)) (y : List Tuple) → AllMore x ys → Past ys y → Lt tuples x y
less_than x [] y h w = ⊎_elim (λ e. absurd (cc)) (λ l. absurd (omega arith)) w
less_than x (u ∷ us) y h w =
    ⊎_elim (λ l. lt_trans h.0 l)
    (λ r. ⊎_elim (λ e. subst (Lt tuples x) e h.0) (λ l. less_than x us y h.1 (later l)) r)
    (tri tuples u y)
  where
    later : Lt tuples y u → Past us y
    later l =
        let e = flipped l in
        let a = ap is_eq e in
        let b = ap is_lt e in
        ⊎_elim (λ k. inl (has_later a k)) (λ k. inr (below_later b k)) w
      where
        has_later : ident_eq u y ≡ false → has_ident (u ∷ us) y ≡ true → has_ident us y ≡ true
        has_later a k = sym (ap (λ c. c || has_ident us y) a) ∙ k

        below_later : ident_lt u y ≡ false → 0 < below_count (u ∷ us) y → 0 < below_count us y
        below_later b k = subst (λ n. 0 < n) (ap (λ c. if c then suc (below_count us y) else below_count us y) b) k

before : (xs ys : List (List Tuple)) (y : List Tuple) → Rising (xs ++ ys) → Past ys y → AllLess xs y
before [] ys y h w = tt
before (x ∷ xs) ys y h w = (less_than x ys y (more_right x xs ys h.0) w, before xs ys y h.1 w)

three : (xs ys zs : List (List Tuple)) (y : List Tuple) (p q r : Bool) (n m k : ℕ) → Tells xs y p n → Tells ys y q m → Tells zs y r k → find_ident (xs ++ (ys ++ zs)) y ≡ (if p || (q || r) then Ok (n + (m + k)) else Err (n + (m + k)))
three xs ys zs y p q r n m k f g h = told (xs ++ (ys ++ zs)) y (p || (q || r)) (n + (m + k)) (tells_append xs (ys ++ zs) y p (q || r) n (m + k) f (tells_append ys zs y q r m k g h))

pub found_own : (xs ys zs : List (List Tuple)) (y : List Tuple) (k : ℕ) → Rising (xs ++ (ys ++ zs)) → Ok k ≡ find_ident ys y → Ok (length xs + k) ≡ find_ident (xs ++ (ys ++ zs)) y
found_own xs ys zs y k h e =
    let t = read_ok ys y k (sym e) in
    let less = before xs (ys ++ zs) y h (inl (there t.0)) in
    let more = beyond ys zs y (rising_right xs (ys ++ zs) h) (inl t.0) in
    ap (λ i. Ok (length xs + i)) (omega arith) ∙ sym (three xs ys zs y false true false (length xs) k 0 (tells_less xs y less) t (tells_more zs y more))
  where
    there : has_ident ys y ≡ true → has_ident (ys ++ zs) y ≡ true
    there a = (tells_append ys zs y (has_ident ys y) (has_ident zs y) (below_count ys y) (below_count zs y) (refl, refl) (refl, refl)).0 ∙ ap (λ b. b || has_ident zs y) a

counts_behind : (ys zs : List (List Tuple)) (y : List Tuple) → below_count (ys ++ zs) y ≡ below_count ys y + below_count zs y
counts_behind ys zs y = (tells_append ys zs y (has_ident ys y) (has_ident zs y) (below_count ys y) (below_count zs y) (refl, refl) (refl, refl)).1

some_less : (ys zs : List (List Tuple)) (y : List Tuple) (k : ℕ) → below_count ys y ≡ k → 0 < k → Past (ys ++ zs) y
some_less ys zs y k e h = let c = counts_behind ys zs y in inr (omega (arith, c, e, h))

pub missed_own : (xs ys zs : List (List Tuple)) (y : List Tuple) (k : ℕ) → Rising (xs ++ (ys ++ zs)) → Err k ≡ find_ident ys y → 0 < k → k < length ys → Err (length xs + k) ≡ find_ident (xs ++ (ys ++ zs)) y
missed_own xs ys zs y k h e some most =
    let t = read_err ys y k (sym e) in
    let u = t.1 in
    let less = before xs (ys ++ zs) y h (some_less ys zs y k u some) in
    let more = beyond ys zs y (rising_right xs (ys ++ zs) h) (inr (omega (arith, u, most))) in
    ap (λ i. Err (length xs + i)) (omega arith) ∙ sym (three xs ys zs y false false false (length xs) k 0 (tells_less xs y less) t (tells_more zs y more))

pub found_left : (xs ys zs : List (List Tuple)) (y : List Tuple) → Rising (xs ++ (ys ++ zs)) → Err 0 ≡ find_ident ys y → 0 < length ys → find_ident xs y ≡ find_ident (xs ++ (ys ++ zs)) y
found_left xs ys zs y h e some =
    let t = read_err ys y 0 (sym e) in
    let u = t.1 in
    let more = beyond ys zs y (rising_right xs (ys ++ zs) h) (inr (omega (arith, u, some))) in
    go (has_ident xs y) (below_count xs y) ∙ sym (three xs ys zs y (has_ident xs y) false false (below_count xs y) 0 0 (refl, refl) t (tells_more zs y more))
  where
    go : (b : Bool) (n : ℕ) → (if b then Ok n else Err n) ≡ (if b || (false || false) then Ok (n + (0 + 0)) else Err (n + (0 + 0)))
    go true n = ap (λ k. Ok k) (omega arith)
    go false n = ap (λ k. Err k) (omega arith)

pub found_right : (xs ys zs : List (List Tuple)) (y : List Tuple) (k : ℕ) → Rising (xs ++ (ys ++ zs)) → Err k ≡ find_ident ys y → 0 < k → moved (length xs + k) (find_ident zs y) ≡ find_ident (xs ++ (ys ++ zs)) y
found_right xs ys zs y k h e some =
    let t = read_err ys y k (sym e) in
    let less = before xs (ys ++ zs) y h (some_less ys zs y k t.1 some) in
    go (has_ident zs y) (below_count zs y) ∙ sym (three xs ys zs y false false (has_ident zs y) (length xs) k (below_count zs y) (tells_less xs y less) t (refl, refl))
  where
    go : (b : Bool) (n : ℕ) → moved (length xs + k) (if b then Ok n else Err n) ≡ (if false || (false || b) then Ok (length xs + (k + n)) else Err (length xs + (k + n)))
    go true n = ap (λ i. Ok i) (omega arith)
    go false n = ap (λ i. Err i) (omega arith)
