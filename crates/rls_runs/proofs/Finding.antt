-- An identifier's place in a run.
use Rattle.std.proofs.Common.{◌≡◌, ℕ, zero, suc, ◌+◌, ◌<◌, ◌≤◌, Bool, true, false, cond, List, [], ◌∷◌, ◌++◌, map, length, drop, Some, Ok, Err, Result, get_or, slice_get, refl, sym, ap, ◌∙◌, arith}
use Rattle.std.specs.Prelude.{ℤ, pos, ◌+ℤ◌, ◌<ℤ◌, ◌≤ℤ◌, if◌then◌else◌}
use Rattle.std.specs.declared.cmp.Ordering.{Ordering}
use Rattle.std.specs.declared.cmp.Ordering.TheVariants.{Less, Equal, Greater}
use Rattle.std.specs.Ordering.{ordering_then, ordering_reverse, nat_cmp, int_cmp, is_lt, is_eq, MatchOrdering}
use Rattle.std.specs.Cmp.Lexicographic.{slice_cmp}
use Rattle.std.proofs.lemmas.Cmp.{tied_itself, nat_cmp_total, int_ranked}
use Rattle.std.proofs.lemmas.Int.{ints}
use Rattle.rls_ident.specs.declared.tuple.Tuple.{Tuple}
use Rattle.rls_ident.specs.declared.tuple.Tuple.TheVariants.{Low, At, High}
use Rattle.rls_ident.specs.Tuples.{tuple_cmp, spot_cmp, raised}
use Rattle.rls_ident.specs.Identifiers.{ident_cmp, ident_lt, ident_eq, shifted}
use Rattle.std.proofs.lemmas.List.{drop_more}
use Rattle.std.proofs.Math.ListN.{drop_of_length-le}
use Rattle.rls_ident.proofs.Loops.{drop_reads}
use Rattle.rls_ident.proofs.Tuples.{tuples, tuple_total, int_less}
use Rattle.rls_ident.proofs.BetweenLaws.{less_high}
use Rattle.rls_runs.specs.Runs.{run_idents}
use Rattle.rls_runs.specs.Entries.{has_ident}
use Rattle.rls_runs.specs.Places.{below_count, find_ident}

-- what is to be known of x among these identifiers: whether it is there, and how many are less
abbrev pub Tells : List (List Tuple) → List Tuple → Bool → ℕ → Type 0
Tells xs x there below = (has_ident xs x ≡ there) × (below_count xs x ≡ below)

pub told : (xs : List (List Tuple)) (x : List Tuple) (there : Bool) (below : ℕ) → Tells xs x there below → find_ident xs x ≡ (if there then Ok below else Err below)
told xs x there below h = ap (λ b. cond b (Ok (below_count xs x)) (Err (below_count xs x))) h.0 ∙ ap (λ n. cond there (Ok n) (Err n)) h.1

same_found : (xs ys : List (List Tuple)) (x y : List Tuple) → has_ident xs x ≡ has_ident ys y → below_count xs x ≡ below_count ys y → find_ident xs x ≡ find_ident ys y
same_found xs ys x y h k = told xs x (has_ident ys y) (below_count ys y) (h, k)

pub run_length : (x : List Tuple) (n : ℕ) → length (run_idents x n) ≡ n
run_length x zero = refl
run_length x (suc n) = ap suc (run_length (shifted (pos 1) x) n)

counted : (x : List Tuple) (xs : List (List Tuple)) (y : List Tuple) (b : Bool) (n : ℕ) → ident_lt x y ≡ b → below_count xs y ≡ n → below_count (x ∷ xs) y ≡ cond b (suc n) n
counted x xs y b n e h = ap (λ c. cond c (suc (below_count xs y)) (below_count xs y)) e ∙ ap (λ m. cond b (suc m) m) h

-- one more that is less, or that isn't
pub one_less : (x : List Tuple) (xs : List (List Tuple)) (y : List Tuple) (b : Bool) (n : ℕ) → ident_cmp x y ≡ Less → Tells xs y b n → Tells (x ∷ xs) y b (suc n)
one_less x xs y b n e h = let f = ap is_eq e in let g = h.0 in (rw (f, g) refl, counted x xs y true n (ap is_lt e) h.1)

pub one_above : (x : List Tuple) (xs : List (List Tuple)) (y : List Tuple) (n : ℕ) → ident_cmp x y ≡ Greater → Tells xs y false n → Tells (x ∷ xs) y false n
one_above x xs y n e h = let f = ap is_eq e in let g = h.0 in (rw (f, g) refl, counted x xs y false n (ap is_lt e) h.1)

pub one_same : (x : List Tuple) (xs : List (List Tuple)) (y : List Tuple) (n : ℕ) → ident_cmp x y ≡ Equal → Tells xs y false n → Tells (x ∷ xs) y true n
one_same x xs y n e h = let f = ap is_eq e in (rw f refl, counted x xs y false n (ap is_lt e) h.1)

-- ---- a common front

run_behind : (t : Tuple) (x : List Tuple) (u : Tuple) (n : ℕ) → run_idents (t ∷ (u ∷ x)) n ≡ map (λ y. t ∷ y) (run_idents (u ∷ x) n)
run_behind t x u zero = refl
run_behind t [] u (suc n) = ap (λ xs. (t ∷ (u ∷ [])) ∷ xs) (run_behind t [] (raised (pos 1) u) n)
run_behind t (v ∷ x) u (suc n) = ap (λ xs. (t ∷ (u ∷ (v ∷ x))) ∷ xs) (run_behind t (shifted (pos 1) (v ∷ x)) u n)

lt_behind : (t : Tuple) (x y : List Tuple) → ident_lt (t ∷ x) (t ∷ y) ≡ ident_lt x y
lt_behind t x y = ap (λ o. is_lt (ordering_then o (slice_cmp tuple_cmp x y))) (tied_itself tuple_total t)

eq_behind : (t : Tuple) (x y : List Tuple) → ident_eq (t ∷ x) (t ∷ y) ≡ ident_eq x y
eq_behind t x y = ap (λ o. is_eq (ordering_then o (slice_cmp tuple_cmp x y))) (tied_itself tuple_total t)

has_behind : (t : Tuple) (xs : List (List Tuple)) (y : List Tuple) → has_ident (map (λ x. t ∷ x) xs) (t ∷ y) ≡ has_ident xs y
has_behind t [] y = refl
has_behind t (x ∷ xs) y = let e = eq_behind t x y in let h = has_behind t xs y in rw (e, h) refl

count_behind : (t : Tuple) (xs : List (List Tuple)) (y : List Tuple) → below_count (map (λ x. t ∷ x) xs) (t ∷ y) ≡ below_count xs y
count_behind t [] y = refl
count_behind t (x ∷ xs) y = counted (t ∷ x) (map (λ z. t ∷ z) xs) (t ∷ y) (ident_lt x y) (below_count xs y) (lt_behind t x y) (count_behind t xs y)

pub find_behind : (t u : Tuple) (x y : List Tuple) (n : ℕ) → find_ident (run_idents (t ∷ (u ∷ x)) n) (t ∷ y) ≡ find_ident (run_idents (u ∷ x) n) y
find_behind t u x y n =
    ap (λ xs. find_ident xs (t ∷ y)) (run_behind t x u n)
    ∙ same_found (map (λ z. t ∷ z) (run_idents (u ∷ x) n)) (run_idents (u ∷ x) n) (t ∷ y) y (has_behind t (run_idents (u ∷ x) n) y) (count_behind t (run_idents (u ∷ x) n) y)

-- ---- another front

first_decides : (t u : Tuple) (x y : List Tuple) (o : Ordering) → tuple_cmp t u ≡ o → ident_cmp (t ∷ x) (u ∷ y) ≡ ordering_then o (ident_cmp x y)
first_decides t u x y o e = ap (λ c. ordering_then c (ident_cmp x y)) e

before_tells : (t : Tuple) (xs : List (List Tuple)) (u : Tuple) (y : List Tuple) → tuple_cmp t u ≡ Less → Tells (map (λ x. t ∷ x) xs) (u ∷ y) false (length xs)
before_tells t [] u y e = (refl, refl)
before_tells t (x ∷ xs) u y e = one_less (t ∷ x) (map (λ z. t ∷ z) xs) (u ∷ y) false (length xs) (first_decides t u x y Less e) (before_tells t xs u y e)

behind_tells : (t : Tuple) (xs : List (List Tuple)) (u : Tuple) (y : List Tuple) → tuple_cmp t u ≡ Greater → Tells (map (λ x. t ∷ x) xs) (u ∷ y) false 0
behind_tells t [] u y e = (refl, refl)
behind_tells t (x ∷ xs) u y e = one_above (t ∷ x) (map (λ z. t ∷ z) xs) (u ∷ y) 0 (first_decides t u x y Greater e) (behind_tells t xs u y e)

none_tells : (t : Tuple) (xs : List (List Tuple)) → Tells (map (λ x. t ∷ x) xs) [] false 0
none_tells t [] = (refl, refl)
none_tells t (x ∷ xs) = none_tells t xs

reversed : (t u : Tuple) (o : Ordering) → tuple_cmp u t ≡ o → tuple_cmp t u ≡ ordering_reverse o
reversed t u o e = tuple_total.antisymm t u ∙ ap ordering_reverse e

pub find_less : (t v u : Tuple) (x y : List Tuple) (n : ℕ) → tuple_cmp u t ≡ Less → find_ident (run_idents (t ∷ (v ∷ x)) n) (u ∷ y) ≡ Err 0
find_less t v u x y n e = ap (λ xs. find_ident xs (u ∷ y)) (run_behind t x v n) ∙ told (map (λ z. t ∷ z) (run_idents (v ∷ x) n)) (u ∷ y) false 0 (behind_tells t (run_idents (v ∷ x) n) u y (reversed t u Less e))

pub find_greater : (t v u : Tuple) (x y : List Tuple) (n : ℕ) → tuple_cmp u t ≡ Greater → find_ident (run_idents (t ∷ (v ∷ x)) n) (u ∷ y) ≡ Err n
find_greater t v u x y n e =
    ap (λ xs. find_ident xs (u ∷ y)) (run_behind t x v n)
    ∙ told (map (λ z. t ∷ z) (run_idents (v ∷ x) n)) (u ∷ y) false (length (run_idents (v ∷ x) n)) (before_tells t (run_idents (v ∷ x) n) u y (reversed t u Greater e))
    ∙ ap (λ k. Err k) (run_length (v ∷ x) n)

-- ---- one tuple

-- the run of one tuple, seen by its offset
abbrev pub spots : ℕ → ℕ → ℕ → ℤ → ℕ → List (List Tuple)
spots p r q o n = run_idents (At p r q o ∷ []) n

pub below_tells : (p r q : ℕ) (o : ℤ) (n : ℕ) (u : Tuple) (y : List Tuple) → ((k : ℤ) → tuple_cmp (At p r q k) u ≡ Less) → Tells (spots p r q o n) (u ∷ y) false n
below_tells p r q o zero u y e = (refl, refl)
below_tells p r q o (suc n) u y e = one_less (At p r q o ∷ []) (spots p r q (o +ℤ pos 1) n) (u ∷ y) false n (first_decides (At p r q o) u [] y Less (e o)) (below_tells p r q (o +ℤ pos 1) n u y e)

pub above_tells : (p r q : ℕ) (o : ℤ) (n : ℕ) (u : Tuple) (y : List Tuple) → ((k : ℤ) → tuple_cmp (At p r q k) u ≡ Greater) → Tells (spots p r q o n) (u ∷ y) false 0
above_tells p r q o zero u y e = (refl, refl)
above_tells p r q o (suc n) u y e = one_above (At p r q o ∷ []) (spots p r q (o +ℤ pos 1) n) (u ∷ y) 0 (first_decides (At p r q o) u [] y Greater (e o)) (above_tells p r q (o +ℤ pos 1) n u y e)

-- the offsets alone decide
offsets : (p r q : ℕ) (o k : ℤ) → tuple_cmp (At p r q o) (At p r q k) ≡ int_cmp o k
unfolding tuple_cmp spot_cmp
offsets p r q o k = let a = tied_itself nat_cmp_total p in let b = tied_itself nat_cmp_total r in let c = tied_itself nat_cmp_total q in simp (a, b, c)

int_equal : (a b : ℤ) (o : Ordering) → MatchOrdering o (a <ℤ b) (a ≡ b) (b <ℤ a) → a ≡ b → o ≡ Equal
int_equal a b Less m h = absurd (omega (arith, ints))
int_equal a b Equal m h = refl
int_equal a b Greater m h = absurd (omega (arith, ints))

int_greater : (a b : ℤ) (o : Ordering) → MatchOrdering o (a <ℤ b) (a ≡ b) (b <ℤ a) → b <ℤ a → o ≡ Greater
int_greater a b Less m h = absurd (omega (arith, ints))
int_greater a b Equal m h = absurd (omega (arith, ints))
int_greater a b Greater m h = refl

lt_cmp : (a b : ℤ) → a <ℤ b → int_cmp a b ≡ Less
lt_cmp a b h = int_less a b (int_cmp a b) (int_ranked a b (int_cmp a b) refl) h

eq_cmp : (a b : ℤ) → a ≡ b → int_cmp a b ≡ Equal
eq_cmp a b h = int_equal a b (int_cmp a b) (int_ranked a b (int_cmp a b) refl) h

gt_cmp : (a b : ℤ) → b <ℤ a → int_cmp a b ≡ Greater
gt_cmp a b h = int_greater a b (int_cmp a b) (int_ranked a b (int_cmp a b) refl) h

-- what an offset tells: the end is the offset after which the identifiers aren't less any more
module _ (p r q : ℕ) (k : ℤ) where
  at_end : List Tuple → ℤ
  at_end [] = k
  at_end (u ∷ us) = k +ℤ pos 1

  lower : (o : ℤ) (y : List Tuple) → o <ℤ at_end y → ident_cmp (At p r q o ∷ []) (At p r q k ∷ y) ≡ Less
  unfolding at_end
  lower o [] h = first_decides (At p r q o) (At p r q k) [] [] Less (offsets p r q o k ∙ lt_cmp o k h)
  lower o (u ∷ us) h = go (int_cmp o k) refl (int_ranked o k (int_cmp o k) refl)
    where
      go : (c : Ordering) → int_cmp o k ≡ c → MatchOrdering c (o <ℤ k) (o ≡ k) (k <ℤ o) → ident_cmp (At p r q o ∷ []) (At p r q k ∷ (u ∷ us)) ≡ Less
      go Less e m = first_decides (At p r q o) (At p r q k) [] (u ∷ us) Less (offsets p r q o k ∙ e)
      go Equal e m = first_decides (At p r q o) (At p r q k) [] (u ∷ us) Equal (offsets p r q o k ∙ e)
      go Greater e m = absurd (omega (arith, ints))

  higher : (o : ℤ) (y : List Tuple) → k <ℤ o → ident_cmp (At p r q o ∷ []) (At p r q k ∷ y) ≡ Greater
  higher o y h = first_decides (At p r q o) (At p r q k) [] y Greater (offsets p r q o k ∙ gt_cmp o k h)

  -- all are less
  all_lower : (o : ℤ) (n : ℕ) (y : List Tuple) → (o +ℤ pos n) ≤ℤ at_end y → Tells (spots p r q o n) (At p r q k ∷ y) false n
  all_lower o zero y h = (refl, refl)
  all_lower o (suc n) y h = one_less (At p r q o ∷ []) (spots p r q (o +ℤ pos 1) n) (At p r q k ∷ y) false n (lower o y (omega (arith, ints))) (all_lower (o +ℤ pos 1) n y (omega (arith, ints)))

  -- none is
  all_higher : (o : ℤ) (n : ℕ) (y : List Tuple) → k <ℤ o → Tells (spots p r q o n) (At p r q k ∷ y) false 0
  all_higher o zero y h = (refl, refl)
  all_higher o (suc n) y h = one_above (At p r q o ∷ []) (spots p r q (o +ℤ pos 1) n) (At p r q k ∷ y) 0 (higher o y h) (all_higher (o +ℤ pos 1) n y (omega (arith, ints)))

  -- so many are, where something stands after
  some_longer : (o : ℤ) (n m : ℕ) (u : Tuple) (us : List Tuple) → (o +ℤ pos m) ≡ (k +ℤ pos 1) → m ≤ n → Tells (spots p r q o n) (At p r q k ∷ (u ∷ us)) false m
  unfolding at_end
  some_longer o n zero u us e h = all_higher o n (u ∷ us) (omega (arith, ints))
  some_longer o zero (suc m) u us e h = absurd (omega arith)
  some_longer o (suc n) (suc m) u us e h = one_less (At p r q o ∷ []) (spots p r q (o +ℤ pos 1) n) (At p r q k ∷ (u ∷ us)) false m (lower o (u ∷ us) (omega (arith, ints))) (some_longer (o +ℤ pos 1) n m u us (omega (arith, ints)) (omega arith))

  -- so many are, and the next one is there where nothing stands after
  some_lower : (o : ℤ) (n m : ℕ) → (o +ℤ pos m) ≡ k → m < n → Tells (spots p r q o n) (At p r q k ∷ []) true m
  unfolding at_end
  some_lower o zero m e h = absurd (omega arith)
  some_lower o (suc n) zero e h =
      let here = first_decides (At p r q o) (At p r q k) [] [] Equal (offsets p r q o k ∙ eq_cmp o k (omega (arith, ints))) in
      one_same (At p r q o ∷ []) (spots p r q (o +ℤ pos 1) n) (At p r q k ∷ []) 0 here (all_higher (o +ℤ pos 1) n [] (omega (arith, ints)))
  some_lower o (suc n) (suc m) e h = one_less (At p r q o ∷ []) (spots p r q (o +ℤ pos 1) n) (At p r q k ∷ []) true m (lower o [] (omega (arith, ints))) (some_lower (o +ℤ pos 1) n m (omega (arith, ints)) (omega arith))

  -- the place by the offset
  pub place_before : (o : ℤ) (n : ℕ) (y : List Tuple) → k <ℤ o → find_ident (spots p r q o n) (At p r q k ∷ y) ≡ Err 0
  place_before o n y h = told (spots p r q o n) (At p r q k ∷ y) false 0 (all_higher o n y h)

  end_not_less : (y : List Tuple) → k ≤ℤ at_end y
  unfolding at_end
  end_not_less [] = omega (arith, ints)
  end_not_less (u ∷ us) = omega (arith, ints)

  pub place_behind : (o : ℤ) (n : ℕ) (y : List Tuple) → (o +ℤ pos n) ≤ℤ k → find_ident (spots p r q o n) (At p r q k ∷ y) ≡ Err n
  place_behind o n y h = let e = end_not_less y in told (spots p r q o n) (At p r q k ∷ y) false n (all_lower o n y (omega (arith, ints)))

  place_here : (o : ℤ) (n m : ℕ) → (o +ℤ pos m) ≡ k → m < n → find_ident (spots p r q o n) (At p r q k ∷ []) ≡ Ok m
  place_here o n m e h = told (spots p r q o n) (At p r q k ∷ []) true m (some_lower o n m e h)

  pub place_longer : (o : ℤ) (n m : ℕ) (y : List Tuple) → 0 < length y → (o +ℤ pos m) ≡ k → m < n → find_ident (spots p r q o n) (At p r q k ∷ y) ≡ Err (m + 1)
  place_longer o n m [] l e h = absurd (omega arith)
  place_longer o n m (u ∷ us) l e h = told (spots p r q o n) (At p r q k ∷ (u ∷ us)) false (m + 1) (some_longer o n (m + 1) u us (omega (arith, ints)) (omega arith))

  pub place_alone : (o : ℤ) (n m : ℕ) (y : List Tuple) → (0 < length y → ⊥) → (o +ℤ pos m) ≡ k → m < n → find_ident (spots p r q o n) (At p r q k ∷ y) ≡ Ok m
  place_alone o n m [] l e h = place_here o n m e h
  place_alone o n m (u ∷ us) l e h = absurd (l (omega arith))

-- ---- the other tuples

orders : (a b c : Ordering) → ordering_then (ordering_then a b) c ≡ ordering_then a (ordering_then b c)
orders Less b c = refl
orders Equal b c = refl
orders Greater b c = refl

-- the order of two tuples by all but the offset
abbrev pub base_cmp : ℕ → ℕ → ℕ → ℕ → ℕ → ℕ → Ordering
base_cmp p r q a b c = ordering_then (nat_cmp p a) (ordering_then (nat_cmp r b) (nat_cmp q c))

base_decides : (p r q a b c : ℕ) (k o : ℤ) → tuple_cmp (At p r q k) (At a b c o) ≡ ordering_then (base_cmp p r q a b c) (int_cmp k o)
unfolding tuple_cmp spot_cmp
base_decides p r q a b c k o = sym (orders (nat_cmp p a) (ordering_then (nat_cmp r b) (nat_cmp q c)) (int_cmp k o) ∙ ap (ordering_then (nat_cmp p a)) (orders (nat_cmp r b) (nat_cmp q c) (int_cmp k o)))

pub base_less : (p r q a b c n : ℕ) (k o : ℤ) (y : List Tuple) → base_cmp p r q a b c ≡ Less → find_ident (spots a b c o n) (At p r q k ∷ y) ≡ Err 0
base_less p r q a b c n k o y e =
    told (spots a b c o n) (At p r q k ∷ y) false 0 (above_tells a b c o n (At p r q k) y
    (λ j. reversed (At a b c j) (At p r q k) Less (base_decides p r q a b c k j ∙ ap (λ z. ordering_then z (int_cmp k j)) e)))

pub base_greater : (p r q a b c n : ℕ) (k o : ℤ) (y : List Tuple) → base_cmp p r q a b c ≡ Greater → find_ident (spots a b c o n) (At p r q k ∷ y) ≡ Err n
base_greater p r q a b c n k o y e =
    told (spots a b c o n) (At p r q k ∷ y) false n (below_tells a b c o n (At p r q k) y
    (λ j. reversed (At a b c j) (At p r q k) Greater (base_decides p r q a b c k j ∙ ap (λ z. ordering_then z (int_cmp k j)) e)))

low_greater : (p r q : ℕ) (k : ℤ) → tuple_cmp (At p r q k) Low ≡ Greater
unfolding tuple_cmp
low_greater p r q k = refl

pub find_low : (p r q n : ℕ) (o : ℤ) (y : List Tuple) → find_ident (spots p r q o n) (Low ∷ y) ≡ Err 0
find_low p r q n o y = told (spots p r q o n) (Low ∷ y) false 0 (above_tells p r q o n Low y (low_greater p r q))

pub find_high : (p r q n : ℕ) (o : ℤ) (y : List Tuple) → find_ident (spots p r q o n) (High ∷ y) ≡ Err n
find_high p r q n o y = told (spots p r q o n) (High ∷ y) false n (below_tells p r q o n High y (less_high p r q))

-- ---- a step of the comparison with the front

-- what is left of the front, and of the identifier
abbrev pub Left : List Tuple → Tuple → ℕ → List Tuple → ℕ → Result ℕ ℕ
Left front last n x i = find_ident (run_idents (drop i front ++ last ∷ []) n) (drop i x)

front_left : (front : List Tuple) (last : Tuple) (i : ℕ) (t d : Tuple) → i < length front → t ≡ get_or front i d → drop i front ++ last ∷ [] ≡ t ∷ (drop (i + 1) front ++ last ∷ [])
front_left front last i t d h e = ap (λ xs. xs ++ last ∷ []) (drop_more front i d h) ∙ ap (λ u. u ∷ (drop (i + 1) front ++ last ∷ [])) (sym e)

pub some_left : (xs : List Tuple) (last : Tuple) → (v : Tuple) × (ys : List Tuple) × (xs ++ last ∷ [] ≡ v ∷ ys)
some_left [] last = (last, [], refl)
some_left (x ∷ xs) last = (x, xs ++ last ∷ [], refl)

module _ (front : List Tuple) (last : Tuple) (n : ℕ) (x : List Tuple) (i : ℕ) (t d u : Tuple) (h : i < length front) (e : t ≡ get_or front i d) (g : slice_get x i ≡ Some u) where
  seen : Left front last n x i ≡ find_ident (run_idents (t ∷ (drop (i + 1) front ++ last ∷ [])) n) (u ∷ drop (i + 1) x)
  seen = ap (λ xs. find_ident (run_idents xs n) (drop i x)) (front_left front last i t d h e) ∙ ap (find_ident (run_idents (t ∷ (drop (i + 1) front ++ last ∷ [])) n)) (drop_reads x i u g)

  pub step_less : tuple_cmp u t ≡ Less → Left front last n x i ≡ Err 0
  step_less c = let s = some_left (drop (i + 1) front) last in
      seen ∙ ap (λ xs. find_ident (run_idents (t ∷ xs) n) (u ∷ drop (i + 1) x)) s.2 ∙ find_less t s.0 u s.1 (drop (i + 1) x) n c

  pub step_greater : tuple_cmp u t ≡ Greater → Left front last n x i ≡ Err n
  step_greater c = let s = some_left (drop (i + 1) front) last in
      seen ∙ ap (λ xs. find_ident (run_idents (t ∷ xs) n) (u ∷ drop (i + 1) x)) s.2 ∙ find_greater t s.0 u s.1 (drop (i + 1) x) n c

  pub step_equal : tuple_cmp u t ≡ Equal → Left front last n x i ≡ Left front last n x (i + 1)
  step_equal c = let s = some_left (drop (i + 1) front) last in
      seen
      ∙ ap (λ z. find_ident (run_idents (t ∷ (drop (i + 1) front ++ last ∷ [])) n) (z ∷ drop (i + 1) x)) (tuples.same u t c)
      ∙ ap (λ xs. find_ident (run_idents (t ∷ xs) n) (t ∷ drop (i + 1) x)) s.2
      ∙ find_behind t s.0 s.1 (drop (i + 1) x) n
      ∙ ap (λ xs. find_ident (run_idents xs n) (drop (i + 1) x)) (sym s.2)

nothing_tells : (v : Tuple) (n : ℕ) → Tells (run_idents (v ∷ []) n) [] false 0
nothing_tells v zero = (refl, refl)
nothing_tells v (suc n) = nothing_tells (raised (pos 1) v) n

-- nothing is left of the identifier
find_nothing : (xs : List Tuple) (last : Tuple) (n : ℕ) → find_ident (run_idents (xs ++ last ∷ []) n) [] ≡ Err 0
find_nothing xs last n = let s = some_left xs last in ap (λ ys. find_ident (run_idents ys n) []) s.2 ∙ go s.0 s.1
  where
    go : (v : Tuple) (ys : List Tuple) → find_ident (run_idents (v ∷ ys) n) [] ≡ Err 0
    go v [] = told (run_idents (v ∷ []) n) [] false 0 (nothing_tells v n)
    go v (w ∷ ys) = ap (λ zs. find_ident zs []) (run_behind v ys w n) ∙ told (map (λ z. v ∷ z) (run_idents (w ∷ ys) n)) [] false 0 (none_tells v (run_idents (w ∷ ys) n))

pub left_nothing : (front : List Tuple) (last : Tuple) (n : ℕ) (x : List Tuple) (i : ℕ) → length x ≤ i → Left front last n x i ≡ Err 0
left_nothing front last n x i h = ap (find_ident (run_idents (drop i front ++ last ∷ []) n)) (drop_of_length-le x h) ∙ find_nothing (drop i front) last n

pub left_last : (front : List Tuple) (last : Tuple) (n : ℕ) (x : List Tuple) (i : ℕ) (u : Tuple) → i ≡ length front → slice_get x (length front) ≡ Some u → Left front last n x i ≡ find_ident (run_idents (last ∷ []) n) (u ∷ drop (length front + 1) x)
left_last front last n x i u e g =
    ap (Left front last n x) e
    ∙ ap (λ xs. find_ident (run_idents (xs ++ last ∷ []) n) (drop (length front) x)) (drop_of_length-le front (omega arith))
    ∙ ap (find_ident (run_idents (last ∷ []) n)) (drop_reads x (length front) u g)
