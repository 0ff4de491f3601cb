-- Entries put into a strictly rising list at one place.
use Rattle.std.proofs.Common.{◌≡◌, ℕ, zero, suc, ◌≤◌, ◌<◌, List, [], ◌∷◌, ◌++◌, map, length, take, drop, refl, sym, ap, ◌∙◌, subst, inl, inr, ⊎_elim, arith}
use Rattle.std.specs.Prelude.{Option, Some, None, pos, ◌+ℤ◌, slice_get}
use Rattle.std.proofs.lemmas.Int.{ints}
use Rattle.rls_ident.specs.declared.tuple.Tuple.{Tuple}
use Rattle.rls_ident.specs.Identifiers.{IsIdent, shifted}
use Rattle.rls_ident.specs.Lists.{IsIn}
use Rattle.rls_ident.proofs.Lists.{Lt, lt_trans}
use Rattle.rls_ident.proofs.Tuples.{tuples}
use Rattle.rls_ident.proofs.Members.{in_split, in_take, in_drop}
use Rattle.rls_ident.proofs.Shifted.{shifted_none, shifted_shifted, shifted_less, ident_shifted}
use Rattle.rls_model.specs.Editing.{get_before}
use Rattle.rls_runs.proofs.Sorted.{Entry, IsBelow, AreAbove, Rises, above_at}

-- z is above the left neighbour, where there is one
abbrev pub IsAfter : Option (List Tuple) → List Tuple → Type 0
IsAfter None z = Unit {0}
IsAfter (Some l) z = Lt tuples l z

-- z is below the right neighbour, where there is one
abbrev pub IsBefore : List Tuple → Option (List Tuple) → Type 0
IsBefore z None = Unit {0}
IsBefore z (Some r) = Lt tuples z r

-- the neighbours are in order
abbrev pub AreNeighbours : Option (List Tuple) → Option (List Tuple) → Type 0
AreNeighbours None r = Unit {0}
AreNeighbours (Some l) r = IsBefore l r

-- the identifiers of entries
abbrev pub ids : List Entry → List (List Tuple)
ids xs = map (λ x. x.0) xs

-- characters with consecutive identifiers from x on
abbrev pub entries : List Tuple → List ℕ → List Entry
entries x [] = []
entries x (c ∷ cs) = (x, c) ∷ entries (shifted (pos 1) x) cs

pub chars-entries : (x : List Tuple) (cs : List ℕ) → map (λ y. y.1) (entries x cs) ≡ cs
chars-entries x [] = refl
chars-entries x (c ∷ cs) = ap (λ ds. c ∷ ds) (chars-entries (shifted (pos 1) x) cs)

-- ---- rising lists

pub above_of : (x : Entry) (ys : List Entry) → ((y : Entry) → IsIn y ys → IsBelow x y) → AreAbove x ys
above_of x [] f = tt
above_of x (y ∷ ys) f = (f y (inl refl), above_of x ys (λ z p. f z (inr p)))

pub rises_append : (xs ys : List Entry) → Rises xs → Rises ys → ((x y : Entry) → IsIn x xs → IsIn y ys → IsBelow x y) → Rises (xs ++ ys)
rises_append [] ys r s f = s
rises_append (x ∷ xs) ys r s f =
    (above_of x (xs ++ ys) (λ z p. ⊎_elim (λ q. above_at x z xs r.0 q) (λ q. f x z (inl refl) q) (in_split z xs ys p)), rises_append xs ys r.1 s (λ z w p q. f z w (inr p) q))

pub rises_splice : (n : ℕ) (xs mid : List Entry) → Rises xs → Rises mid → ((m y : Entry) → IsIn m mid → IsIn y (take n xs) → IsBelow y m) → ((m y : Entry) → IsIn m mid → IsIn y (drop n xs) → IsBelow m y) →
    Rises (take n xs ++ (mid ++ drop n xs))
rises_splice zero xs mid r s f g = rises_append mid xs s r g
rises_splice (suc n) [] mid r s f g = rises_append mid [] s tt (λ x y p q. absurd q)
rises_splice (suc n) (x ∷ xs) mid r s f g = (
  above_of x (take n xs ++ (mid ++ drop n xs))
      (λ z p. ⊎_elim (λ q. above_at x z xs r.0 (in_take n z xs q)) (λ q. ⊎_elim (λ t. f z x t (inl refl)) (λ t. above_at x z xs r.0 (in_drop n z xs t)) (in_split z mid (drop n xs) q)) (in_split z (take n xs) (mid ++ drop n xs) p)),
  rises_splice n xs mid r.1 s (λ m y p q. f m y p (inr q)) g,
)

-- what is above the left neighbour of a place is above all that stands before the place
pub take_below : (n : ℕ) (xs : List Entry) → n ≤ length xs → Rises xs → (z : List Tuple) → IsAfter (get_before (ids xs) n) z → (y : Entry) → IsIn y (take n xs) → Lt tuples y.0 z
take_below zero xs h r z a y p = absurd p
take_below (suc n) [] h r z a y p = absurd p
take_below (suc zero) (x ∷ xs) h r z a y (inl e) = subst (λ (w : Entry). Lt tuples w.0 z) e a
take_below (suc zero) (x ∷ xs) h r z a y (inr p) = absurd p
take_below (suc (suc n)) (x ∷ []) h r z a y p = absurd (omega arith)
take_below (suc (suc n)) (x ∷ (w ∷ xs)) h r z a y (inl e) =
    subst (λ (v : Entry). Lt tuples v.0 z) e (lt_trans r.0.0 (take_below (suc n) (w ∷ xs) (omega arith) r.1 z a w (inl refl)))
take_below (suc (suc n)) (x ∷ (w ∷ xs)) h r z a y (inr p) = take_below (suc n) (w ∷ xs) (omega arith) r.1 z a y p

-- and what is below the right one is below all that stands from the place on
pub drop_above : (n : ℕ) (xs : List Entry) → Rises xs → (z : List Tuple) → IsBefore z (slice_get (ids xs) n) → (y : Entry) → IsIn y (drop n xs) → Lt tuples z y.0
drop_above zero [] r z b y p = absurd p
drop_above zero (x ∷ xs) r z b y (inl e) = subst (λ (w : Entry). Lt tuples z w.0) e b
drop_above zero (x ∷ xs) r z b y (inr p) = lt_trans b (above_at x y xs r.0 p)
drop_above (suc n) [] r z b y p = absurd p
drop_above (suc n) (x ∷ xs) r z b y p = drop_above n xs r.1 z b y p

next_before : (x : Entry) (xs : List Entry) → AreAbove x xs → IsBefore x.0 (slice_get (ids xs) 0)
next_before x [] a = tt
next_before x (y ∷ ys) a = a.0

pub neighbours : (n : ℕ) (xs : List Entry) → Rises xs → AreNeighbours (get_before (ids xs) n) (slice_get (ids xs) n)
neighbours zero xs r = tt
neighbours (suc n) [] r = tt
neighbours (suc zero) (x ∷ xs) r = next_before x xs r.0
neighbours (suc (suc n)) (x ∷ xs) r = neighbours (suc n) xs r.1

-- ---- entries

-- each has the first identifier raised by its place
pub entry_place : (x : List Tuple) (cs : List ℕ) (y : Entry) → IsIn y (entries x cs) → (k : ℕ) × (k < length cs) × (y.0 ≡ shifted (pos k) x)
entry_place x [] y p = absurd p
entry_place x (c ∷ cs) y (inl e) = (0, omega arith, ap (λ (w : Entry). w.0) (sym e) ∙ sym (shifted_none x))
entry_place x (c ∷ cs) y (inr p) =
    let r = entry_place (shifted (pos 1) x) cs y p in
    let e : pos 1 +ℤ pos r.0 ≡ pos (suc r.0) = omega (arith, ints) in
    let h = r.1 in
    (suc r.0, omega arith, r.2 ∙ (shifted_shifted (pos r.0) (pos 1) x ∙ ap (λ k. shifted k x) e))

pub entries_rise : (x : List Tuple) (cs : List ℕ) → IsIdent x → Rises (entries x cs)
entries_rise x [] i = tt
entries_rise x (c ∷ cs) i =
    let j = ident_shifted (pos 1) x i in (
      above_of (x, c) (entries (shifted (pos 1) x) cs)
          (λ y p. let r = entry_place (shifted (pos 1) x) cs y p in
          let e : y.0 ≡ shifted (pos 1 +ℤ pos r.0) x = r.2 ∙ shifted_shifted (pos r.0) (pos 1) x in
          let l = shifted_less (pos 0) (pos 1 +ℤ pos r.0) x i (omega (arith, ints)) in
          subst (λ z. Lt tuples x z) (sym e) (subst (λ z. Lt tuples z (shifted (pos 1 +ℤ pos r.0) x)) (shifted_none x) l)),
      entries_rise (shifted (pos 1) x) cs j,
    )

-- ---- the text

pub take_map : {A B : Type 0} (f : A → B) (n : ℕ) (xs : List A) → map f (take n xs) ≡ take n (map f xs)
take_map f zero xs = refl
take_map f (suc n) [] = refl
take_map f (suc n) (x ∷ xs) = ap (λ ys. f x ∷ ys) (take_map f n xs)

pub drop_map : {A B : Type 0} (f : A → B) (n : ℕ) (xs : List A) → map f (drop n xs) ≡ drop n (map f xs)
drop_map f zero xs = refl
drop_map f (suc n) [] = refl
drop_map f (suc n) (x ∷ xs) = drop_map f n xs

pub append_map : {A B : Type 0} (f : A → B) (xs ys : List A) → map f (xs ++ ys) ≡ map f xs ++ map f ys
append_map f [] ys = refl
append_map f (x ∷ xs) ys = ap (λ zs. f x ∷ zs) (append_map f xs ys)
