-- The steps of making an identifier between two.
use Rattle.std.proofs.Common.{◌≡◌, ℕ, ◌+◌, ◌<◌, ◌≤◌, max, Bool, true, false, List, [], ◌∷◌, ◌++◌, length, drop, Option, Some, None, IfSome, IsTrue, slice_get, refl, sym, ap, ◌∙◌, subst, arith, length-drop, length-append, append_assoc}
use Rattle.std.specs.Prelude.{if◌then◌else◌, negsuc, pos}
use Rattle.std.specs.declared.cmp.Ordering.TheVariants.{Equal, Less, Greater}
use Rattle.std.specs.declared.cmp.Ordering.{Ordering}
use Rattle.std.specs.Ordering.{is_eq}
use Rattle.std.proofs.lemmas.Bool.{le-leb}
use Rattle.rls_ident.specs.declared.tuple.Tuple.{Tuple}
use Rattle.rls_ident.specs.declared.tuple.Tuple.TheVariants.{Low, At, High}
use Rattle.rls_ident.specs.Tuples.{tuple_cmp, tuple_eq, raised}
use Rattle.rls_ident.specs.Identifiers.{ident_lt, is_ident}
use Rattle.rls_ident.specs.Between.{lower_number, upper_number, middle, below, between, upper_behind, bound_tuples, are_bounds}
use Rattle.rls_ident.proofs.Lists.{Lt}
use Rattle.rls_ident.proofs.Tuples.{tuples, lt_of, of_lt}
use Rattle.rls_ident.proofs.Shifted.{shifted_none}
use Rattle.rls_ident.proofs.Loops.{drop_reads}
use Rattle.rls_ident.proofs.BetweenLaws.{IsOver, IsUnder, between_over, between_length}
use Rattle.rls_ident.proofs.Members.{not_le_test}

if_true : {X : Type 0} (b : Bool) (x y : X) → b ≡ true → (if b then x else y) ≡ x
if_true true x y h = refl
if_true false x y h = absurd cc

if_false : {X : Type 0} (b : Bool) (x y : X) → b ≡ false → (if b then x else y) ≡ y
if_false true x y h = absurd cc
if_false false x y h = refl

-- the number of a bound is that of its first tuple
upper_first : (t : Tuple) (ts : List Tuple) → upper_number (t ∷ ts) ≡ upper_number (t ∷ [])
upper_first Low ts = refl
upper_first (At p r n o) ts = refl
upper_first High ts = refl

pub upper_at : (hi : List Tuple) (i : ℕ) (t : Tuple) → slice_get hi i ≡ Some t → upper_number (drop i hi) ≡ upper_number (t ∷ [])
upper_at hi i t h = ap upper_number (drop_reads hi i t h) ∙ upper_first t (drop (i + 1) hi)

module _ (r s : ℕ) where
  room : (t : Tuple) (ts : List Tuple) → 2 ≤ upper_number (t ∷ []) → below (t ∷ ts) r s ≡ middle 0 (upper_number (t ∷ [])) r s ∷ []
  room t [] h = if_true _ _ _ (le-leb _ _ h)
  room t (u ∷ us) h = if_true _ _ _ (le-leb _ _ h)

  inner : (t : Tuple) (ts : List Tuple) → upper_number (t ∷ []) < 2 → 0 < length ts → below (t ∷ ts) r s ≡ t ∷ below ts r s
  inner t [] h l = absurd (omega arith)
  inner t (u ∷ us) h l = if_false _ _ _ (not_le_test _ _ h)

  last : (t : Tuple) (ts : List Tuple) → upper_number (t ∷ []) < 2 → length ts ≤ 0 → below (t ∷ ts) r s ≡ raised (negsuc 0) t ∷ below ts r s
  last t [] h l = if_false _ _ _ (not_le_test _ _ h)
  last t (u ∷ us) h l = absurd (omega arith)

  pub under_room : (hi : List Tuple) (i : ℕ) (t : Tuple) → slice_get hi i ≡ Some t → 2 ≤ upper_number (t ∷ []) → below (drop i hi) r s ≡ middle 0 (upper_number (t ∷ [])) r s ∷ []
  under_room hi i t h l = rw (drop_reads hi i t h) (room t (drop (i + 1) hi) l)

  pub under_inner : (hi : List Tuple) (i : ℕ) (t : Tuple) → slice_get hi i ≡ Some t → i + 1 < length hi → upper_number (drop i hi) < 2 → below (drop i hi) r s ≡ t ∷ below (drop (i + 1) hi) r s
  under_inner hi i t h more l =
      let e = upper_at hi i t h in
      rw (drop_reads hi i t h) (inner t (drop (i + 1) hi) (omega arith) (omega (arith, length-drop (i + 1) hi)))

  pub under_last : (hi : List Tuple) (i : ℕ) (t : Tuple) → slice_get hi i ≡ Some t → length hi ≤ i + 1 → upper_number (drop i hi) < 2 → below (drop i hi) r s ≡ raised (negsuc 0) t ∷ below (drop (i + 1) hi) r s
  under_last hi i t h done l =
      let e = upper_at hi i t h in
      rw (drop_reads hi i t h) (last t (drop (i + 1) hi) (omega arith) (omega (arith, length-drop (i + 1) hi)))

  pub over_room : (lo hi : List Tuple) (i : ℕ) (t : Tuple) → slice_get lo i ≡ Some t → lower_number (t ∷ []) + 2 ≤ upper_number hi → between (drop i lo) hi r s ≡ middle (lower_number (t ∷ [])) (upper_number hi) r s ∷ []
  over_room lo hi i t h l = rw (drop_reads lo i t h) (if_true _ _ _ (le-leb _ _ l))

  pub over_close : (lo hi : List Tuple) (i : ℕ) (t : Tuple) → slice_get lo i ≡ Some t → upper_number hi < lower_number (t ∷ []) + 2 → between (drop i lo) hi r s ≡ t ∷ between (drop (i + 1) lo) (upper_behind t hi) r s
  over_close lo hi i t h l = rw (drop_reads lo i t h) (if_false _ _ _ (not_le_test _ _ l))

behind_same : (t u : Tuple) (us : List Tuple) → tuple_cmp t u ≡ Equal → upper_behind t (u ∷ us) ≡ us
behind_same t u us e = if_true (tuple_eq t u) us [] (ap is_eq e)

behind_other : (t u : Tuple) (us : List Tuple) → (tuple_cmp t u ≡ Equal → ⊥) → upper_behind t (u ∷ us) ≡ []
behind_other t u us n = if_false (tuple_eq t u) us [] (go (tuple_cmp t u) n)
  where
    go : (o : Ordering) → (o ≡ Equal → ⊥) → is_eq o ≡ false
    go Less m = refl
    go Equal m = absurd (m refl)
    go Greater m = refl

-- what is left of the upper bound after a tuple that is copied
pub upper_same : (hi : List Tuple) (i : ℕ) (t u : Tuple) → slice_get hi i ≡ Some u → tuple_cmp t u ≡ Equal → upper_behind t (drop i hi) ≡ drop (i + 1) hi
upper_same hi i t u h e = ap (upper_behind t) (drop_reads hi i u h) ∙ behind_same t u (drop (i + 1) hi) e

pub upper_other : (hi : List Tuple) (i : ℕ) (t u : Tuple) → slice_get hi i ≡ Some u → (tuple_cmp t u ≡ Equal → ⊥) → upper_behind t (drop i hi) ≡ []
upper_other hi i t u h n = ap (upper_behind t) (drop_reads hi i u h) ∙ behind_other t u (drop (i + 1) hi) n

-- one more tuple in front
pub one_more : (front : List Tuple) (t : Tuple) (b after total : List Tuple) → b ≡ t ∷ after → front ++ b ≡ total → (front ++ t ∷ []) ++ after ≡ total
one_more front t b after total h e = rw append_assoc (ap (λ xs. front ++ xs) (sym h) ∙ e)

-- ---- it lies between its bounds

over_of : (lo hi : List Tuple) → is_ident hi ≡ true → Lt tuples lo hi → IsOver lo hi
over_of lo [] i h = tt
over_of lo (u ∷ us) i h = (i, h)

bounds_over : (lo hi : Option (List Tuple)) → IfSome hi (λ x. IsTrue (is_ident x)) → are_bounds lo hi ≡ true → IsOver (bound_tuples lo) (bound_tuples hi)
bounds_over None None i h = tt
bounds_over (Some x) None i h = tt
bounds_over None (Some []) i h = absurd (cc)
bounds_over None (Some (u ∷ us)) i h = (i, record { less = refl })
bounds_over (Some x) (Some y) i h = over_of x y i (lt_of x y h)

lies_above : (lo hi : Option (List Tuple)) (a s : ℕ) (x : List Tuple) → IfSome hi (λ x. IsTrue (is_ident x)) → are_bounds lo hi ≡ true → x ≡ between (bound_tuples lo) (bound_tuples hi) a s → are_bounds lo (Some x) ≡ true
lies_above None hi a s x i h e = refl
lies_above (Some l) hi a s x i h e =
    let p = (between_over l (bound_tuples hi) a s (pos 0) (bounds_over (Some l) hi i h)).0 in
    of_lt l x (subst (λ y. Lt tuples l y) (shifted_none (between l (bound_tuples hi) a s) ∙ sym e) p)

under_of : (x y : List Tuple) → is_ident y ≡ true → IsUnder x y → ident_lt x y ≡ true
under_of x [] i h = absurd (cc)
under_of x (u ∷ us) i h = of_lt x (u ∷ us) h

lies_below : (lo hi : Option (List Tuple)) (a s : ℕ) (x : List Tuple) → IfSome hi (λ x. IsTrue (is_ident x)) → are_bounds lo hi ≡ true → x ≡ between (bound_tuples lo) (bound_tuples hi) a s → are_bounds (Some x) hi ≡ true
lies_below lo None a s x i h e = refl
lies_below lo (Some y) a s x i h e =
    let p = (between_over (bound_tuples lo) y a s (pos 0) (bounds_over lo (Some y) i h)).1 in
    under_of x y i (subst (λ z. IsUnder z y) (shifted_none (between (bound_tuples lo) y a s) ∙ sym e) p)

lies_short : (lo hi : List Tuple) (a s : ℕ) (x : List Tuple) → x ≡ between lo hi a s → length x ≤ max (length lo) (length hi) + 1
lies_short lo hi a s x e = let l = between_length lo hi a s in let k = ap length e in omega arith

abbrev pub Lies : Option (List Tuple) → Option (List Tuple) → List Tuple → Type 0
Lies lo hi x = IsTrue (are_bounds lo (Some x)) × IsTrue (are_bounds (Some x) hi) × (length x ≤ max (length (bound_tuples lo)) (length (bound_tuples hi)) + 1)

pub lies : (lo hi : Option (List Tuple)) (a s : ℕ) → IfSome hi (λ x. IsTrue (is_ident x)) → are_bounds lo hi ≡ true → (x : List Tuple) → x ≡ between (bound_tuples lo) (bound_tuples hi) a s → Lies lo hi x
lies lo hi a s i h x e = (lies_above lo hi a s x i h e, lies_below lo hi a s x i h e, lies_short (bound_tuples lo) (bound_tuples hi) a s x e)

-- a step where both bounds have tuples, and the lower one's is copied
module _ (r s : ℕ) (lo hi : List Tuple) (i : ℕ) (t u : Tuple) (front total : List Tuple) (low : slice_get lo i ≡ Some t) (high : slice_get hi i ≡ Some u) (close : upper_number (u ∷ []) < lower_number (t ∷ []) + 2)
    (so_far : front ++ between (drop i lo) (drop i hi) r s ≡ total) where
  copied : between (drop i lo) (drop i hi) r s ≡ t ∷ between (drop (i + 1) lo) (upper_behind t (drop i hi)) r s
  copied = over_close r s lo (drop i hi) i t low (subst (λ n. n < lower_number (t ∷ []) + 2) (sym (upper_at hi i u high)) close)

  pub goes_on : tuple_cmp t u ≡ Equal → (front ++ t ∷ []) ++ between (drop (i + 1) lo) (drop (i + 1) hi) r s ≡ total
  goes_on e = one_more front t _ _ total (copied ∙ ap (λ x. t ∷ between (drop (i + 1) lo) x r s) (upper_same hi i t u high e)) so_far

  pub parts : (tuple_cmp t u ≡ Equal → ⊥) → (front ++ t ∷ []) ++ between (drop (i + 1) lo) [] r s ≡ total
  parts n = one_more front t _ _ total (copied ∙ ap (λ x. t ∷ between (drop (i + 1) lo) x r s) (upper_other hi i t u high n)) so_far

-- the same with the tuple pushed
pub pushed : (r s : ℕ) (lo : List Tuple) (i : ℕ) (t : Tuple) (front more total x : List Tuple) → more ≡ front ++ t ∷ [] → length front ≡ i → (front ++ t ∷ []) ++ between (drop (i + 1) lo) [] r s ≡ total → x ≡ more ++ between (drop (length more) lo) [] r s → x ≡ total
pushed r s lo i t front more total x e n h q =
    let l = ap length e in
    let k : length more ≡ i + 1 = omega (arith, length-append front (t ∷ [])) in
    q ∙ ap (λ m. more ++ between (drop m lo) [] r s) k ∙ ap (λ m. m ++ between (drop (i + 1) lo) [] r s) e ∙ h
