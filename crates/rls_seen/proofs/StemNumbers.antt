-- The stems of a replica stay in order and in range.
use Rattle.std.proofs.Common.{◌≡◌, ℕ, ◌+◌, ◌<◌, ◌≤◌, ◌==◌, slice_index, Bool, true, false, List, [], ◌∷◌, length, refl, sym, ◌∙◌, subst, arith, inl, inr, ◌⊎◌, Option, Some, None, IsTrue, if◌then◌else◌}
use Rattle.std.specs.Prelude.{ℤ, pos, ◌+ℤ◌, ◌≤ℤ◌}
use Rattle.std.specs.List.{list_all}
use Rattle.std.specs.Ordering.{int_eq}
use Rattle.std.proofs.lemmas.Bool.Decides.{nat_tests}
use Rattle.std.proofs.lemmas.Int.{ints}
use Rattle.rls_ident.specs.declared.limits.TheConstants.{CHARACTERS, OFFSETS_END}
use Rattle.rls_ident.specs.declared.tuple.Tuple.{Tuple}
use Rattle.rls_ident.specs.Identifiers.{least_offset}
use Rattle.rls_ident.specs.Lists.{IsIn}
use Rattle.rls_ident.specs.Tuples.{replica_of, seq_of, offset_of}
use Rattle.rls_ident.specs.Vectors.{raise}
use Rattle.rls_ident.proofs.Members.{and_left, and_right, and_true, eq_not, int_is, int_test, in_all, all_in, some_is}
use Rattle.rls_ident.proofs.Vectors.{length-raise, index-raise_same, index-raise_le}
use Rattle.rls_model.specs.declared.parts.Stem.{Stem}
use Rattle.rls_model.specs.Stems.{is_stem, stem_of, stands_before, with_stem, new_stem, extended, with_extended, stems_after_insert, may_use}
use Rattle.rls_model.proofs.Grown.{AreEarlier, Use, Begins, Appends, Prepends, use_of}
use Rattle.rls_model.proofs.StemLists.{found_is}
use Rattle.rls_seen.specs.Sane.{IsStem, AreStems}

-- ---- found stems

found_in : (ss : List Stem) (a q : ℕ) (t : Stem) → stem_of ss a q ≡ Some t → IsIn t ss
found_in [] a q t e = absurd (cc)
found_in (u ∷ ss) a q t e = go (is_stem a q u) e (λ f. found_in ss a q t f)
  where
    go : (b : Bool) → (if b then Some u else stem_of ss a q) ≡ Some t → (stem_of ss a q ≡ Some t → IsIn t ss) → IsIn t (u ∷ ss)
    go true f ih = inl (some_is u t f)
    go false f ih = inr (ih f)

pub each_stem : (v : List ℕ) (ss : List Stem) (t : Stem) → AreStems v ss → IsIn t ss → IsStem v t
each_stem v [] t h p = absurd p
each_stem v (u ∷ ss) t h (inl e) = subst (IsStem v) e h.0
each_stem v (u ∷ ss) t h (inr p) = each_stem v ss t h.2 p

pub found_stem : (v : List ℕ) (ss : List Stem) (a q : ℕ) (t : Stem) → AreStems v ss → stem_of ss a q ≡ Some t → IsStem v t
found_stem v ss a q t h e = each_stem v ss t h (found_in ss a q t e)

-- the author's stems have earlier numbers
pub earlier : (v : List ℕ) (ss : List Stem) (a s : ℕ) → AreStems v ss → s ≡ slice_index v a + 1 → AreEarlier ss a s
earlier v ss a s h n q t e =
    let i = found_stem v ss a q t h e in
    let r = found_is ss a q t e in
    let c : t.s0 ≤ slice_index v a = subst (λ b. t.s0 ≤ slice_index v b) r.0 i.counted in
    let z = i.begun in
    let m = r.1 in
    (omega arith, omega arith, i.low)

-- ---- order

abbrev comes : Stem → Stem → Bool
comes t u = stands_before u.author u.s0 t

same_comes : (w t u : Stem) → is_stem w.author w.s0 t ≡ true → comes t u ≡ true → comes w u ≡ true
same_comes w t u e f = grind (arith, nat_tests)

other_comes : (w t : Stem) → is_stem w.author w.s0 t ≡ false → comes t w ≡ false → comes w t ≡ true
other_comes w t e f = grind (arith, nat_tests)

comes_trans : (w t u : Stem) → comes w t ≡ true → comes t u ≡ true → comes w u ≡ true
comes_trans w t u e f = grind (arith, nat_tests)

all_with : (p : Stem → Bool) (w : Stem) (ss : List Stem) → p w ≡ true → list_all p ss ≡ true → list_all p (with_stem w ss) ≡ true
all_with p w [] e h = and_true (p w) true e refl
all_with p w (t ∷ ss) e h =
    let a = and_left (p t) (list_all p ss) h in
    let b = and_right (p t) (list_all p ss) h in
    go (is_stem w.author w.s0 t) (stands_before w.author w.s0 t) a b (all_with p w ss e b)
  where
    go : (x y : Bool) → p t ≡ true → list_all p ss ≡ true → list_all p (with_stem w ss) ≡ true → list_all p (if x then w ∷ ss else if y then t ∷ with_stem w ss else w ∷ t ∷ ss) ≡ true
    go true y a b ih = and_true (p w) (list_all p ss) e b
    go false true a b ih = and_true (p t) (list_all p (with_stem w ss)) a ih
    go false false a b ih = and_true (p w) (list_all p (t ∷ ss)) e h

pub stems_with : (v : List ℕ) (w : Stem) (ss : List Stem) → IsStem v w → AreStems v ss → AreStems v (with_stem w ss)
stems_with v w [] i h = (i, refl, tt)
stems_with v w (t ∷ ss) i h = go (is_stem w.author w.s0 t) refl (stands_before w.author w.s0 t) refl (stems_with v w ss i h.2)
  where
    go : (x : Bool) → is_stem w.author w.s0 t ≡ x → (y : Bool) → stands_before w.author w.s0 t ≡ y → AreStems v (with_stem w ss) → AreStems v (if x then w ∷ ss else if y then t ∷ with_stem w ss else w ∷ t ∷ ss)
    go true e y f ih = (i, all_in (comes w) ss (λ u p. same_comes w t u e (in_all (comes t) u ss h.1 p)), h.2)
    go false e true f ih = (h.0, all_with (comes t) w ss f h.1, ih)
    go false e false f ih =
        let c = other_comes w t e f in
        (i, and_true (comes w t) (list_all (comes w) ss) c (all_in (comes w) ss (λ u p. comes_trans w t u c (in_all (comes t) u ss h.1 p))), h)

-- ---- range

raised_stem : (v : List ℕ) (a : ℕ) (t : Stem) → IsStem v t → IsStem (raise v a) t
raised_stem v a t i =
    let l : length (raise v a) ≡ length v = length-raise v a in
    let m = index-raise_le v a t.author in
    let x = i.author in
    let y = i.counted in
    record { author = omega arith; begun = i.begun; counted = omega arith; bottom = i.bottom; low = i.low; some = i.some; end = i.end }

pub stems_raised : (v : List ℕ) (a : ℕ) (ss : List Stem) → AreStems v ss → AreStems (raise v a) ss
stems_raised v a [] h = tt
stems_raised v a (t ∷ ss) h = (raised_stem v a t h.0, h.1, stems_raised v a ss h.2)

-- a new stem
pub new_in_range : (v : List ℕ) (a s n : ℕ) → a < length v → s ≡ slice_index v a + 1 → 0 < n → n ≤ OFFSETS_END → IsStem (raise v a) (new_stem a s n)
new_in_range v a s n l e z m =
    let k : length (raise v a) ≡ length v = length-raise v a in
    let i = index-raise_same v a l in
    record { author = omega arith; begun = omega arith; counted = omega arith; bottom = omega (arith, ints); low = omega (arith, ints); some = z; end = m }

-- a stem with more offsets
extended_in_range : (v : List ℕ) (u : Stem) (k : ℤ) (n : ℕ) → IsStem v u → least_offset ≤ℤ k → (k +ℤ pos n) ≤ℤ pos OFFSETS_END → (k ≡ pos u.next) ⊎ (k +ℤ pos n ≡ u.low) → IsStem v (extended u k n)
extended_in_range v u k n i l m w = go (int_eq k (pos u.next)) refl w
  where
    go : (b : Bool) → int_eq k (pos u.next) ≡ b → (k ≡ pos u.next) ⊎ (k +ℤ pos n ≡ u.low) → IsStem v (if b then record u { next = u.next + n } else record u { low = k })
    go true e w =
        let f = int_is k (pos u.next) e in
        let s = i.some in
        record { author = i.author; begun = i.begun; counted = i.counted; bottom = i.bottom; low = i.low; some = omega arith; end = omega (arith, ints) }
    go false e (inl f) = let g = int_test k (pos u.next) f in absurd (cc)
    go false e (inr f) = let z = i.low in record { author = i.author; begun = i.begun; counted = i.counted; bottom = l; low = omega (arith, ints); some = i.some; end = i.end }

-- ---- after an insertion

inserted_go : (v : List ℕ) (ss : List Stem) (a s : ℕ) (t : Tuple) (n : ℕ) → AreStems (raise v a) ss → Use ss a s t n → (seq_of t ≡ s → ⊥) → least_offset ≤ℤ offset_of t → (offset_of t +ℤ pos n) ≤ℤ pos OFFSETS_END
    → (o : Option Stem) → stem_of ss a (seq_of t) ≡ o → AreStems (raise v a) (with_extended o (offset_of t) n ss)
inserted_go v ss a s t n h u d l m None e = h
inserted_go v ss a s t n h u d l m (Some w) e =
    stems_with (raise v a) (extended w (offset_of t) n) ss (extended_in_range (raise v a) w (offset_of t) n (found_stem (raise v a) ss a (seq_of t) w h e) l m (way u)) h
  where
    one : (x : Stem) → stem_of ss a (seq_of t) ≡ Some x → x ≡ w
    one x f = some_is x w (sym f ∙ e)

    way : Use ss a s t n → (offset_of t ≡ pos w.next) ⊎ (offset_of t +ℤ pos n ≡ w.low)
    way (Begins r q k) = absurd (d q)
    way (Appends x r q f k) = inl (subst (λ (y : Stem). offset_of t ≡ pos y.next) (one x f) k)
    way (Prepends x r f k) = inr (subst (λ (y : Stem). offset_of t +ℤ pos n ≡ y.low) (one x f) k)

pub stems_inserted : (v : List ℕ) (ss : List Stem) (a s : ℕ) (t : Tuple) (n : ℕ) → AreStems v ss → a < length v → s ≡ slice_index v a + 1 → IsTrue (may_use ss a s t n) → 0 < n → n ≤ CHARACTERS
    → least_offset ≤ℤ offset_of t → (offset_of t +ℤ pos n) ≤ℤ pos OFFSETS_END → AreStems (raise v a) (stems_after_insert ss a s t n)
stems_inserted v ss a s t n h l e u z m b c = go (replica_of t == a) (seq_of t == s) refl
  where
    k : AreStems (raise v a) ss
    k = stems_raised v a ss h

    go : (x y : Bool) → (seq_of t == s) ≡ y → AreStems (raise v a) (if x then (if y then with_stem (new_stem a s n) ss else with_extended (stem_of ss a (seq_of t)) (offset_of t) n ss) else ss)
    go true true f = stems_with (raise v a) (new_stem a s n) ss (new_in_range v a s n l e z (omega arith)) k
    go true false f = inserted_go v ss a s t n k (use_of ss a s t n u) (eq_not (seq_of t) s f) b c (stem_of ss a (seq_of t)) refl
    go false y f = k
