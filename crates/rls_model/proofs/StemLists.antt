-- Finding a stem in a list after one was put in, and what a stem has used.
use Rattle.std.proofs.Common.{◌≡◌, ℕ, Bool, true, false, List, [], ◌∷◌, refl, sym, ap, ◌∙◌, subst, arith}
use Rattle.std.specs.Prelude.{if◌then◌else◌, ◌==◌, Some, ℤ, pos, ◌≤ℤ◌, ◌<ℤ◌}
use Rattle.std.specs.Int.RustNames.{int_lt, int_le}
use Rattle.std.proofs.lemmas.Int.{ints}
use Rattle.rls_ident.proofs.Members.{and_left, and_right, and_true, eq_is, eq_refl, not_true, int_le_test, int_lt_test}
use Rattle.rls_model.specs.declared.parts.Stem.{Stem}
use Rattle.rls_model.specs.Stems.{is_stem, stem_of, has_used, stands_before, with_stem}

-- ---- tests

pub stem_is : (a s : ℕ) (t : Stem) → is_stem a s t ≡ true → (t.author ≡ a) × (t.s0 ≡ s)
stem_is a s t h = (eq_is t.author a (and_left (t.author == a) (t.s0 == s) h), eq_is t.s0 s (and_right (t.author == a) (t.s0 == s) h))

pub stem_self : (a s : ℕ) (t : Stem) → t.author ≡ a → t.s0 ≡ s → is_stem a s t ≡ true
stem_self a s t e f = rw (e, f) (and_true (a == a) (s == s) (eq_refl a) (eq_refl s))

-- ---- finding

pub found_is : (ss : List Stem) (a s : ℕ) (t : Stem) → stem_of ss a s ≡ Some t → (t.author ≡ a) × (t.s0 ≡ s)
found_is [] a s t h = absurd (cc)
found_is (u ∷ ss) a s t h = go (is_stem a s u) refl (λ k. found_is ss a s t k) h
  where
    go : (b : Bool) → is_stem a s u ≡ b → (stem_of ss a s ≡ Some t → (t.author ≡ a) × (t.s0 ≡ s)) → (if b then Some u else stem_of ss a s) ≡ Some t → (t.author ≡ a) × (t.s0 ≡ s)
    go true e ih k = let f : u ≡ t = cc in let P : Stem → Type 0 = λ v. (v.author ≡ a) × (v.s0 ≡ s) in subst P f (stem_is a s u e)
    go false e ih k = ih k

-- the stem that was put in is found
pub found_same : (w : Stem) (ss : List Stem) → stem_of (with_stem w ss) w.author w.s0 ≡ Some w
found_same w [] = let e = stem_self w.author w.s0 w refl refl in rw e refl
found_same w (u ∷ ss) = go (is_stem w.author w.s0 u) refl (stands_before w.author w.s0 u) (found_same w ss)
  where
    here : (rest : List Stem) → stem_of (w ∷ rest) w.author w.s0 ≡ Some w
    here rest = let e = stem_self w.author w.s0 w refl refl in rw e refl

    go : (b : Bool) → is_stem w.author w.s0 u ≡ b → (c : Bool) → stem_of (with_stem w ss) w.author w.s0 ≡ Some w →
        stem_of (if b then w ∷ ss else if c then u ∷ with_stem w ss else w ∷ u ∷ ss) w.author w.s0 ≡ Some w
    go true e c ih = here ss
    go false e true ih = rw e ih
    go false e false ih = here (u ∷ ss)

-- any other is found as before
pub found_other : (w : Stem) (ss : List Stem) (a s : ℕ) → is_stem a s w ≡ false → stem_of (with_stem w ss) a s ≡ stem_of ss a s
found_other w [] a s h = rw h refl
found_other w (u ∷ ss) a s h = go (is_stem w.author w.s0 u) refl (stands_before w.author w.s0 u) (found_other w ss a s h)
  where
    same : is_stem w.author w.s0 u ≡ true → is_stem a s u ≡ false
    same e =
        let p = stem_is w.author w.s0 u e in
        not_true (is_stem a s u) (λ k. let q = stem_is a s u k in let r = stem_self a s w (sym p.0 ∙ q.0) (sym p.1 ∙ q.1) in absurd (cc))

    go : (b : Bool) → is_stem w.author w.s0 u ≡ b → (c : Bool) → stem_of (with_stem w ss) a s ≡ stem_of ss a s →
        stem_of (if b then w ∷ ss else if c then u ∷ with_stem w ss else w ∷ u ∷ ss) a s ≡ stem_of (u ∷ ss) a s
    go true e c ih = let f = same e in rw (h, f) refl
    go false e true ih = ap (λ r. if is_stem a s u then Some u else r) ih
    go false e false ih = rw h refl

-- ---- what a stem has used

pub used_is : (t : Stem) (k : ℤ) → has_used (Some t) k ≡ true → (t.low ≤ℤ k) × (k <ℤ pos t.next)
used_is t k h =
    let a = and_left (int_le t.low k) (int_lt k (pos t.next)) h in
    let b = and_right (int_le t.low k) (int_lt k (pos t.next)) h in
    (omega (arith, ints), omega (arith, ints))

pub used_from : (t : Stem) (k : ℤ) → t.low ≤ℤ k → k <ℤ pos t.next → has_used (Some t) k ≡ true
used_from t k h l = and_true (int_le t.low k) (int_lt k (pos t.next)) (int_le_test t.low k h) (int_lt_test k (pos t.next) l)

pub unused_from : (t : Stem) (k : ℤ) → (t.low ≤ℤ k → k <ℤ pos t.next → ⊥) → has_used (Some t) k ≡ false
unused_from t k h = not_true (has_used (Some t) k) (λ e. let p = used_is t k e in h p.0 p.1)
