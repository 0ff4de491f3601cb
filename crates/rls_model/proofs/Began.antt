-- The first identifier of an own insertion: it may be used, and it has room.
use Rattle.std.proofs.Common.{◌≡◌, ℕ, ◌+◌, ◌≤◌, Bool, true, false, List, [], ◌∷◌, refl, ap, ◌∙◌, arith, nat_le}
use Rattle.std.specs.Prelude.{if◌then◌else◌, ◌&&◌, ◌==◌, Option, Some, None, pos, negsuc, ◌+ℤ◌, ◌-ℤ◌, ◌≤ℤ◌}
use Rattle.std.specs.Int.RustNames.{int_le}
use Rattle.std.specs.Ordering.{int_eq}
use Rattle.std.proofs.lemmas.Int.{ints}
use Rattle.rls_ident.specs.declared.limits.TheConstants.{CHARACTERS, OFFSETS_END, GREATEST_OFFSET}
use Rattle.rls_ident.specs.declared.tuple.Tuple.{Tuple}
use Rattle.rls_ident.specs.Tuples.{replica_of, seq_of, offset_of, raised}
use Rattle.rls_ident.specs.Identifiers.{IsIdent, last_of, shifted, least_offset, greatest_offset}
use Rattle.rls_ident.specs.Between.{last_pos, lower_number, upper_number, middle, below, upper_behind, between}
use Rattle.rls_ident.proofs.Members.{and_left, and_right, and_true, eq_is, eq_test, int_is, int_test, neq_test, or_left, or_right, int_le_is}
use Rattle.rls_ident.proofs.Shifted.{raised_replica, raised_seq, raised_offset, last_shifted, last_at, ident_shifted}
use Rattle.rls_runs.specs.Places.{is_above}
use Rattle.rls_model.specs.declared.parts.Stem.{Stem}
use Rattle.rls_model.specs.Stems.{stem_of, due_of, due_offset, is_due, ends_at_low, may_use}
use Rattle.rls_model.specs.Editing.{own_stem, ends_below, may_append, may_prepend, or_missing, first_before, first_between}
use Rattle.rls_model.proofs.Grown.{AreEarlier}

-- what the first identifier of an insertion of n characters has to be
pub record Began (ss : List Stem) (a s : ℕ) (n : ℕ) (x : List Tuple) : Type 0 where
  pub ident : IsIdent x
  pub used : may_use ss a s (last_of x) n ≡ true
  pub room : (offset_of (last_of x) +ℤ pos n) ≤ℤ pos OFFSETS_END

-- ---- between

-- an identifier that ends in the first offset of the number
abbrev pub EndsIn : ℕ → ℕ → List Tuple → Type 0
EndsIn a s x = IsIdent x × (replica_of (last_of x) ≡ a) × (seq_of (last_of x) ≡ s) × (offset_of (last_of x) ≡ pos 0)

ends_behind : (a s : ℕ) (t : Tuple) (x : List Tuple) → EndsIn a s x → EndsIn a s (t ∷ x)
ends_behind a s t [] h = let k = h.0 in absurd (cc)
ends_behind a s t (u ∷ x) h = h

pub below_ends : (hi : List Tuple) (a s : ℕ) → EndsIn a s (below hi a s)
below_ends [] a s = (refl, refl, refl, refl)
below_ends (t ∷ []) a s = go (nat_le 2 (upper_number (t ∷ [])))
  where
    go : (b : Bool) → EndsIn a s (if b then middle 0 (upper_number (t ∷ [])) a s ∷ [] else raised (negsuc 0) t ∷ middle 0 last_pos a s ∷ [])
    go true = (refl, refl, refl, refl)
    go false = (refl, refl, refl, refl)
below_ends (t ∷ (u ∷ us)) a s = go (nat_le 2 (upper_number (t ∷ []))) (below_ends (u ∷ us) a s)
  where
    go : (b : Bool) → EndsIn a s (below (u ∷ us) a s) → EndsIn a s (if b then middle 0 (upper_number (t ∷ [])) a s ∷ [] else t ∷ below (u ∷ us) a s)
    go true h = (refl, refl, refl, refl)
    go false h = ends_behind a s t (below (u ∷ us) a s) h

pub between_ends : (lo hi : List Tuple) (a s : ℕ) → EndsIn a s (between lo hi a s)
between_ends [] hi a s = below_ends hi a s
between_ends (t ∷ ts) hi a s = go (nat_le (lower_number (t ∷ []) + 2) (upper_number hi)) (between_ends ts (upper_behind t hi) a s)
  where
    go : (b : Bool) → EndsIn a s (between ts (upper_behind t hi) a s) → EndsIn a s (if b then middle (lower_number (t ∷ [])) (upper_number hi) a s ∷ [] else t ∷ between ts (upper_behind t hi) a s)
    go true h = (refl, refl, refl, refl)
    go false h = ends_behind a s t (between ts (upper_behind t hi) a s) h

-- ---- the three ways

pub begins : (ss : List Stem) (a s n : ℕ) (x : List Tuple) → n ≤ CHARACTERS → EndsIn a s x → Began ss a s n x
begins ss a s n x l h =
    let t = last_of x in
    let f = eq_test (replica_of t) a h.1 in
    let g = eq_test (seq_of t) s h.2 in
    let d : due_offset ss a s t ≡ Some 0 =
    ap (λ b. if b then (if seq_of t == s then Some 0 else due_of (stem_of ss a (seq_of t))) else None) f ∙ ap (λ b. if b then Some 0 else due_of (stem_of ss a (seq_of t))) g in
    let o = h.3 in
    record {
      ident = h.0;
      used = or_left (is_due (due_offset ss a s t) (offset_of t)) ((replica_of t == a) && ends_at_low (stem_of ss a (seq_of t)) (offset_of t) n) (ap (λ e. is_due e (offset_of t)) d ∙ int_test (offset_of t) (pos 0) o);
      room = omega (arith, ints);
    }

appends : (ss : List Stem) (a s n : ℕ) (l : List Tuple) → AreEarlier ss a s → IsIdent l → (u : Stem) → replica_of (last_of l) ≡ a → stem_of ss a (seq_of (last_of l)) ≡ Some u →
    (offset_of (last_of l) +ℤ pos 1) ≡ pos u.next → (offset_of (last_of l) +ℤ pos n) ≤ℤ GREATEST_OFFSET → Began ss a s n (shifted (pos 1) l)
appends ss a s n l h i u r e o m =
    let t = last_of l in
    let v = last_of (shifted (pos 1) l) in
    let w = last_shifted (pos 1) l in
    let vr : replica_of v ≡ a = ap replica_of w ∙ (raised_replica (pos 1) t ∙ r) in
    let vs : seq_of v ≡ seq_of t = ap seq_of w ∙ raised_seq (pos 1) t in
    let vo : offset_of v ≡ offset_of t +ℤ pos 1 = ap offset_of w ∙ raised_offset (pos 1) t (last_at l i) in
    let p = h (seq_of t) u e in
    let f = eq_test (replica_of v) a vr in
    let g = neq_test (seq_of v) s (λ q. omega arith) in
    let k : stem_of ss a (seq_of v) ≡ Some u = ap (stem_of ss a) vs ∙ e in
    let d : due_offset ss a s v ≡ Some u.next =
    ap (λ b. if b then (if seq_of v == s then Some 0 else due_of (stem_of ss a (seq_of v))) else None) f
    ∙ (ap (λ b. if b then Some 0 else due_of (stem_of ss a (seq_of v))) g ∙ ap due_of k) in
    record {
      ident = ident_shifted (pos 1) l i;
      used = or_left (is_due (due_offset ss a s v) (offset_of v)) ((replica_of v == a) && ends_at_low (stem_of ss a (seq_of v)) (offset_of v) n) (ap (λ c. is_due c (offset_of v)) d ∙ int_test (offset_of v) (pos u.next) (vo ∙ o));
      room = omega (arith, ints);
    }

prepends : (ss : List Stem) (a s n : ℕ) (x : List Tuple) → AreEarlier ss a s → IsIdent x → (u : Stem) → replica_of (last_of x) ≡ a → stem_of ss a (seq_of (last_of x)) ≡ Some u →
    offset_of (last_of x) ≡ u.low → Began ss a s n (shifted (pos 0 -ℤ pos n) x)
prepends ss a s n x h i u r e o =
    let t = last_of x in
    let d = pos 0 -ℤ pos n in
    let v = last_of (shifted d x) in
    let w = last_shifted d x in
    let vr : replica_of v ≡ a = ap replica_of w ∙ (raised_replica d t ∙ r) in
    let vs : seq_of v ≡ seq_of t = ap seq_of w ∙ raised_seq d t in
    let vo : offset_of v ≡ offset_of t +ℤ (pos 0 -ℤ pos n) = ap offset_of w ∙ raised_offset d t (last_at x i) in
    let p = h (seq_of t) u e in
    let low = p.2 in
    let k : stem_of ss a (seq_of v) ≡ Some u = ap (stem_of ss a) vs ∙ e in
    let sum : (offset_of v +ℤ pos n) ≡ u.low = omega (arith, ints) in
    record {
      ident = ident_shifted d x i;
      used = or_right (is_due (due_offset ss a s v) (offset_of v)) ((replica_of v == a) && ends_at_low (stem_of ss a (seq_of v)) (offset_of v) n)
          (and_true (replica_of v == a) (ends_at_low (stem_of ss a (seq_of v)) (offset_of v) n) (eq_test (replica_of v) a vr) (ap (λ c. ends_at_low c (offset_of v) n) k ∙ int_test (offset_of v +ℤ pos n) u.low sum));
      room = omega (arith, ints);
    }

-- ---- together

-- a neighbour is an identifier, where there is one
abbrev pub IsNeighbour : Option (List Tuple) → Type 0
IsNeighbour None = Unit {0}
IsNeighbour (Some x) = IsIdent x

-- the own stem of a tuple
pub own_split : (ss : List Stem) (a : ℕ) (t : Tuple) (u : Stem) → own_stem ss a t ≡ Some u → (replica_of t ≡ a) × (stem_of ss a (seq_of t) ≡ Some u)
own_split ss a t u h = go (replica_of t == a) refl h
  where
    go : (b : Bool) → (replica_of t == a) ≡ b → (if b then stem_of ss a (seq_of t) else None) ≡ Some u → (replica_of t ≡ a) × (stem_of ss a (seq_of t) ≡ Some u)
    go true e k = (eq_is (replica_of t) a e, k)
    go false e k = absurd (cc)

pub before_began : (ss : List Stem) (a s : ℕ) (left right : Option (List Tuple)) (n : ℕ) → AreEarlier ss a s → n ≤ CHARACTERS → IsNeighbour right → Began ss a s n (first_before ss a s left right n)
before_began ss a s left None n h l i = begins ss a s n (between (or_missing left) [] a s) l (between_ends (or_missing left) [] a s)
before_began ss a s left (Some x) n h l i = go (own_stem ss a (last_of x)) refl
  where
    new : Began ss a s n (between (or_missing left) x a s)
    new = begins ss a s n (between (or_missing left) x a s) l (between_ends (or_missing left) x a s)

    pick : (b : Bool) → (b ≡ true → Began ss a s n (shifted (pos 0 -ℤ pos n) x)) → Began ss a s n (if b then shifted (pos 0 -ℤ pos n) x else between (or_missing left) x a s)
    pick true f = f refl
    pick false f = new

    go : (o : Option Stem) → own_stem ss a (last_of x) ≡ o → Began ss a s n (if may_prepend o left x n then shifted (pos 0 -ℤ pos n) x else between (or_missing left) x a s)
    go None e = new
    go (Some u) e = pick (may_prepend (Some u) left x n)
        (λ k. let r = own_split ss a (last_of x) u e in
        let b = int_eq (offset_of (last_of x)) u.low in
        let c = int_le least_offset (offset_of (last_of x) -ℤ pos n) in
        prepends ss a s n x h i u r.0 r.1 (int_is (offset_of (last_of x)) u.low (and_left b c (and_left (b && c) (is_above left (shifted (pos 0 -ℤ pos n) x)) k))))

pub began : (ss : List Stem) (a s : ℕ) (left right : Option (List Tuple)) (n : ℕ) → AreEarlier ss a s → n ≤ CHARACTERS → IsNeighbour left → IsNeighbour right → Began ss a s n (first_between ss a s left right n)
began ss a s None right n h l i j = before_began ss a s None right n h l j
began ss a s (Some x) right n h l i j = go (own_stem ss a (last_of x)) refl
  where
    rest : Began ss a s n (first_before ss a s (Some x) right n)
    rest = before_began ss a s (Some x) right n h l j

    pick : (b : Bool) → (b ≡ true → Began ss a s n (shifted (pos 1) x)) → Began ss a s n (if b then shifted (pos 1) x else first_before ss a s (Some x) right n)
    pick true f = f refl
    pick false f = rest

    go : (o : Option Stem) → own_stem ss a (last_of x) ≡ o → Began ss a s n (if may_append o x right n then shifted (pos 1) x else first_before ss a s (Some x) right n)
    go None e = rest
    go (Some u) e = pick (may_append (Some u) x right n)
        (λ k. let r = own_split ss a (last_of x) u e in
        let b = int_eq (offset_of (last_of x) +ℤ pos 1) (pos u.next) in
        let c = int_le (offset_of (last_of x) +ℤ pos n) greatest_offset in
        let q = and_left (b && c) (ends_below (shifted (pos n) x) right) k in
        appends ss a s n x h i u r.0 r.1 (int_is (offset_of (last_of x) +ℤ pos 1) (pos u.next) (and_left b c q)) (int_le_is (offset_of (last_of x) +ℤ pos n) (GREATEST_OFFSET) (and_right b c q)))
