-- What an operation does to its author's stems.
use Rattle.std.proofs.Common.{◌≡◌, ℕ, ◌+◌, ◌≤◌, ◌<◌, Bool, true, false, List, refl, sym, ap, ◌∙◌, subst, arith, inl, inr, ◌⊎◌, ⊎_elim}
use Rattle.std.specs.Prelude.{if◌then◌else◌, ◌&&◌, ◌==◌, Option, Some, None, ℤ, pos, ◌+ℤ◌, ◌≤ℤ◌, ◌<ℤ◌, IsTrue}
use Rattle.std.specs.Ordering.{int_eq}
use Rattle.std.proofs.lemmas.Int.{by_lt_z, ints}
use Rattle.rls_ident.specs.declared.tuple.Tuple.{Tuple}
use Rattle.rls_ident.specs.Tuples.{replica_of, seq_of, offset_of}
use Rattle.rls_ident.proofs.Members.{and_left, and_right, eq_is, eq_not, eq_refl, int_is, int_test, neq_test, or_split}
use Rattle.rls_model.specs.declared.parts.Stem.{Stem}
use Rattle.rls_model.specs.Stems.{stem_of, has_used, with_stem, new_stem, extended, with_extended, stems_after_insert, due_of, due_offset, is_due, ends_at_low, may_use}
use Rattle.rls_model.proofs.StemLists.{found_is, used_is, used_from, unused_from}

-- ---- who may use a tuple

pub data Use (ss : List Stem) (a s : ℕ) (t : Tuple) (n : ℕ) : Type 0 where
  Begins : replica_of t ≡ a → seq_of t ≡ s → offset_of t ≡ pos 0 → Use ss a s t n
  Appends : (stem : Stem) → replica_of t ≡ a → (seq_of t ≡ s → ⊥) → stem_of ss a (seq_of t) ≡ Some stem → offset_of t ≡ pos stem.next → Use ss a s t n
  Prepends : (stem : Stem) → replica_of t ≡ a → stem_of ss a (seq_of t) ≡ Some stem → offset_of t +ℤ pos n ≡ stem.low → Use ss a s t n

use_due : (ss : List Stem) (a s : ℕ) (t : Tuple) (n : ℕ) → is_due (due_offset ss a s t) (offset_of t) ≡ true → Use ss a s t n
use_due ss a s t n h = first (replica_of t == a) refl h
  where
    third : (o : Option Stem) → stem_of ss a (seq_of t) ≡ o → replica_of t ≡ a → (seq_of t ≡ s → ⊥) → is_due (due_of o) (offset_of t) ≡ true → Use ss a s t n
    third None e r q k = absurd (cc)
    third (Some stem) e r q k = Appends stem r q e (int_is (offset_of t) (pos stem.next) k)

    second : (b : Bool) → (seq_of t == s) ≡ b → replica_of t ≡ a → is_due (if b then Some 0 else due_of (stem_of ss a (seq_of t))) (offset_of t) ≡ true → Use ss a s t n
    second true e r k = Begins r (eq_is (seq_of t) s e) (int_is (offset_of t) (pos 0) k)
    second false e r k = third (stem_of ss a (seq_of t)) refl r (eq_not (seq_of t) s e) k

    first : (b : Bool) → (replica_of t == a) ≡ b → is_due (if b then (if seq_of t == s then Some 0 else due_of (stem_of ss a (seq_of t))) else None) (offset_of t) ≡ true → Use ss a s t n
    first true e k = second (seq_of t == s) refl (eq_is (replica_of t) a e) k
    first false e k = absurd (cc)

use_low : (ss : List Stem) (a s : ℕ) (t : Tuple) (n : ℕ) → replica_of t ≡ a → (o : Option Stem) → stem_of ss a (seq_of t) ≡ o → ends_at_low o (offset_of t) n ≡ true → Use ss a s t n
use_low ss a s t n r None e h = absurd (cc)
use_low ss a s t n r (Some stem) e h = Prepends stem r e (int_is (offset_of t +ℤ pos n) stem.low h)

pub use_of : (ss : List Stem) (a s : ℕ) (t : Tuple) (n : ℕ) → IsTrue (may_use ss a s t n) → Use ss a s t n
use_of ss a s t n h =
    ⊎_elim (use_due ss a s t n)
    (λ k. use_low ss a s t n (eq_is (replica_of t) a (and_left (replica_of t == a) (ends_at_low (stem_of ss a (seq_of t)) (offset_of t) n) k)) (stem_of ss a (seq_of t)) refl
    (and_right (replica_of t == a) (ends_at_low (stem_of ss a (seq_of t)) (offset_of t) n) k))
    (or_split (is_due (due_offset ss a s t) (offset_of t)) ((replica_of t == a) && ends_at_low (stem_of ss a (seq_of t)) (offset_of t) n) h)

-- ---- the stem afterwards

-- the author's stems have numbers below s, and lows at most 0
abbrev pub AreEarlier : List Stem → ℕ → ℕ → Type 0
AreEarlier ss a s = (q : ℕ) (t : Stem) → stem_of ss a q ≡ Some t → (0 < q) × (q < s) × (t.low ≤ℤ pos 0)

-- the stem of author a and number q is w instead, by n offsets from k on that were not used
pub record Grown (ss : List Stem) (a q : ℕ) (k : ℤ) (n : ℕ) (w : Stem) : Type 0 where
  pub author : w.author ≡ a
  pub number : w.s0 ≡ q
  pub low : w.low ≤ℤ pos 0
  pub none : (j : ℤ) → k ≤ℤ j → j <ℤ (k +ℤ pos n) → has_used (stem_of ss a q) j ≡ false
  pub kept : (j : ℤ) → has_used (stem_of ss a q) j ≡ true → has_used (Some w) j ≡ true
  pub more : (j : ℤ) → k ≤ℤ j → j <ℤ (k +ℤ pos n) → has_used (Some w) j ≡ true
  pub only : (j : ℤ) → has_used (Some w) j ≡ true → (has_used (stem_of ss a q) j ≡ true) ⊎ ((k ≤ℤ j) × (j <ℤ (k +ℤ pos n)))

none_found : (ss : List Stem) (a s : ℕ) → AreEarlier ss a s → (o : Option Stem) → stem_of ss a s ≡ o → o ≡ None
none_found ss a s h None e = refl
none_found ss a s h (Some t) e = let p = h s t e in absurd (omega arith)

-- a new stem
pub begun : (ss : List Stem) (a s n : ℕ) → AreEarlier ss a s → Grown ss a s (pos 0) n (new_stem a s n)
begun ss a s n h =
    let e = none_found ss a s h (stem_of ss a s) refl in
    record {
      author = refl;
      number = refl;
      low = omega (arith, ints);
      none = λ j l m. ap (λ o. has_used o j) e;
      kept = λ j u. let f = sym (ap (λ o. has_used o j) e) ∙ u in absurd (cc);
      more = λ j l m. used_from (new_stem a s n) j l (omega (arith, ints));
      only = λ j u. let p = used_is (new_stem a s n) j u in inr (p.0, omega (arith, ints));
    }

-- a stem between other bounds, which are those of the old one and of what is new beside it
stretched : (ss : List Stem) (a q : ℕ) (t : Stem) (l k : ℤ) (m n : ℕ) → stem_of ss a q ≡ Some t → l ≤ℤ pos 0 → l ≤ℤ t.low → t.next ≤ m → l ≤ℤ k → (k +ℤ pos n) ≤ℤ pos m →
    ((j : ℤ) → k ≤ℤ j → j <ℤ (k +ℤ pos n) → t.low ≤ℤ j → j <ℤ pos t.next → ⊥) →
    ((j : ℤ) → l ≤ℤ j → j <ℤ pos m → ((t.low ≤ℤ j) × (j <ℤ pos t.next)) ⊎ ((k ≤ℤ j) × (j <ℤ (k +ℤ pos n)))) →
    Grown ss a q k n (record t { low = l; next = m })
stretched ss a q t l k m n e z low next from to apart covered =
    let key = found_is ss a q t e in
    let same : (j : ℤ) → has_used (stem_of ss a q) j ≡ has_used (Some t) j = λ j. ap (λ o. has_used o j) e in
    let new = record t { low = l; next = m } in
    record {
      author = key.0;
      number = key.1;
      low = z;
      none = λ j g h. same j ∙ unused_from t j (apart j g h);
      kept = λ j u. let p = used_is t j (sym (same j) ∙ u) in used_from new j (omega (arith, ints)) (omega (arith, ints));
      more = λ j g h. used_from new j (omega (arith, ints)) (omega (arith, ints));
      only = λ j u. let p = used_is new j u in ⊎_elim (λ o. inl (same j ∙ used_from t j o.0 o.1)) (λ o. inr o) (covered j p.0 p.1);
    }

-- at the end of a stem
longer : Stem → ℕ → Stem
longer t n = record t { next = t.next + n }

appended : (ss : List Stem) (a q : ℕ) (t : Stem) (k : ℤ) (n : ℕ) → stem_of ss a q ≡ Some t → t.low ≤ℤ pos 0 → k ≡ pos t.next → Grown ss a q k n (longer t n)
unfolding longer
appended ss a q t k n e l f =
    stretched ss a q t t.low k (t.next + n) n e l (omega (arith, ints)) (omega arith) (omega (arith, ints)) (omega (arith, ints))
    (λ j g h p r. omega (arith, ints)) (λ j p r. by_lt_z j (pos t.next) (λ o. inl (p, o)) (λ o. inr (omega (arith, ints), omega (arith, ints))))

-- before the low of a stem
wider : Stem → ℤ → Stem
wider t k = record t { low = k }

prepended : (ss : List Stem) (a q : ℕ) (t : Stem) (k : ℤ) (n : ℕ) → stem_of ss a q ≡ Some t → t.low ≤ℤ pos 0 → (k +ℤ pos n) ≡ t.low → Grown ss a q k n (wider t k)
unfolding wider
prepended ss a q t k n e l f =
    stretched ss a q t k k t.next n e (omega (arith, ints)) (omega (arith, ints)) (omega arith) (omega (arith, ints)) (omega (arith, ints))
    (λ j g h p r. omega (arith, ints)) (λ j p r. by_lt_z j t.low (λ o. inr (p, omega (arith, ints))) (λ o. inl (o, r)))

-- ---- an insertion

-- the stem of this number stands for it in the list
pub record Put (ss : List Stem) (a s : ℕ) (t : Tuple) (n : ℕ) : Type 0 where
  pub stem : Stem
  pub list : stems_after_insert ss a s t n ≡ with_stem stem ss
  pub replica : replica_of t ≡ a
  pub some : 0 < seq_of t
  pub upto : seq_of t ≤ s
  pub grown : Grown ss a (seq_of t) (offset_of t) n stem

-- the list after an insertion that does not begin a stem
goes_on : (ss : List Stem) (a s : ℕ) (t : Tuple) (n : ℕ) (stem : Stem) → replica_of t ≡ a → (seq_of t ≡ s → ⊥) → stem_of ss a (seq_of t) ≡ Some stem →
    stems_after_insert ss a s t n ≡ with_stem (extended stem (offset_of t) n) ss
goes_on ss a s t n stem r q e =
    let f : (replica_of t == a) ≡ true = ap (λ m. m == a) r ∙ eq_refl a in
    let g = neq_test (seq_of t) s q in
    ap (λ b. if b then (if seq_of t == s then with_stem (new_stem a s n) ss else with_extended (stem_of ss a (seq_of t)) (offset_of t) n ss) else ss) f
    ∙ (ap (λ b. if b then with_stem (new_stem a s n) ss else with_extended (stem_of ss a (seq_of t)) (offset_of t) n ss) g
    ∙ ap (λ o. with_extended o (offset_of t) n ss) e)

begins : (ss : List Stem) (a s : ℕ) (t : Tuple) (n : ℕ) → replica_of t ≡ a → seq_of t ≡ s → stems_after_insert ss a s t n ≡ with_stem (new_stem a s n) ss
begins ss a s t n r q =
    let f : (replica_of t == a) ≡ true = ap (λ m. m == a) r ∙ eq_refl a in
    let g : (seq_of t == s) ≡ true = ap (λ m. m == s) q ∙ eq_refl s in
    ap (λ b. if b then (if seq_of t == s then with_stem (new_stem a s n) ss else with_extended (stem_of ss a (seq_of t)) (offset_of t) n ss) else ss) f
    ∙ ap (λ b. if b then with_stem (new_stem a s n) ss else with_extended (stem_of ss a (seq_of t)) (offset_of t) n ss) g

extended_end : (t : Stem) (k : ℤ) (n : ℕ) → k ≡ pos t.next → extended t k n ≡ longer t n
unfolding longer
extended_end t k n e = ap (λ b. if b then record t { next = t.next + n } else record t { low = k }) (int_test k (pos t.next) e)

put_prepended : (ss : List Stem) (a s : ℕ) (t : Tuple) (n : ℕ) (stem : Stem) → AreEarlier ss a s → replica_of t ≡ a → stem_of ss a (seq_of t) ≡ Some stem → offset_of t +ℤ pos n ≡ stem.low →
    (b : Bool) → int_eq (offset_of t) (pos stem.next) ≡ b → Put ss a s t n
unfolding wider
put_prepended ss a s t n stem h r e f true g =
    let p = h (seq_of t) stem e in
    let k = int_is (offset_of t) (pos stem.next) g in
    record {
      stem = longer stem n;
      list = goes_on ss a s t n stem r (λ q. omega arith) e ∙ ap (λ w. with_stem w ss) (extended_end stem (offset_of t) n k);
      replica = r;
      some = p.0;
      upto = omega arith;
      grown = appended ss a (seq_of t) stem (offset_of t) n e p.2 k;
    }
put_prepended ss a s t n stem h r e f false g =
    let p = h (seq_of t) stem e in
    record {
      stem = wider stem (offset_of t);
      list = goes_on ss a s t n stem r (λ q. omega arith) e ∙ ap (λ b. with_stem (if b then record stem { next = stem.next + n } else record stem { low = offset_of t }) ss) g;
      replica = r;
      some = p.0;
      upto = omega arith;
      grown = prepended ss a (seq_of t) stem (offset_of t) n e p.2 f;
    }

pub put_of : (ss : List Stem) (a s : ℕ) (t : Tuple) (n : ℕ) → AreEarlier ss a s → 0 < s → Use ss a s t n → Put ss a s t n
put_of ss a s t n h z (Begins r q e) = record {
  stem = new_stem a s n;
  list = begins ss a s t n r q;
  replica = r;
  some = omega arith;
  upto = omega arith;
  grown = subst (λ k. Grown ss a (seq_of t) k n (new_stem a s n)) (sym e) (subst (λ m. Grown ss a m (pos 0) n (new_stem a s n)) (sym q) (begun ss a s n h));
}
put_of ss a s t n h z (Appends stem r q e k) =
    let p = h (seq_of t) stem e in
    record {
      stem = longer stem n;
      list = goes_on ss a s t n stem r q e ∙ ap (λ w. with_stem w ss) (extended_end stem (offset_of t) n k);
      replica = r;
      some = p.0;
      upto = omega arith;
      grown = appended ss a (seq_of t) stem (offset_of t) n e p.2 k;
    }
put_of ss a s t n h z (Prepends stem r e f) = put_prepended ss a s t n stem h r e f (int_eq (offset_of t) (pos stem.next)) refl
