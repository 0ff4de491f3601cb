-- Who writes right before the start of an own passage begins it anew there.
use Rattle.std.proofs.Common.{◌≡◌, ℕ, zero, suc, true, false, List, [], ◌∷◌, ◌++◌, length, refl, sym, ap, ◌∙◌, subst, arith, inl, inr, ◌⊎◌, ⊎_elim, append-nil}
use Rattle.std.specs.Prelude.{if◌then◌else◌, ◌&&◌, ◌==◌, ℤ, pos, negsuc, ◌+ℤ◌, ◌-ℤ◌, ◌≤ℤ◌, ◌<ℤ◌, Option, Some, None}
use Rattle.std.specs.Int.RustNames.{int_lt, int_le}
use Rattle.std.specs.Ordering.{int_eq}
use Rattle.std.proofs.lemmas.Int.{ints}
use Rattle.rls_ident.specs.declared.tuple.Tuple.{Tuple}
use Rattle.rls_ident.specs.declared.epoch_name.EpochName.TheVariants.{Origin}
use Rattle.rls_ident.specs.Lists.{IsIn}
use Rattle.rls_ident.specs.Tuples.{replica_of, seq_of, offset_of}
use Rattle.rls_ident.specs.Identifiers.{IsIdent, last_of, shifted, least_offset, greatest_offset}
use Rattle.rls_ident.specs.Between.{between}
use Rattle.rls_ident.proofs.Lists.{Lt, tri}
use Rattle.rls_ident.proofs.Members.{and_left, and_right, and_true, bool_cases, eq_is, eq_test, get_in, int_is, int_le_is, int_le_test, int_test, not_true, true_false}
use Rattle.rls_ident.proofs.Shifted.{ident_shifted, shifted_none, shifted_shifted}
use Rattle.rls_ident.proofs.Tuples.{tuples, of_lt}
use Rattle.rls_rename.specs.Tree.{is_kept}
use Rattle.rls_ops.specs.declared.op.Op.{Op}
use Rattle.rls_ops.specs.declared.op.Body.TheVariants.{Insert}
use Rattle.rls_model.specs.declared.edit.Edit.TheVariants as edits
use Rattle.rls_model.specs.declared.parts.Stem.{Stem}
use Rattle.rls_model.specs.History.{Accepted, History, me_of}
use Rattle.rls_model.specs.Stems.{stem_of, has_used, is_used, stems}
use Rattle.rls_model.specs.Document.{Character, chars, chars_of, chars_from, ident_in, idents}
use Rattle.rls_model.specs.Epochs.{epochs, greatest}
use Rattle.rls_model.specs.Legal.{IsLegal}
use Rattle.rls_model.specs.Laws.{edited}
use Rattle.rls_model.specs.Editing.{own_stem, is_above, may_append, may_prepend, first_before, first_between, get_before, next_seq, made}
use Rattle.rls_model.proofs.Distinct.{UsedIn}
use Rattle.rls_model.proofs.Began.{IsNeighbour}
use Rattle.rls_model.proofs.Insertion.{same_ident}
use Rattle.rls_model.proofs.Made.{neighbour}
use Rattle.rls_model.proofs.Made as making
use Rattle.rls_model.proofs.Named.{char_new, grown_kept}
use Rattle.rls_model.proofs.Ranges.{idents_good}
use Rattle.rls_model.proofs.SameOps.{top_kept}
use Rattle.rls_model.proofs.Spliced.{AreNeighbours}
use Rattle.rls_passages.specs.Passages.{KeepsLast, Follows, IsPassage, AreMadeIn, WritesBefore}
use Rattle.rls_passages.proofs.Between.{at_birth, begins_with}
use Rattle.rls_passages.proofs.Apart.{follows_born}
use Rattle.rls_passages.proofs.WritesOn.{none_begins, seen, in_before, in_order, epoch_made}

-- ---- what lies below an identifier lies below the ones with lesser offsets too, or begins with one of them

-- y begins with x less k + 1
abbrev Begins : ℕ → List Tuple → List Tuple → Type 0
Begins k x y = (z : List Tuple) × (y ≡ shifted (negsuc k) x ++ z)

abbrev BeginsBelow : List Tuple → List Tuple → Type 0
BeginsBelow x y = (k : ℕ) × Begins k x y

one_less : (n : ℕ) → (negsuc n +ℤ pos 1) ≡ (pos 0 -ℤ pos n)
one_less n = omega (arith, ints)

is_negsuc : (n : ℕ) → (pos 0 -ℤ pos (suc n)) ≡ negsuc n
is_negsuc n = omega (arith, ints)

below_run : (n : ℕ) (x y : List Tuple) → IsIdent x → Lt tuples y x → Lt tuples y (shifted (pos 0 -ℤ pos n) x) ⊎ BeginsBelow x y
below_run zero x y i l = inl (subst (λ z. Lt tuples y z) (sym (shifted_none x)) l)
below_run (suc n) x y i l =
    let low = shifted (negsuc n) x in
    let e : shifted (pos 1) low ≡ shifted (pos 0 -ℤ pos n) x = shifted_shifted (pos 1) (negsuc n) x ∙ ap (λ k. shifted k x) (one_less n) in
    ⊎_elim
    (λ h. ⊎_elim (λ m. inl (subst (λ k. Lt tuples y (shifted k x)) (sym (is_negsuc n)) m))
    (λ r. ⊎_elim (λ q. inr (n, ([], q ∙ sym (append-nil low))))
    (λ m. let v = begins_with low y (ident_shifted (negsuc n) x i) m (subst (λ z. Lt tuples y z) (sym e) h) in inr (n, (v.0, v.1)))
    r)
    (tri tuples y low))
    (λ r. inr r)
    (below_run n x y i l)

-- ---- the start of a stem

starts_at : (o : Option Stem) (k : ℤ) → has_used o k ≡ true → has_used o (k -ℤ pos 1) ≡ false → (u : Stem) × (o ≡ Some u) × (k ≡ u.low)
starts_at None k h g = absurd (cc)
starts_at (Some u) k h g =
    let a = int_le_is u.low k (and_left (int_le u.low k) (int_lt k (pos u.next)) h) in
    let b = and_right (int_le u.low k) (int_lt k (pos u.next)) h in
    let c : int_lt (k -ℤ pos 1) (pos u.next) ≡ true = lower (pos u.next) k b in
    ⊎_elim
    (λ d. d)
    (λ d. absurd (true_false (int_le u.low (k -ℤ pos 1) && int_lt (k -ℤ pos 1) (pos u.next)) (and_true (int_le u.low (k -ℤ pos 1)) (int_lt (k -ℤ pos 1) (pos u.next)) (int_le_test u.low (k -ℤ pos 1) d) c) g))
    (split u k a)
  where
    lower : (n k : ℤ) → int_lt k n ≡ true → int_lt (k -ℤ pos 1) n ≡ true
    lower n k e = grind (arith, ints)

    split : (u : Stem) (k : ℤ) → u.low ≤ℤ k → ((w : Stem) × (Some u ≡ Some w) × (k ≡ w.low)) ⊎ (u.low ≤ℤ (k -ℤ pos 1))
    split u k a = bool_cases (int_eq k u.low) (λ e. inl (u, refl, int_is k u.low e)) (λ e. inr (less u.low k a (λ q. true_false (int_eq k u.low) (int_test k u.low q) e)))
      where
        less : (m k : ℤ) → m ≤ℤ k → (k ≡ m → ⊥) → m ≤ℤ (k -ℤ pos 1)
        less m k a n = grind (arith, ints)

-- nothing before it was used
none_before : (o : Option Stem) (k m : ℤ) → has_used o k ≡ true → has_used o (k -ℤ pos 1) ≡ false → m <ℤ k → has_used o m ≡ true → ⊥
none_before o k m h g l u =
    let r = starts_at o k h g in
    let v : has_used (Some r.0) m ≡ true = sym (ap (λ s. has_used s m) r.1) ∙ u in
    let w = int_le_is (r.0).low m (and_left (int_le (r.0).low m) (int_lt m (pos (r.0).next)) v) in
    let e = r.2 in
    omega (arith, ints)

-- ---- the law

module _ (H : History) (l : IsLegal H) (all : AreMadeIn H) where
  -- no identifier of the text begins with an offset that is lesser by two or more than the start of its stem
  not_earlier : (x y z : List Tuple) (j : ℕ) → IsIdent x → replica_of (last_of x) ≡ me_of H → UsedIn H (me_of H) (seq_of (last_of x)) (offset_of (last_of x)) →
      is_used (stems H) (me_of H) (seq_of (last_of x)) (offset_of (last_of x) -ℤ pos 1) ≡ false → IsIn y (idents H) → y ≡ shifted (negsuc (suc j)) x ++ z → ⊥
  not_earlier x y z j i m u v p e =
      let stem = stem_of (stems H) (me_of H) (seq_of (last_of x)) in
      let k = offset_of (last_of x) in
      none_begins H l all (negsuc (suc j)) x y z i m p e (λ n h. (none_before stem k n u v (less n k h).0, none_before stem k (n +ℤ pos 1) u v (less n k h).1))
    where
      less : (n k : ℤ) → n ≡ k +ℤ negsuc (suc j) → (n <ℤ k) × ((n +ℤ pos 1) <ℤ k)
      less n k e = (omega (arith, ints), omega (arith, ints))

  -- the place before x is free for n characters, or what stands there begins with x less one
  room : (left : Option (List Tuple)) (x : List Tuple) (n : ℕ) → IsIdent x → replica_of (last_of x) ≡ me_of H → UsedIn H (me_of H) (seq_of (last_of x)) (offset_of (last_of x)) →
      is_used (stems H) (me_of H) (seq_of (last_of x)) (offset_of (last_of x) -ℤ pos 1) ≡ false → AreNeighbours left (Some x) → ((y : List Tuple) → left ≡ Some y → IsIn y (idents H)) →
      (is_above left (shifted (pos 0 -ℤ pos n) x) ≡ true) ⊎ ((y : List Tuple) × (z : List Tuple) × (left ≡ Some y) × (y ≡ shifted (negsuc 0) x ++ z))
  room None x n i m u v h f = inl refl
  room (Some y) x n i m u v h f = ⊎_elim (λ k. inl (of_lt y (shifted (pos 0 -ℤ pos n) x) k)) (λ b. earlier b.0 b.1.0 b.1.1) (below_run n x y i h)
    where
      earlier : (k : ℕ) (z : List Tuple) → y ≡ shifted (negsuc k) x ++ z → (is_above (Some y) (shifted (pos 0 -ℤ pos n) x) ≡ true) ⊎ ((w : List Tuple) × (z : List Tuple) × (Some y ≡ Some w) × (w ≡ shifted (negsuc 0) x ++ z))
      earlier zero z e = inr (y, z, refl, e)
      earlier (suc j) z e = absurd (not_earlier x y z j i m u v (f y refl) e)

  prepends : (left : Option (List Tuple)) (x : List Tuple) (n : ℕ) → replica_of (last_of x) ≡ me_of H → UsedIn H (me_of H) (seq_of (last_of x)) (offset_of (last_of x)) →
      is_used (stems H) (me_of H) (seq_of (last_of x)) (offset_of (last_of x) -ℤ pos 1) ≡ false → least_offset ≤ℤ (offset_of (last_of x) -ℤ pos n) → is_above left (shifted (pos 0 -ℤ pos n) x) ≡ true →
      may_prepend (own_stem (stems H) (me_of H) (last_of x)) left x n ≡ true
  prepends left x n m u v g b =
      let k = offset_of (last_of x) in
      let stem = stem_of (stems H) (me_of H) (seq_of (last_of x)) in
      let r = starts_at stem k u v in
      let s : own_stem (stems H) (me_of H) (last_of x) ≡ Some r.0 = ap (λ c. if c then stem else None) (eq_test (replica_of (last_of x)) (me_of H) m) ∙ r.1 in
      ap (λ o. may_prepend o left x n) s
      ∙ and_true (int_eq k (r.0).low && int_le least_offset (k -ℤ pos n)) (is_above left (shifted (pos 0 -ℤ pos n) x))
      (and_true (int_eq k (r.0).low) (int_le least_offset (k -ℤ pos n)) (int_test k (r.0).low r.2) (int_le_test least_offset (k -ℤ pos n) g))
      b

  -- behind the left neighbour nothing is appended
  not_appended : (x : List Tuple) (right : Option (List Tuple)) (n : ℕ) → (replica_of (last_of x) ≡ me_of H → is_used (stems H) (me_of H) (seq_of (last_of x)) (offset_of (last_of x) +ℤ pos 1) ≡ true) → may_append (own_stem (stems H) (me_of H) (last_of x)) x right n ≡ false
  not_appended x right n f = bool_cases (replica_of (last_of x) == me_of H) own other
    where
      stem : Option Stem
      stem = stem_of (stems H) (me_of H) (seq_of (last_of x))

      k : ℤ
      k = offset_of (last_of x)

      other : (replica_of (last_of x) == me_of H) ≡ false → may_append (own_stem (stems H) (me_of H) (last_of x)) x right n ≡ false
      other e = ap (λ c. may_append (if c then stem else None) x right n) e

      full : (o : Option Stem) → has_used o (k +ℤ pos 1) ≡ true → may_append o x right n ≡ true → ⊥
      full None h g = absurd (cc)
      full (Some u) h g =
          let a = and_left (int_eq (k +ℤ pos 1) (pos u.next)) (int_le (k +ℤ pos n) greatest_offset) (and_left (int_eq (k +ℤ pos 1) (pos u.next) && int_le (k +ℤ pos n) greatest_offset) _ g) in
          let b = int_is (k +ℤ pos 1) (pos u.next) a in
          let c = and_right (int_le u.low (k +ℤ pos 1)) (int_lt (k +ℤ pos 1) (pos u.next)) h in
          same (k +ℤ pos 1) (pos u.next) b c
        where
          same : (m n : ℤ) → m ≡ n → int_lt m n ≡ true → ⊥
          same m n e h = grind (arith, ints)

      own : (replica_of (last_of x) == me_of H) ≡ true → may_append (own_stem (stems H) (me_of H) (last_of x)) x right n ≡ false
      own e = ap (λ c. may_append (if c then stem else None) x right n) e ∙ not_true (may_append stem x right n) (full stem (f (eq_is (replica_of (last_of x)) (me_of H) e)))

  first_at : (left : Option (List Tuple)) (x : List Tuple) (n : ℕ) → may_prepend (own_stem (stems H) (me_of H) (last_of x)) left x n ≡ true →
      ((y : List Tuple) → left ≡ Some y → replica_of (last_of y) ≡ me_of H → is_used (stems H) (me_of H) (seq_of (last_of y)) (offset_of (last_of y) +ℤ pos 1) ≡ true) →
      first_between (stems H) (me_of H) (next_seq H) left (Some x) n ≡ shifted (pos 0 -ℤ pos n) x
  first_at None x n h f = ap (λ c. if c then shifted (pos 0 -ℤ pos n) x else between [] x (me_of H) (next_seq H)) h
  first_at (Some y) x n h f =
      ap (λ c. if c then shifted (pos 1) y else first_before (stems H) (me_of H) (next_seq H) (Some y) (Some x) n) (not_appended y (Some x) n (f y refl))
      ∙ ap (λ c. if c then shifted (pos 0 -ℤ pos n) x else between y x (me_of H) (next_seq H)) h

-- the new characters go on to c
goes_on : (H : History) (at : ℕ) (cs : List ℕ) (c : Character) → IsLegal (edited H (edits.Insert at cs)) → IsIn c (chars H) → KeepsLast H (greatest H) c →
    (made H (edits.Insert at cs)).body ≡ Insert (shifted (pos 0 -ℤ pos (length cs)) (ident_in H (greatest H) c)) cs → let o = made H (edits.Insert at cs) in
    IsPassage (edited H (edits.Insert at cs)) (chars_of o o.body ++ (c ∷ []))
goes_on H at cs c l p k b = subst (λ b. IsPassage K (chars_of o b ++ (c ∷ []))) (sym b) (go 0 (shifted (pos 0 -ℤ pos (length cs)) x) cs (λ d q. char_new H o d (subst (λ b. IsIn d (chars_of o b)) (sym b) q)) back)
  where
    o : Op
    o = made H (edits.Insert at cs)

    K : History
    K = edited H (edits.Insert at cs)

    x : List Tuple
    x = ident_in H (greatest H) c

    old : ident_in K (greatest H) c ≡ x
    old = same_ident H o (shifted (pos 0 -ℤ pos (length cs)) x) cs b (greatest H) c

    kept : is_kept Origin (epochs K) (greatest H) ≡ true
    kept = grown_kept H (Accepted o) (greatest H) (top_kept H)

    zero_sum : (n : ℕ) → ((pos 0 -ℤ pos n) +ℤ pos n) ≡ pos 0
    zero_sum n = omega (arith, ints)

    back : shifted (pos (length cs)) (shifted (pos 0 -ℤ pos (length cs)) x) ≡ x
    back = shifted_shifted (pos (length cs)) (pos 0 -ℤ pos (length cs)) x ∙ (ap (λ n. shifted n x) (zero_sum (length cs)) ∙ shifted_none x)

    followed : (d : Character) → IsIn d (chars K) → d.epoch ≡ greatest H → shifted (pos 1) d.ident ≡ x → Follows K c d
    followed d q e f =
        let born = at_birth K l d q (greatest H) e in
        (greatest H, kept, ap last_of born, ap last_of old ∙ k, old ∙ (sym f ∙ ap (shifted (pos 1)) (sym born)))

    more : (n : ℕ) (y : List Tuple) → shifted (pos n) (shifted (pos 1) y) ≡ shifted (pos (suc n)) y
    more n y = shifted_shifted (pos n) (pos 1) y ∙ ap (λ k. shifted k y) (one_more n)
      where
        one_more : (n : ℕ) → (pos 1 +ℤ pos n) ≡ pos (suc n)
        one_more n = omega (arith, ints)

    go : (i : ℕ) (y : List Tuple) (ds : List ℕ) → ((d : Character) → IsIn d (chars_from o i y ds) → IsIn d (chars K)) → shifted (pos (length ds)) y ≡ x → IsPassage K (chars_from o i y ds ++ (c ∷ []))
    go i y [] f e = tt
    go i y (d ∷ []) f e = (followed _ (f _ (inl refl)) (epoch_made H (edits.Insert at cs)) e, tt)
    go i y (d ∷ (b ∷ ds)) f e =
        (follows_born K l _ _ (f _ (inl refl)) (f _ (inr (inl refl))) refl refl, go (suc i) (shifted (pos 1) y) (b ∷ ds) (λ a q. f a (inr q)) (more (length (b ∷ ds)) y ∙ e))

pub law : WritesBefore
unfolding made
law H at cs c l all i f e w g =
    let x = ident_in H (greatest H) c in
    let xs = idents H in
    let n = length cs in
    let k : last_of x ≡ last_of c.ident = e.2 in
    let P : Tuple → Type 0 = λ t. (replica_of t ≡ me_of H) × (is_used (stems H) (me_of H) (seq_of t) (offset_of t -ℤ pos 1) ≡ false) × (least_offset ≤ℤ (offset_of t -ℤ pos n)) in
    let q : P (last_of x) = subst P (sym k) (e.3, e.4, g) in
    let is_ident : IsNeighbour (Some x) = subst IsNeighbour e.1 (neighbour xs (idents_good H l).0 at) in
    let p : IsIn x xs = get_in xs at x e.1 in
    let own = subst (λ a. UsedIn H a (seq_of (last_of x)) (offset_of (last_of x))) q.0 (seen H l all x p).1 in
    let left = get_before xs at in
    let apart : AreNeighbours left (Some x) = subst (λ o. AreNeighbours left o) e.1 (in_order H l at) in
    ⊎_elim
    (λ b. let a = prepends H l all left x n q.0 own q.1 q.2 b in
    let first = ap (λ o. first_between (stems H) (me_of H) (next_seq H) left o n) e.1 ∙ first_at H l all left x n a w in
    inl (goes_on H at cs c (making.law H (edits.Insert at cs) l i f) e.0 k (ap (λ y. Insert y cs) first)))
    (λ b. inr b)
    (room H l all left x n is_ident q.0 own q.1 apart (λ y h. in_before xs at y h))
