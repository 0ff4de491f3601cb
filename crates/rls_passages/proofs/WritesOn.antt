-- Who writes right behind the end of an own passage goes on with it.
use Rattle.std.proofs.Common.{◌≡◌, ℕ, zero, suc, true, false, List, [], ◌∷◌, ◌++◌, length, refl, sym, ap, ◌∙◌, subst, arith, inl, inr, ◌⊎◌, ⊎_elim, append-nil}
use Rattle.std.specs.Prelude.{if◌then◌else◌, ◌&&◌, ℤ, pos, ◌+ℤ◌, ◌≤ℤ◌, ◌<ℤ◌, Option, Some, None, slice_get}
use Rattle.std.specs.Int.RustNames.{int_lt, int_le}
use Rattle.std.specs.Ordering.{int_eq}
use Rattle.std.proofs.lemmas.Int.{ints}
use Rattle.rls_ident.specs.declared.tuple.Tuple.{Tuple}
use Rattle.rls_ident.specs.declared.epoch_name.EpochName.TheVariants.{Origin}
use Rattle.rls_ident.specs.Lists.{IsIn}
use Rattle.rls_ident.specs.Tuples.{replica_of, seq_of, offset_of}
use Rattle.rls_ident.specs.Identifiers.{IsIdent, last_of, shifted, greatest_offset}
use Rattle.rls_ident.proofs.Lists.{Lt, tri}
use Rattle.rls_ident.proofs.Members.{and_left, and_right, and_true, eq_test, get_in, int_le_is, int_le_test, int_test, not_int_lt_is}
use Rattle.rls_ident.proofs.Shifted.{ident_shifted, last_at, last_offset, last_shifted, raised_replica, raised_seq, shifted_none, shifted_shifted}
use Rattle.rls_ident.proofs.Tuples.{tuples, of_lt}
use Rattle.rls_rename.specs.Tree.{is_kept}
use Rattle.rls_ops.specs.declared.op.Op.{Op}
use Rattle.rls_ops.specs.declared.op.Body.TheVariants.{Insert}
use Rattle.rls_model.specs.declared.edit.Edit.{Edit}
use Rattle.rls_model.specs.declared.edit.Edit.TheVariants as edits
use Rattle.rls_model.specs.declared.parts.Stem.{Stem}
use Rattle.rls_model.specs.History.{Accepted, History, me_of}
use Rattle.rls_model.specs.Stems.{stem_of, has_used, is_used, stems}
use Rattle.rls_model.specs.Document.{Character, chars, chars_of, chars_from, ident_in, export, idents}
use Rattle.rls_model.specs.Epochs.{epochs, greatest}
use Rattle.rls_model.specs.Legal.{IsLegal}
use Rattle.rls_model.specs.Laws.{edited}
use Rattle.rls_model.specs.Editing.{own_stem, ends_below, may_append, first_before, first_between, get_before, next_seq, made}
use Rattle.rls_model.proofs.Distinct.{UsedIn}
use Rattle.rls_model.proofs.Began.{IsNeighbour}
use Rattle.rls_model.proofs.Insertion.{same_ident}
use Rattle.rls_model.proofs.Made.{neighbour_before}
use Rattle.rls_model.proofs.Made as making
use Rattle.rls_model.proofs.Named.{char_new, grown_kept}
use Rattle.rls_model.proofs.Ranges.{idents_good}
use Rattle.rls_model.proofs.SameOps.{export_rises, top_kept}
use Rattle.rls_model.proofs.Spliced.{AreNeighbours, neighbours}
use Rattle.rls_passages.specs.Passages.{KeepsLast, Follows, IsPassage, AreMadeIn, WritesOn}
use Rattle.rls_passages.proofs.Inner.{Inner}
use Rattle.rls_passages.proofs.Told.{IsNear, IsSeen, AreTold, text_seen}
use Rattle.rls_passages.proofs.Within.{UsedWithin, by_used, told, told_more}
use Rattle.rls_passages.proofs.Between.{at_birth, begins_with, last_inner, near_at}
use Rattle.rls_passages.proofs.Apart.{from_passage}

-- ---- what lies above an identifier lies above the ones with greater offsets too, or begins with one of them

abbrev Begins : List Tuple → List Tuple → Type 0
Begins x y = (j : ℕ) × (z : List Tuple) × (y ≡ shifted (pos j) x ++ z)

above_run : (n : ℕ) (x y : List Tuple) → IsIdent x → Lt tuples x y → Lt tuples (shifted (pos n) x) y ⊎ Begins x y
above_run zero x y i l = inl (subst (λ z. Lt tuples z y) (sym (shifted_none x)) l)
above_run (suc n) x y i l =
    let here = shifted (pos n) x in
    let j = ident_shifted (pos n) x i in
    let e : shifted (pos 1) here ≡ shifted (pos (suc n)) x = shifted_shifted (pos 1) (pos n) x ∙ ap (λ k. shifted k x) (one_more n) in
    ⊎_elim
    (λ h. ⊎_elim (λ m. inl m)
    (λ r. ⊎_elim (λ q. inr (suc n, [], sym q ∙ sym (append-nil (shifted (pos (suc n)) x))))
    (λ m. let v = begins_with here y j h (subst (λ z. Lt tuples y z) (sym e) m) in inr (n, v.0, v.1))
    r)
    (tri tuples (shifted (pos (suc n)) x) y))
    (λ r. inr r)
    (above_run n x y i l)
  where
    one_more : (n : ℕ) → pos n +ℤ pos 1 ≡ pos (suc n)
    one_more n = omega (arith, ints)

-- ---- the end of a stem

-- the stem ends right behind the offset
ends_at : (o : Option Stem) (k : ℤ) → has_used o k ≡ true → has_used o (k +ℤ pos 1) ≡ false → (u : Stem) × (o ≡ Some u) × ((k +ℤ pos 1) ≡ pos u.next)
ends_at None k h g = absurd (cc)
ends_at (Some u) k h g =
    let a = int_le_is u.low k (and_left (int_le u.low k) (int_lt k (pos u.next)) h) in
    let b = lower u.next k (and_right (int_le u.low k) (int_lt k (pos u.next)) h) in
    let c = int_le_test u.low (k +ℤ pos 1) (omega (arith, ints)) in
    let d : int_lt (k +ℤ pos 1) (pos u.next) ≡ false = sym (ap (λ b. b && int_lt (k +ℤ pos 1) (pos u.next)) c) ∙ g in
    let f = not_int_lt_is (k +ℤ pos 1) (pos u.next) d in
    (u, refl, omega (arith, ints))
  where
    lower : (n : ℕ) (k : ℤ) → int_lt k (pos n) ≡ true → k <ℤ pos n
    lower n k e = grind (arith, ints)

-- nothing behind it was used
none_behind : (o : Option Stem) (k m : ℤ) → has_used o k ≡ true → has_used o (k +ℤ pos 1) ≡ false → k <ℤ m → has_used o m ≡ true → ⊥
none_behind o k m h g l u =
    let r = ends_at o k h g in
    let v : has_used (Some r.0) m ≡ true = sym (ap (λ s. has_used s m) r.1) ∙ u in
    let e = r.2 in
    let w = lower (r.0).next m (and_right (int_le (r.0).low m) (int_lt m (pos (r.0).next)) v) in
    omega (arith, ints)
  where
    lower : (n : ℕ) (k : ℤ) → int_lt k (pos n) ≡ true → k <ℤ pos n
    lower n k e = grind (arith, ints)

-- ---- the law

module _ (H : History) (l : IsLegal H) (all : AreMadeIn H) where
  are_told : AreTold (UsedIn H) H
  are_told q p = told_more (UsedWithin H q.context) (UsedIn H) (λ a s k u. by_used H l u.0 u.1 a s k u.3) q.body (told H l all q p)

  pub seen : (y : List Tuple) → IsIn y (idents H) → IsSeen (UsedIn H) y
  seen y p = text_seen (UsedIn H) H l (λ r s k u. u) are_told y p

  -- no identifier of the text begins with an own one whose last offset is raised by d, where that offset and the next one are unused
  pub none_begins : (d : ℤ) (x y z : List Tuple) → IsIdent x → replica_of (last_of x) ≡ me_of H → IsIn y (idents H) → y ≡ shifted d x ++ z →
      ((n : ℤ) → n ≡ offset_of (last_of x) +ℤ d → (UsedIn H (me_of H) (seq_of (last_of x)) n → ⊥) × (UsedIn H (me_of H) (seq_of (last_of x)) (n +ℤ pos 1) → ⊥)) → ⊥
  none_begins d x y z i m p e f = go z e
    where
      t : Tuple
      t = last_of (shifted d x)

      own : replica_of t ≡ me_of H
      own = ap replica_of (last_shifted d x) ∙ (raised_replica d (last_of x) ∙ m)

      number : seq_of t ≡ seq_of (last_of x)
      number = ap seq_of (last_shifted d x) ∙ raised_seq d (last_of x)

      of_x : (n : ℤ) → UsedIn H (replica_of t) (seq_of t) n → UsedIn H (me_of H) (seq_of (last_of x)) n
      of_x n w = subst (λ s. UsedIn H (me_of H) s n) number (subst (λ a. UsedIn H a (seq_of t) n) own w)

      none : (UsedIn H (me_of H) (seq_of (last_of x)) (offset_of t) → ⊥) × (UsedIn H (me_of H) (seq_of (last_of x)) (offset_of t +ℤ pos 1) → ⊥)
      none = f (offset_of t) (last_offset d x i)

      go : (z : List Tuple) → y ≡ shifted d x ++ z → ⊥
      go [] e =
          let g : y ≡ shifted d x = e ∙ append-nil (shifted d x) in
          none.0 (of_x (offset_of t) (subst (λ (w : List Tuple). UsedIn H (replica_of (last_of w)) (seq_of (last_of w)) (offset_of (last_of w))) g (seen y p).1))
      go (b ∷ z) e =
          let a = ident_shifted d x i in
          let near = last_inner (IsNear (UsedIn H)) (shifted d x) (b ∷ z) a (record { less = refl }) (subst (Inner (IsNear (UsedIn H))) e (seen y p).0) in
          ⊎_elim (λ w. none.0 (of_x (offset_of t) w)) (λ w. none.1 (of_x (offset_of t +ℤ pos 1) w)) (near_at (UsedIn H) t (last_at (shifted d x) a) near)

  -- none begins with a later offset of a stem that ends at x
  not_later : (x y z : List Tuple) (j : ℕ) → IsIdent x → replica_of (last_of x) ≡ me_of H → UsedIn H (me_of H) (seq_of (last_of x)) (offset_of (last_of x)) →
      is_used (stems H) (me_of H) (seq_of (last_of x)) (offset_of (last_of x) +ℤ pos 1) ≡ false → IsIn y (idents H) → y ≡ shifted (pos (suc j)) x ++ z → ⊥
  not_later x y z j i m u v p e =
      let stem = stem_of (stems H) (me_of H) (seq_of (last_of x)) in
      let k = offset_of (last_of x) in
      none_begins (pos (suc j)) x y z i m p e (λ n h. (none_behind stem k n u v (more n k h).0, none_behind stem k (n +ℤ pos 1) u v (more n k h).1))
    where
      more : (n k : ℤ) → n ≡ k +ℤ pos (suc j) → (k <ℤ n) × (k <ℤ (n +ℤ pos 1))
      more n k e = (omega (arith, ints), omega (arith, ints))

  -- the place behind x is free for n characters, or what stands there begins with x
  room : (x : List Tuple) (right : Option (List Tuple)) (n : ℕ) → IsIdent x → replica_of (last_of x) ≡ me_of H → UsedIn H (me_of H) (seq_of (last_of x)) (offset_of (last_of x)) →
      is_used (stems H) (me_of H) (seq_of (last_of x)) (offset_of (last_of x) +ℤ pos 1) ≡ false → AreNeighbours (Some x) right → ((y : List Tuple) → right ≡ Some y → IsIn y (idents H)) →
      (ends_below (shifted (pos n) x) right ≡ true) ⊎ ((y : List Tuple) × (z : List Tuple) × (right ≡ Some y) × (y ≡ x ++ z))
  room x None n i m u v h f = inl refl
  room x (Some y) n i m u v h f = ⊎_elim (λ k. inl (of_lt (shifted (pos n) x) y k)) (λ b. later b.0 b.1 b.2) (above_run n x y i h)
    where
      later : (j : ℕ) (z : List Tuple) → y ≡ shifted (pos j) x ++ z → (ends_below (shifted (pos n) x) (Some y) ≡ true) ⊎ ((w : List Tuple) × (z : List Tuple) × (Some y ≡ Some w) × (w ≡ x ++ z))
      later zero z e = inr (y, z, refl, e ∙ ap (λ w. w ++ z) (shifted_none x))
      later (suc j) z e = absurd (not_later x y z j i m u v (f y refl) e)

  appends : (x : List Tuple) (right : Option (List Tuple)) (n : ℕ) → replica_of (last_of x) ≡ me_of H → UsedIn H (me_of H) (seq_of (last_of x)) (offset_of (last_of x)) →
      is_used (stems H) (me_of H) (seq_of (last_of x)) (offset_of (last_of x) +ℤ pos 1) ≡ false → (offset_of (last_of x) +ℤ pos n) ≤ℤ greatest_offset → ends_below (shifted (pos n) x) right ≡ true →
      may_append (own_stem (stems H) (me_of H) (last_of x)) x right n ≡ true
  appends x right n m u v g b =
      let k = offset_of (last_of x) in
      let stem = stem_of (stems H) (me_of H) (seq_of (last_of x)) in
      let r = ends_at stem k u v in
      let s : own_stem (stems H) (me_of H) (last_of x) ≡ Some r.0 = ap (λ c. if c then stem else None) (eq_test (replica_of (last_of x)) (me_of H) m) ∙ r.1 in
      ap (λ o. may_append o x right n) s
      ∙ and_true (int_eq (k +ℤ pos 1) (pos (r.0).next) && int_le (k +ℤ pos n) greatest_offset) (ends_below (shifted (pos n) x) right)
      (and_true (int_eq (k +ℤ pos 1) (pos (r.0).next)) (int_le (k +ℤ pos n) greatest_offset) (int_test (k +ℤ pos 1) (pos (r.0).next) r.2) (int_le_test (k +ℤ pos n) greatest_offset g))
      b

pub in_before : (xs : List (List Tuple)) (at : ℕ) (x : List Tuple) → get_before xs at ≡ Some x → IsIn x xs
in_before xs zero x e = absurd (cc)
in_before xs (suc k) x e = get_in xs k x e

pub in_order : (H : History) → IsLegal H → (at : ℕ) → AreNeighbours (get_before (idents H) at) (slice_get (idents H) at)
unfolding idents
in_order H l at = neighbours at (export H) (export_rises H l)

pub epoch_made : (H : History) (edit : Edit) → (made H edit).epoch ≡ greatest H
unfolding made
epoch_made H edit = refl

-- the insertion goes on with x, or what stands behind the place begins with x
first_on : (H : History) (at n : ℕ) (x : List Tuple) → IsLegal H → AreMadeIn H → get_before (idents H) at ≡ Some x → replica_of (last_of x) ≡ me_of H →
    is_used (stems H) (me_of H) (seq_of (last_of x)) (offset_of (last_of x) +ℤ pos 1) ≡ false → (offset_of (last_of x) +ℤ pos n) ≤ℤ greatest_offset →
    (first_between (stems H) (me_of H) (next_seq H) (get_before (idents H) at) (slice_get (idents H) at) n ≡ shifted (pos 1) x) ⊎ ((y : List Tuple) × (z : List Tuple) × (slice_get (idents H) at ≡ Some y) × (y ≡ x ++ z))
first_on H at n x l all e m v g =
    let xs = idents H in
    let i : IsNeighbour (Some x) = subst IsNeighbour e (neighbour_before xs (idents_good H l).0 at) in
    let p : IsIn x xs = in_before xs at x e in
    let own = subst (λ a. UsedIn H a (seq_of (last_of x)) (offset_of (last_of x))) m (seen H l all x p).1 in
    let right = slice_get xs at in
    let apart : AreNeighbours (Some x) right = subst (λ o. AreNeighbours o right) e (in_order H l at) in
    ⊎_elim
    (λ b. let a = appends H l all x right n m own v g b in
    inl (ap (λ o. first_between (stems H) (me_of H) (next_seq H) o right n) e ∙ ap (λ c. if c then shifted (pos 1) x else first_before (stems H) (me_of H) (next_seq H) (Some x) right n) a))
    (λ b. inr b)
    (room H l all x right n i m own v apart (λ y f. get_in xs at y f))

-- the new characters go on behind c
goes_on : (H : History) (at : ℕ) (cs : List ℕ) (c : Character) → IsLegal (edited H (edits.Insert at cs)) → IsIn c (chars H) → KeepsLast H (greatest H) c →
    (made H (edits.Insert at cs)).body ≡ Insert (shifted (pos 1) (ident_in H (greatest H) c)) cs → let o = made H (edits.Insert at cs) in
    IsPassage (edited H (edits.Insert at cs)) (c ∷ chars_of o o.body)
goes_on H at cs c l p k b = go cs b
  where
    o : Op
    o = made H (edits.Insert at cs)

    K : History
    K = edited H (edits.Insert at cs)

    x : List Tuple
    x = ident_in H (greatest H) c

    new : (y : List Tuple) (ds : List ℕ) → o.body ≡ Insert y ds → (d : Character) → IsIn d (chars_from o 0 y ds) → IsIn d (chars K)
    new y ds e d q = char_new H o d (subst (λ b. IsIn d (chars_of o b)) (sym e) q)

    old : ident_in K (greatest H) c ≡ x
    old = same_ident H o (shifted (pos 1) x) cs b (greatest H) c

    at_greatest : o.epoch ≡ greatest H
    at_greatest = epoch_made H (edits.Insert at cs)

    kept : is_kept Origin (epochs K) (greatest H) ≡ true
    kept = grown_kept H (Accepted o) (greatest H) (top_kept H)

    follows : (d : Character) → IsIn d (chars K) → d.epoch ≡ greatest H → d.ident ≡ shifted (pos 1) x → Follows K d c
    follows d q e f =
        let born = at_birth K l d q (greatest H) e in
        (greatest H, kept, ap last_of old ∙ k, ap last_of born, born ∙ (f ∙ ap (shifted (pos 1)) (sym old)))

    go : (ds : List ℕ) → o.body ≡ Insert (shifted (pos 1) x) ds → IsPassage K (c ∷ chars_of o o.body)
    go [] e = subst (λ b. IsPassage K (c ∷ chars_of o b)) (sym e) tt
    go (d ∷ ds) e =
        let y = shifted (pos 1) x in
        subst (λ b. IsPassage K (c ∷ chars_of o b)) (sym e)
        (follows (record { author = o.author; seq = o.seq; place = 0; epoch = o.epoch; ident = y; char = d }) (new y (d ∷ ds) e _ (inl refl)) at_greatest refl, from_passage K l o 0 y (d ∷ ds) (new y (d ∷ ds) e))

pub law : WritesOn
unfolding made
law H at cs c l all i f e g =
    let x = ident_in H (greatest H) c in
    let k : last_of x ≡ last_of c.ident = e.2 in
    let P : Tuple → Type 0 = λ t. (replica_of t ≡ me_of H) × (is_used (stems H) (me_of H) (seq_of t) (offset_of t +ℤ pos 1) ≡ false) × ((offset_of t +ℤ pos (length cs)) ≤ℤ greatest_offset) in
    let q : P (last_of x) = subst P (sym k) (e.3, e.4, g) in
    ⊎_elim
    (λ b. inl (goes_on H at cs c (making.law H (edits.Insert at cs) l i f) e.0 k (ap (λ y. Insert y cs) b)))
    (λ b. inr b)
    (first_on H at (length cs) x l all e.1 q.0 q.1 q.2)
