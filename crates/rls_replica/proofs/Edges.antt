-- The edges of a run of identifiers.
use Rattle.std.proofs.Common.{◌≡◌, ◌∙◌, ℕ, ◌<◌, true, false, List, refl, sym, ap, subst, arith, Ordering}
use Rattle.std.specs.Prelude.{ℤ, ◌+ℤ◌, ◌<ℤ◌, pos}
use Rattle.std.specs.Cmp.{int_cmp_is}
use Rattle.std.specs.declared.cmp.Ordering.TheVariants.{Less, Equal, Greater}
use Rattle.std.specs.Ordering.{MatchOrdering, int_cmp, is_gt, nat_cmp, ordering_then}
use Rattle.std.proofs.lemmas.Cmp.{int_ranked, nat_cmp_total, tied_itself}
use Rattle.std.proofs.lemmas.Int.{ints}
use Rattle.std.proofs.lemmas.Map.Keys.{le_from_not_gt}
use Rattle.rls_ident.specs.declared.tuple.Tuple.{Tuple}
use Rattle.rls_ident.specs.declared.tuple.Tuple.TheVariants.{Low, At, High}
use Rattle.rls_ident.specs.Identifiers.{IsIdent, last_of, shifted}
use Rattle.rls_ident.specs.Lists.{IsIn}
use Rattle.rls_ident.specs.Tuples.{is_at, raised}
use Rattle.rls_ident.proofs.Members.{some_is}
use Rattle.rls_ident.proofs.Shifted.{last_at, last_shifted}
use Rattle.rls_runs.specs.Runs.{run_idents}
use Rattle.rls_runs.proofs.Finding.{run_length}
use Rattle.rls_runs.proofs.RunOrder.{run_gets}
use Rattle.rls_replica.specs.declared.marks.Mark.{Mark}
use Rattle.rls_replica.specs.declared.bounds.Edge.{Edge}
use Rattle.rls_replica.specs.Bounds.{IsUpTo, edge_cmp, edge_of, later, mark_in}
use Rattle.rls_replica.proofs.Merges.{stands_in}

-- ---- one author

not_after : (o r : Ordering) → is_gt (ordering_then o r) ≡ false → is_gt o ≡ false
not_after Less r h = refl
not_after Equal r h = refl
not_after Greater r h = h

-- what is between two edges of an author is of that author
pub same_author : (first past e : Edge) (a : ℕ) → first.author ≡ a → past.author ≡ a → IsUpTo first e → edge_cmp e past ≡ Less → e.author ≡ a
same_author first past e a f p u l =
    let low = le_from_not_gt first.author e.author (not_after (nat_cmp first.author e.author) _ u) in
    let high = le_from_not_gt e.author past.author (not_after (nat_cmp e.author past.author) _ (ap is_gt l)) in
    omega (arith, f, p, low, high)

-- ---- one run

raised_mark : (k : ℤ) (t : Tuple) → is_at t ≡ true → mark_in (raised k t) ≡ later k (mark_in t)
raised_mark k Low h = absurd (cc)
raised_mark k (At p r s o) h = refl
raised_mark k High h = absurd (cc)

-- an author's edge at a mark
abbrev pub edge_at : ℕ → Mark → Edge
edge_at a m = record { author = a; mark = m }

-- two edges in one row are in order of their offsets
in_row : (a : ℕ) (m n : Mark) (c : Ordering) → m.replica ≡ n.replica → m.seq ≡ n.seq → int_cmp m.offset n.offset ≡ c → edge_cmp (edge_at a m) (edge_at a n) ≡ c
in_row a m n c r s e =
    ap (λ o. ordering_then o (ordering_then (nat_cmp m.replica n.replica) (ordering_then (nat_cmp m.seq n.seq) (int_cmp m.offset n.offset)))) (tied_itself nat_cmp_total a)
    ∙ ap (λ o. ordering_then o (ordering_then (nat_cmp m.seq n.seq) (int_cmp m.offset n.offset))) (subst (λ k. nat_cmp m.replica k ≡ Equal) r (tied_itself nat_cmp_total m.replica))
    ∙ ap (λ o. ordering_then o (int_cmp m.offset n.offset)) (subst (λ k. nat_cmp m.seq k ≡ Equal) s (tied_itself nat_cmp_total m.seq))
    ∙ e

less_is : (o p : ℤ) → o <ℤ p → int_cmp o p ≡ Less
less_is o p h = sym (int_cmp_is o p Less h)

not_past : (o : ℤ) (k : ℕ) (r : Ordering) → MatchOrdering r (o <ℤ (o +ℤ pos k)) (o ≡ o +ℤ pos k) ((o +ℤ pos k) <ℤ o) → is_gt r ≡ false
not_past o k Less h = refl
not_past o k Equal h = refl
not_past o k Greater h = absurd (omega (arith, ints, h))

-- the edges of a run, of which x is the first identifier
module _ (x : List Tuple) (n a : ℕ) (m : Mark) (is : IsIdent x) (begins : m ≡ mark_in (last_of x)) where
  pub run_order : 0 < n → edge_cmp (edge_at a m) (edge_at a (later (pos n) m)) ≡ Less
  run_order some = in_row a m (later (pos n) m) Less refl refl (less_is m.offset (m.offset +ℤ pos n) (omega (arith, ints, some)))

  -- an identifier of the run, by its place
  place : (y : List Tuple) → IsIn y (run_idents x n) → (k : ℕ) × (k < n) × (mark_in (last_of y) ≡ later (pos k) m)
  place y p =
      let s = stands_in (run_idents x n) y p in
      let l : s.0 < n = omega (arith, s.2, run_length x n) in
      let e : y ≡ shifted (pos s.0) x = some_is y (shifted (pos s.0) x) (sym s.3 ∙ run_gets x n s.0 l) in
      (s.0, l, ap (λ z. mark_in (last_of z)) e ∙ ap mark_in (last_shifted (pos s.0) x) ∙ raised_mark (pos s.0) (last_of x) (last_at x is) ∙ ap (later (pos s.0)) (sym begins))

  pub run_from : (y : List Tuple) → IsIn y (run_idents x n) → IsUpTo (edge_at a m) (edge_of a y)
  run_from y p =
      let k = place y p in
      let o = int_cmp m.offset (m.offset +ℤ pos k.0) in
      subst (λ z. IsUpTo (edge_at a m) (edge_at a z)) (sym k.2) (ap is_gt (in_row a m (later (pos k.0) m) o refl refl refl) ∙ not_past m.offset k.0 o (int_ranked m.offset (m.offset +ℤ pos k.0) o refl))

  pub run_to : (y : List Tuple) → IsIn y (run_idents x n) → edge_cmp (edge_of a y) (edge_at a (later (pos n) m)) ≡ Less
  run_to y p =
      let k = place y p in
      let less = k.1 in
      subst (λ z. edge_cmp (edge_at a z) (edge_at a (later (pos n) m)) ≡ Less) (sym k.2) (in_row a (later (pos k.0) m) (later (pos n) m) Less refl refl (less_is (m.offset +ℤ pos k.0) (m.offset +ℤ pos n) (omega (arith, ints, less))))
