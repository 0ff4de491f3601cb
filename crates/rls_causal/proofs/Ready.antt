-- Of one author's waiting operations, those that are ready, and those that can't be.
use Rattle.std.proofs.Common.{◌≡◌, ℕ, suc, ◌≤◌, ◌<◌, Bool, true, false, cond, List, ◌∷◌, None, Some, sym, ap, ◌∙◌, arith, inl, inr, ◌⊎◌}
use Rattle.std.specs.Prelude.{slice_index}
use Rattle.std.specs.List.{list_all}
use Rattle.rls_ident.specs.Vectors.{at_most}
use Rattle.rls_ident.proofs.Members.{and_left, and_right, in_all, eq_is, le_is, none_found, not_true}
use Rattle.rls_ident.proofs.Vectors.{index_le}
use Rattle.rls_ops.specs.declared.op.Op.{Op}
use Rattle.rls_ops.specs.Waiting.{comes_before, first_ready_at, is_in_order}
use Rattle.rls_ops.proofs.Waiting.{before_is}
use Rattle.rls_causal.specs.Queued.{is_by, counts_own}

-- what comes after an operation that comes after the vector's count, of the same author, counts more than the vector
too_late : (w x : Op) (v : List ℕ) → comes_before w x ≡ true → w.author ≡ x.author → slice_index v w.author < w.seq → x.seq ≤ suc (slice_index x.context x.author) → slice_index x.context x.author ≤ slice_index v x.author → ⊥
too_late w x v b a ahead c r = further (before_is w x b)
  where
    further : (w.author < x.author) ⊎ ((w.author ≡ x.author) × (w.seq < x.seq)) → ⊥
    further (inl p) = absurd (omega (arith, a))
    further (inr p) = let q = ap (slice_index v) a in let s = p.1 in absurd (omega (arith, q, s))

-- a search came to the rest of the operations, since none before it is ready
pub record Searched (v : List ℕ) (W rest : List Op) : Type 0 where
  pub ready : first_ready_at v rest ≡ first_ready_at v W
  pub order : is_in_order rest ≡ true
  pub passes : (t : Op → Bool) → list_all t W ≡ true → list_all t rest ≡ true

module _ (v : List ℕ) (W : List Op) (w : Op) (ws rest : List Op) (at : rest ≡ w ∷ ws) (so : Searched v W rest) where
  order_at : is_in_order (w ∷ ws) ≡ true
  order_at = ap is_in_order (sym at) ∙ so.order

  passes_at : (t : Op → Bool) → list_all t W ≡ true → list_all t (w ∷ ws) ≡ true
  passes_at t h = ap (list_all t) (sym at) ∙ so.passes t h

  found_at : (b : Bool) → at_most w.context v ≡ b → first_ready_at v W ≡ cond b (Some w) (first_ready_at v ws)
  found_at b e = sym so.ready ∙ ap (first_ready_at v) at ∙ ap (λ t. cond t (Some w) (first_ready_at v ws)) e

  pub ready_here : at_most w.context v ≡ true → first_ready_at v W ≡ Some w
  ready_here e = found_at true e

  pub searched_on : at_most w.context v ≡ false → Searched v W ws
  searched_on e = record {
    ready = sym (found_at false e);
    order = and_right (list_all (comes_before w) ws) (is_in_order ws) order_at;
    passes = λ t h. and_right (t w) (list_all t ws) (passes_at t h);
  }

  -- after an operation that comes after the vector's count of its author, none is ready
  pub none_ready : (a : ℕ) → list_all (is_by a) W ≡ true → list_all counts_own W ≡ true → at_most w.context v ≡ false → slice_index v w.author < w.seq → first_ready_at v W ≡ None
  none_ready a by counted e ahead = found_at false e ∙ none_found (λ x. at_most x.context v) ws (λ x p. not_true (at_most x.context v) (λ ready.
      too_late w x v
      (in_all (comes_before w) x ws (and_left (list_all (comes_before w) ws) (is_in_order ws) order_at) p)
      (eq_is w.author a (and_left (is_by a w) (list_all (is_by a) ws) (passes_at (is_by a) by)) ∙ sym (eq_is x.author a (in_all (is_by a) x ws (and_right (is_by a w) (list_all (is_by a) ws) (passes_at (is_by a) by)) p)))
      ahead
      (le_is x.seq (suc (slice_index x.context x.author)) (in_all counts_own x ws (and_right (counts_own w) (list_all counts_own ws) (passes_at counts_own counted)) p))
      (index_le x.context v x.author ready)))
