-- What the identifiers on both sides of a node's block begin with.
use Rattle.std.proofs.Common.{◌≡◌, ℕ, zero, suc, ◌<◌, ◌≤◌, List, ◌∷◌, ◌++◌, take, refl, sym, ap, ◌∙◌, subst, arith}
use Rattle.std.specs.Prelude.{pos}
use Rattle.rls_ident.specs.declared.tuple.Tuple.{Tuple}
use Rattle.rls_ident.specs.Identifiers.{shifted}
use Rattle.rls_runs.specs.Runs.{run_idents, idents_of}
use Rattle.rls_runs.specs.Fronts.{front_of, shared, AboveFront, BelowFront}
use Rattle.rls_runs.proofs.Fronts.{shared_begins, between_begins, above_left, below_right, before_front, behind_front}
use Rattle.rls_runs.proofs.RunOrder.{Rising}
use Rattle.rls_blocks.specs.Trees.{ArePieces, IsPiece, Piece, runs_in}
use Rattle.rls_blocks.proofs.Parts.{node_idents, left_rises, right_rises}
use Rattle.rls_blocks.proofs.Pieces.{piece_some}

first_of : (x : List Tuple) (n : ℕ) → 0 < n → (ys : List (List Tuple)) × (run_idents x n ≡ x ∷ ys)
first_of x zero h = absurd (omega arith)
first_of x (suc n) h = (run_idents (shifted (pos 1) x) n, refl)

module _ (l r : List Piece) (b : Piece) (bs : List Piece) (x : List Tuple) (is : l ++ b ∷ r ≡ bs) (own : IsPiece b.0 b.1) where
  others : (ys : List (List Tuple)) × (run_idents b.0.0 b.0.1 ≡ b.0.0 ∷ ys)
  others = first_of b.0.0 b.0.1 (omega (arith, piece_some b own, own.as_many))

  seen : idents_of (runs_in bs) ≡ idents_of (runs_in l) ++ b.0.0 ∷ (others.0 ++ idents_of (runs_in r))
  seen = node_idents l r b bs is ∙ ap (λ xs. idents_of (runs_in l) ++ (xs ++ idents_of (runs_in r))) others.1

  -- the block begins so, as it stands between both
  pub own_begins : (low high n : ℕ) → n ≤ low → n ≤ high → AboveFront low x (idents_of (runs_in bs)) → BelowFront high x (idents_of (runs_in bs)) → take n b.0.0 ≡ take n x
  own_begins low high n h k above below =
      between_begins low high n x (idents_of (runs_in l)) b.0.0 (others.0 ++ idents_of (runs_in r)) h k (subst (AboveFront low x) seen above) (subst (BelowFront high x) seen below)

  -- what it shares it begins with
  own_shares : (n : ℕ) → n ≡ shared (front_of b.0.0) (front_of x) → take n b.0.0 ≡ take n x
  own_shares n e = ap (λ k. take k b.0.0) e ∙ shared_begins b.0.0 x ∙ sym (ap (λ k. take k x) e)

  left_above : (n : ℕ) → AboveFront n x (idents_of (runs_in bs)) → AboveFront n x (idents_of (runs_in l))
  left_above n above = above_left n x (idents_of (runs_in l)) (b.0.0 ∷ (others.0 ++ idents_of (runs_in r))) (subst (AboveFront n x) seen above)

  right_below : (n : ℕ) → BelowFront n x (idents_of (runs_in bs)) → BelowFront n x (idents_of (runs_in r))
  right_below n below = below_right n x others.0 (idents_of (runs_in r)) (below_right n x (idents_of (runs_in l)) (b.0.0 ∷ (others.0 ++ idents_of (runs_in r))) (subst (BelowFront n x) seen below)).1

  -- both sides, where the block begins so
  left_below : (n : ℕ) → take n b.0.0 ≡ take n x → Rising (idents_of (runs_in bs)) → BelowFront n x (idents_of (runs_in l))
  left_below n same rises = before_front n x (idents_of (runs_in l)) b.0.0 (others.0 ++ idents_of (runs_in r)) same (subst Rising seen rises)

  right_above : (n : ℕ) → take n b.0.0 ≡ take n x → Rising (idents_of (runs_in bs)) → AboveFront n x (idents_of (runs_in r))
  right_above n same rises = behind_front n x (idents_of (runs_in l)) b.0.0 others.0 (idents_of (runs_in r)) same (subst Rising seen rises)

  -- a side, as a tree of its own
  pub left_side : (side : List Piece) (low n : ℕ) → side ≡ l → ArePieces l → n ≡ shared (front_of b.0.0) (front_of x) → Rising (idents_of (runs_in bs)) → AboveFront low x (idents_of (runs_in bs)) →
      Rising (idents_of (runs_in side)) × (AboveFront low x (idents_of (runs_in side)) × BelowFront n x (idents_of (runs_in side)))
  left_side side low n e are shares rises above =
      subst (λ cs. Rising (idents_of (runs_in cs)) × (AboveFront low x (idents_of (runs_in cs)) × BelowFront n x (idents_of (runs_in cs)))) (sym e)
      (left_rises l r b bs x is are own rises, (left_above low above, left_below n (own_shares n shares) rises))

  pub right_side : (side : List Piece) (high n : ℕ) → side ≡ r → ArePieces l → n ≡ shared (front_of b.0.0) (front_of x) → Rising (idents_of (runs_in bs)) → BelowFront high x (idents_of (runs_in bs)) →
      Rising (idents_of (runs_in side)) × (AboveFront n x (idents_of (runs_in side)) × BelowFront high x (idents_of (runs_in side)))
  right_side side high n e are shares rises below =
      subst (λ cs. Rising (idents_of (runs_in cs)) × (AboveFront n x (idents_of (runs_in cs)) × BelowFront high x (idents_of (runs_in cs)))) (sym e)
      (right_rises l r b bs x is are own rises, (right_above n (own_shares n shares) rises, right_below high below))
