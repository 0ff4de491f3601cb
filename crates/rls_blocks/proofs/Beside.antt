-- What stands on both sides of a place of a node.
use Rattle.std.proofs.Common.{◌≡◌, ℕ, zero, suc, ◌+◌, ◌-◌, ◌<◌, ◌≤◌, Bool, true, false, List, ◌∷◌, ◌++◌, length, Option, Some, refl, sym, ap, ◌∙◌, arith}
use Rattle.std.specs.Prelude.{nat_lt}
use Rattle.std.specs.Option.{option_or}
use Rattle.rls_ident.proofs.Members.{lt_is, not_lt_is}
use Rattle.rls_blocks.specs.Trees.{Piece, IsPiece, ArePieces, entries_of}
use Rattle.rls_blocks.specs.Edits.{located}
use Rattle.rls_blocks.specs.Beside.{located_before}
use Rattle.rls_blocks.proofs.Pieces.{piece_some}
use Rattle.rls_blocks.proofs.AtPlaces.{located_front, located_behind, located_here, located_none}
use Rattle.rls_blocks.proofs.Placed.{around, there_behind}

module _ (b : Piece) (l r link : List Piece) (is : link ≡ l ++ b ∷ r) (are : ArePieces l) (own : IsPiece b.0 b.1) where
  -- up to the block
  pub before_left : (front : Option (Piece × ℕ)) (i : ℕ) → i ≤ length (entries_of l) → located_before front l i ≡ located_before front link i
  before_left front zero h = refl
  before_left front (suc i) h = sym (ap (λ bs. located bs i) is ∙ located_front l (b ∷ r) i are (omega (arith, h)))

  pub behind_left : (back : Option (Piece × ℕ)) (i : ℕ) → i ≤ length (entries_of l) → option_or (located l i) (Some (b, 0)) ≡ option_or (located link i) back
  behind_left back i h = go (nat_lt i (length (entries_of l))) refl
    where
      go : (t : Bool) → nat_lt i (length (entries_of l)) ≡ t → option_or (located l i) (Some (b, 0)) ≡ option_or (located link i) back
      go true t =
          let w = lt_is i (length (entries_of l)) t in
          let there = (around l i are w).there in
          ap (λ o. option_or o (Some (b, 0))) there ∙ sym (ap (λ o. option_or o back) (ap (λ bs. located bs i) is ∙ located_front l (b ∷ r) i are w ∙ there))
      go false t =
          let w = not_lt_is i (length (entries_of l)) t in
          ap (λ o. option_or o (Some (b, 0))) (located_none l i are w)
          ∙ sym (ap (λ o. option_or o back) (ap (λ bs. located bs i) is ∙ located_behind l (b ∷ r) i 0 are (omega (arith, h, w)) ∙ located_here b r 0 (piece_some b own)))

  -- within it
  pub before_own : (front : Option (Piece × ℕ)) (i j : ℕ) → i ≡ length (entries_of l) + j → 0 < j → j ≤ length b.1 → Some (b, j - 1) ≡ located_before front link i
  before_own front zero j e s h = absurd (omega (arith, e, s))
  before_own front (suc i) j e s h = sym (ap (λ bs. located bs i) is ∙ located_behind l (b ∷ r) i (j - 1) are (omega (arith, e, s)) ∙ located_here b r (j - 1) (omega (arith, s, h)))

  pub behind_own : (back : Option (Piece × ℕ)) (i j : ℕ) → i ≡ length (entries_of l) + j → j < length b.1 → Some (b, j) ≡ option_or (located link i) back
  behind_own back i j e h = sym (ap (λ o. option_or o back) (ap (λ bs. located bs i) is ∙ located_behind l (b ∷ r) i j are e ∙ located_here b r j h))

  -- after it
  pub before_right : (front : Option (Piece × ℕ)) (i j : ℕ) → i ≡ length (entries_of l) + (length b.1 + j) → located_before (Some (b, length b.1 - 1)) r j ≡ located_before front link i
  before_right front i zero e = before_own front i (length b.1) (omega (arith, e)) (piece_some b own) (omega arith)
  before_right front zero (suc j) e = absurd (omega (arith, e))
  before_right front (suc i) (suc j) e = there_behind b l r link i is are own j (omega (arith, e))

  pub behind_right : (back : Option (Piece × ℕ)) (i j : ℕ) → i ≡ length (entries_of l) + (length b.1 + j) → option_or (located r j) back ≡ option_or (located link i) back
  behind_right back i j e = ap (λ o. option_or o back) (there_behind b l r link i is are own j e)
