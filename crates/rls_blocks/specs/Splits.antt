-- Trees split at a place.
use Rattle.std.specs.Prelude.{◌≡◌, ℕ, ◌+◌, ◌<◌, List, ◌∷◌, ◌++◌, length}
use Rattle.rls_blocks.specs.declared.split.Halves.{Halves}
use Rattle.rls_blocks.specs.declared.split.Halves.TheVariants.{Between, Within}
use Rattle.rls_blocks.specs.Trees.{Piece, IsPiece, ArePieces, entries_of}

-- the place is between the blocks of two lists
pub record IsBetweenLists (bs : List Piece) (i : ℕ) (f g : List Piece) : Type 0 where
  pub blocks : bs ≡ f ++ g
  pub place : length (entries_of f) ≡ i
  pub front_are : ArePieces f
  pub behind_are : ArePieces g
  pub chars : length (entries_of bs) ≡ length (entries_of f) + length (entries_of g)

-- the place is within a block between two lists, at a place that isn't its first
pub record IsWithin (bs : List Piece) (i : ℕ) (f : List Piece) (b : Piece) (at : ℕ) (g : List Piece) : Type 0 where
  pub blocks : bs ≡ f ++ b ∷ g
  pub place : length (entries_of f) + at ≡ i
  pub some : 0 < at
  pub within : at < length b.1
  pub piece : IsPiece b.0 b.1
  pub front_are : ArePieces f
  pub behind_are : ArePieces g
  pub chars : length (entries_of bs) ≡ length (entries_of f) + length b.1 + length (entries_of g)

-- blocks are split so at a place
abbrev pub Splits : List Piece → ℕ → Halves → Type 0
Splits bs i (Between f g) = IsBetweenLists bs i f.blocks g.blocks
Splits bs i (Within f b at g) = IsWithin bs i f.blocks b at g.blocks
