-- Trees of blocks, each a run with its characters.
use Rattle.std.specs.Prelude.{◌≡◌, ℕ, ◌+◌, ◌*◌, ◌^◌, ◌≤◌, max, List, [], ◌∷◌, ◌++◌, length, map, zip, Option, Some, None, Box, IsTrue}
use Rattle.std.specs.declared.alloc.Global.{Global}
use Rattle.std.proofs.Props as below
use Rattle.rls_ident.specs.declared.tuple.Tuple.{Tuple}
use Rattle.rls_runs.specs.Runs.{run_idents, is_run}
use Rattle.rls_runs.specs.Entries.{Entries}

-- a run, and a character for each of its identifiers
abbrev pub Piece : Type 0
Piece = (List Tuple × ℕ) × List ℕ

-- the characters of a block, each with its identifier
abbrev pub piece_entries : Piece → Entries
piece_entries b = zip (run_idents b.0.0 b.0.1) b.1

-- the characters of these blocks, each with its identifier
abbrev pub entries_of : List Piece → Entries
entries_of [] = []
entries_of (b ∷ bs) = piece_entries b ++ entries_of bs

-- the runs of these blocks
abbrev pub runs_in : List Piece → List (List Tuple × ℕ)
runs_in bs = map (λ b. b.0) bs

-- the block has a run of the program and as many characters
pub record IsPiece (run : List Tuple × ℕ) (text : List ℕ) : Type 0 where
  pub sound : IsTrue (is_run run)
  pub as_many : length text ≡ run.1

-- each is a block
abbrev pub ArePieces : List Piece → Type 0
ArePieces [] = Unit {0}
ArePieces (b ∷ bs) = IsPiece b.0 b.1 × ArePieces bs

-- a proof of that is as good as any other
pub pieces_prop : (bs : List Piece) → IsProp (ArePieces bs)
pieces_prop [] = hlevel
pieces_prop (b ∷ bs) = hlevel (below.props, pieces_prop bs)

-- a tree: its blocks in order, and how high it is
pub record Tree : Type 0 where
  pub blocks : List Piece
  pub height : ℕ

-- a node: its tree, and the block between its two sides
pub record Seen : Type 0 where
  pub blocks : List Piece
  pub height : ℕ
  pub left : Tree
  pub block : Piece
  pub right : Tree

-- a node, or none
abbrev pub MaybeNode : Type 0
MaybeNode = Option (Box Seen Global)

-- a node whose block is the only one of its tree
pub record IsAlone (node : Seen) : Type 0 where
  pub only : node.blocks ≡ node.block ∷ []
  pub one_level : node.height ≡ 1
  pub piece : IsPiece node.block.0 node.block.1

-- its blocks
abbrev pub pieces : MaybeNode → List Piece
pieces None = []
pieces (Some b) = b.value.blocks

abbrev pub levels : MaybeNode → ℕ
levels None = 0
levels (Some b) = b.value.height

-- a tree of n blocks is not higher than h
abbrev pub IsLow : ℕ → ℕ → Type 0
IsLow h n = 2 ^ h ≤ (n + 1) * (n + 1)

-- the numbers of a node are right, and its sides differ by one level at most
pub record IsSound (left right : Tree) (own : Piece) (front end sum count high : ℕ) : Type 0 where
  pub own_is : IsPiece own.0 own.1
  pub left_are : ArePieces left.blocks
  pub right_are : ArePieces right.blocks
  pub front_is : front ≡ length (entries_of left.blocks)
  pub end_is : end ≡ front + length own.1
  pub sum_is : sum ≡ end + length (entries_of right.blocks)
  pub count_is : count ≡ length left.blocks + length right.blocks + 1
  pub count_most : count ≤ sum
  pub height_is : high ≡ max left.height right.height + 1
  pub left_not_higher : left.height ≤ right.height + 1
  pub right_not_higher : right.height ≤ left.height + 1
  pub left_low : IsLow left.height (length left.blocks)
  pub right_low : IsLow right.height (length right.blocks)
  pub low : IsLow high count
