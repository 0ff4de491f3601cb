-- Blocks that take the place of others.
use Rattle.std.specs.Prelude.{◌≡◌, ℕ, ◌-◌, ◌≤◌, nat_lt, List, [], ◌∷◌, ◌++◌, length, if◌then◌else◌}
use Rattle.rls_blocks.specs.declared.patch.Patch.{Patch}
use Rattle.rls_blocks.specs.Trees.{Piece, entries_of}

-- the blocks that end at a place or before it
abbrev pub before : ℕ → List Piece → List Piece
before i [] = []
before i (b ∷ bs) = if nat_lt i (length b.1) then [] else b ∷ before (i - length b.1) bs

-- all blocks after these
abbrev pub after : ℕ → List Piece → List Piece
after i [] = []
after i (b ∷ bs) = if nat_lt i (length b.1) then b ∷ bs else after (i - length b.1) bs

-- the place is between two blocks, or at an end
abbrev pub IsBetween : ℕ → List Piece → Type 0
IsBetween i bs = length (entries_of (before i bs)) ≡ i

-- the blocks with each patch, the last one first, in the place of those between its places
abbrev pub patched : List Patch → List Piece → List Piece
patched [] bs = bs
patched (p ∷ ps) bs = patched ps (before p.from bs) ++ (p.fresh.blocks ++ after p.to bs)

-- the places of each patch, the last one first, are between blocks, and none is after the first place of the one before
abbrev pub ArePatches : List Patch → List Piece → Type 0
ArePatches [] bs = Unit {0}
ArePatches (p ∷ ps) bs = (p.from ≤ p.to) × IsBetween p.from bs × IsBetween p.to bs × ArePatches ps (before p.from bs)
