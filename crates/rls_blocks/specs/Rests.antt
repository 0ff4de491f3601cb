-- What stays of a block.
use Rattle.std.specs.Prelude.{◌≡◌, ℕ, ◌+◌, ◌<◌, ◌≤◌, pos, List, [], ◌∷◌, ◌++◌, take, drop, map}
use Rattle.rls_ident.specs.Identifiers.{shifted}
use Rattle.rls_runs.specs.Entries.{Entries}
use Rattle.rls_blocks.specs.declared.rest.Part.{Part}
use Rattle.rls_blocks.specs.declared.rest.Rest.{Rest}
use Rattle.rls_blocks.specs.Trees.{Piece}
use Rattle.rls_blocks.specs.Edits.{part_of, among}

-- these parts of a block, each as a block
abbrev pub parts_of : List Part → Piece → List Piece
parts_of ps b = map (λ (p : Part). part_of p.at p.len b) ps

-- the same of entries
abbrev pub parts_in : List Part → Entries → Entries
parts_in [] es = []
parts_in (p ∷ ps) es = take p.len (drop p.at es) ++ parts_in ps es

-- the parts are between these places, in order, and between two of them a character is left out
abbrev pub AreParts : ℕ → List Part → ℕ → Type 0
AreParts from [] end = Unit {0}
AreParts from (p ∷ ps) end = (from ≤ p.at) × (0 < p.len) × (p.at + p.len ≤ end) × AreParts (p.at + p.len + 1) ps end

-- the rest is one of this block
pub record IsRest (r : Rest) (b : Piece) : Type 0 where
  pub run_is : r.run.0 ≡ shifted (pos r.at) b.0.0
  pub within : r.at + r.run.1 ≤ b.0.1

-- the rest of a block, as blocks
abbrev pub rest_of : Rest → Piece → List Piece
rest_of r b = r.front.blocks ++ part_of r.at r.run.1 b ∷ r.behind.blocks

-- blocks, of which the one that has a place has its rest in its place
abbrev pub rested : Rest → List Piece → ℕ → List Piece
rested r bs i = among (λ b at. rest_of r b) bs i
