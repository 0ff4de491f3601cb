-- What stands on both sides of a place.
use Rattle.std.specs.Prelude.{ℕ, zero, suc, ◌-◌, pos, List, length, Option}
use Rattle.std.specs.Option.{option_map}
use Rattle.std.specs.Borrow.{Bor}
use Rattle.rls_ident.specs.declared.tuple.Tuple.{Tuple}
use Rattle.rls_ident.specs.Identifiers.{shifted}
use Rattle.rls_blocks.specs.Trees.{Piece}
use Rattle.rls_blocks.specs.Edits.{located}

-- a block that is lent, and a place within it
abbrev pub lent : Option (Bor Piece × ℕ) → Option (Piece × ℕ)
lent o = option_map (λ p. (p.0.now, p.1)) o

-- the first place of a block
abbrev pub first_place : Piece → Piece × ℕ
first_place b = (b, 0)

-- the last one
abbrev pub last_place : Piece → Piece × ℕ
last_place b = (b, length b.1 - 1)

-- the block in which the place right before this one stands, and the place within it; before the first one there is what is given
abbrev pub located_before : Option (Piece × ℕ) → List Piece → ℕ → Option (Piece × ℕ)
located_before front bs zero = front
located_before front bs (suc i) = located bs i

-- the identifier at a place within a block
abbrev pub ident_there : Piece × ℕ → List Tuple
ident_there p = shifted (pos p.1) p.0.0.0
