-- What stands in the three areas of a disk, and the file that is kept there.
use Rattle.std.specs.Prelude.{ℕ, zero, suc, ◌+◌, ◌%◌, List, [], ◌∷◌, ◌++◌, length, take, drop, Option, Some, None}
use Rattle.std.specs.Int.{w64, from_be_bytes}

pub record Areas : Type 0 where
  pub slot0 : List ℕ
  pub slot1 : List ℕ
  pub gate : List ℕ

-- what an area holds: 0 and 1 are the slots, 2 is the gate
abbrev pub area_of : Areas → ℕ → List ℕ
area_of areas zero = areas.slot0
area_of areas (suc zero) = areas.slot1
area_of areas (suc (suc n)) = areas.gate

-- the same but for one area
abbrev pub with_area : Areas → ℕ → List ℕ → Areas
with_area areas zero bytes = record { slot0 = bytes; slot1 = areas.slot1; gate = areas.gate }
with_area areas (suc zero) bytes = record { slot0 = areas.slot0; slot1 = bytes; gate = areas.gate }
with_area areas (suc (suc n)) bytes = record { slot0 = areas.slot0; slot1 = areas.slot1; gate = bytes }

-- old with these bytes at this place
abbrev pub spliced : List ℕ → ℕ → List ℕ → List ℕ
spliced old at bytes = take at old ++ bytes ++ drop (at + length bytes) old

-- A slot begins with a number in eight bytes. Its file is so many bytes behind them, or those that there are.
abbrev pub file_of : List ℕ → List ℕ
file_of slot = take (from_be_bytes w64 (take 8 slot)) (drop 8 slot)

-- the slot that a gate names, by its first byte
abbrev pub named_by : List ℕ → Option ℕ
named_by [] = None
named_by (byte ∷ rest) = Some (byte % 2)

-- the file of the named slot
abbrev pub file_at : Option ℕ → Areas → Option (List ℕ)
file_at None areas = None
file_at (Some slot) areas = Some (file_of (area_of areas slot))

-- the kept file, if there is one
abbrev pub kept : Areas → Option (List ℕ)
kept areas = file_at (named_by areas.gate) areas
