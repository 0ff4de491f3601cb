-- The calls of a disk, and those that a store makes.
use Rattle.std.specs.Prelude.{◌≡◌, ◌-◌, ◌%◌, ℕ, zero, suc, Bool, List, [], ◌∷◌, ◌++◌, length, Option, Some, None, Result, Ok, Err}
use Rattle.std.specs.Int.{w64, to_be_bytes}
use Rattle.rls_io.specs.Calls.{Answer, Done, Told, Gave, Makes, FailsIn, Runs}

-- a call of a disk. The areas 0 and 1 are the slots, 2 is the gate
pub data DiskCall : Type 0 where
  -- the count of bytes in an area is asked for
  Size : ℕ → DiskCall
  -- of an area, from a place on, so many bytes are read
  Read : ℕ → ℕ → ℕ → DiskCall
  -- these bytes are written there
  Write : ℕ → ℕ → List ℕ → DiskCall
  -- the first byte of the gate is made dirty
  Renew : DiskCall
  -- an area is synced
  Sync : ℕ → DiskCall

-- ---- the calls that settle what the gate names, where it has this size and this first byte

-- the slot that it names, unless it is empty
abbrev pub slot_named : ℕ → ℕ → Option ℕ
slot_named zero first = None
slot_named (suc n) first = Some (first % 2)

-- it is renewed and synced before it is read, since what a sync that failed hasn't written a later one needn't write
abbrev pub gate_steps : ℕ → ℕ → List (DiskCall × Answer)
gate_steps zero first = (Size 2, Told 0) ∷ (Sync 2, Done) ∷ []
gate_steps (suc n) first = (Size 2, Told (suc n)) ∷ (Renew, Done) ∷ (Sync 2, Done) ∷ (Read 2 0 1, Gave (first ∷ [])) ∷ []

-- the slot that is named is synced
abbrev pub named_steps : Option ℕ → List (DiskCall × Answer)
named_steps None = []
named_steps (Some slot) = (Sync slot, Done) ∷ []

abbrev pub settle_steps : ℕ → ℕ → List (DiskCall × Answer)
settle_steps size first = gate_steps size first ++ named_steps (slot_named size first)

-- ---- the calls that write a file of these bytes

-- into a slot: its count of bytes in eight bytes, and then the bytes
abbrev pub put_steps : ℕ → List ℕ → List (DiskCall × Answer)
put_steps slot bytes = (Write slot 0 (to_be_bytes w64 (length bytes)), Done) ∷ (Write slot 8 bytes, Done) ∷ []

-- the gate names the slot
abbrev pub name_steps : ℕ → List (DiskCall × Answer)
name_steps slot = (Write 2 0 (slot ∷ []), Done) ∷ (Sync 2, Done) ∷ []

-- into one slot, which is synced before the gate names it
abbrev pub replace_steps : ℕ → List ℕ → List (DiskCall × Answer)
replace_steps slot bytes = put_steps slot bytes ++ ((Sync slot, Done) ∷ name_steps slot)

-- into both slots, which are synced before the gate names the first
abbrev pub begin_steps : List ℕ → List (DiskCall × Answer)
begin_steps bytes = put_steps 0 bytes ++ (put_steps 1 bytes ++ ((Sync 0, Done) ∷ (Sync 1, Done) ∷ name_steps 0))

-- into the slot that the gate doesn't name, or into both where it names none
abbrev pub write_steps : Option ℕ → List ℕ → List (DiskCall × Answer)
write_steps None bytes = begin_steps bytes
write_steps (Some slot) bytes = replace_steps (1 - slot) bytes

-- ---- a store

abbrev pub store_steps : ℕ → ℕ → List ℕ → List (DiskCall × Answer)
store_steps size first bytes = settle_steps size first ++ write_steps (slot_named size first) bytes

-- Calls that find the slot which the gate names: those of a gate that names this slot, or a part of those of some gate up to one that failed.
abbrev pub NamesBy : {D E : Type 0} → (D → DiskCall → Answer → D → Type 0) → (ℕ → ℕ → List (DiskCall × Answer)) → Result (Option ℕ) E → D → D → Type 0
NamesBy answers steps (Ok slot) old new = (size first : ℕ) × (slot ≡ slot_named size first) × Makes answers (steps size first) old new
NamesBy answers steps (Err _) old new = (size first : ℕ) × FailsIn answers (steps size first) old new

-- The calls of a store of these bytes, where the disk tells this size of the gate, and gives this first byte of it: all of them, one after
-- another, or a part from the front and one that failed.
abbrev pub StoresBy : {D : Type 0} → (D → DiskCall → Answer → D → Type 0) → List ℕ → Bool → D → D → Type 0
StoresBy answers bytes ok old new = (size first : ℕ) × Runs answers (store_steps size first bytes) ok old new
