-- How a disk in memory keeps its calls.
use Rattle.std.specs.Prelude.{◌≡◌, ℕ, ◌+◌, ◌≤◌, List, [], ◌∷◌, length, take, drop, Vec, vec_capacity}
use Rattle.std.specs.declared.alloc.Global.{Global}
use Rattle.rls_journal.specs.declared.contents.Contents.{Contents}
use Rattle.rls_journal.specs.declared.contents.Entry.{Entry}
use Rattle.rls_journal.specs.declared.contents.Entry.TheVariants as entry
use Rattle.rls_journal.specs.Areas.{Areas}
use Rattle.rls_journal.specs.Memory.{DeviceCall, Looked, Wrote, Synced, areas_after}

abbrev pub areas_of : Contents → Areas
areas_of c = record { slot0 = c.slot0.items; slot1 = c.slot1.items; gate = c.gate.items }

-- the calls of these entries, whose bytes stand one behind another
abbrev pub calls_of : List Entry → List ℕ → List DeviceCall
calls_of [] written = []
calls_of (entry.Looked ∷ entries) written = Looked ∷ calls_of entries written
calls_of (entry.Wrote area at len ∷ entries) written = Wrote area at (take len written) ∷ calls_of entries (drop len written)
calls_of (entry.Synced area ∷ entries) written = Synced area ∷ calls_of entries written

-- the call of an entry with these bytes
abbrev pub call_of : Entry → List ℕ → DeviceCall
call_of entry.Looked bytes = Looked
call_of (entry.Wrote area at len) bytes = Wrote area at bytes
call_of (entry.Synced area) bytes = Synced area

-- how many bytes an entry has
abbrev pub len_of : Entry → ℕ
len_of entry.Looked = 0
len_of (entry.Wrote area at len) = len
len_of (entry.Synced area) = 0

-- how many bytes these entries have
abbrev pub bytes_in : List Entry → ℕ
bytes_in [] = 0
bytes_in (entry.Looked ∷ entries) = bytes_in entries
bytes_in (entry.Wrote area at len ∷ entries) = len + bytes_in entries
bytes_in (entry.Synced area ∷ entries) = bytes_in entries

-- the entry is of a call that writes nothing
abbrev pub WritesNothing : Entry → Type 0
WritesNothing entry.Looked = Unit {0}
WritesNothing (entry.Wrote area at len) = ⊥
WritesNothing (entry.Synced area) = Unit {0}

-- there is memory for so many bytes more in each area
pub record HasRoom (c : Contents) (count : ℕ) : Type 0 where
  pub slot0 : length c.slot0.items + count ≤ vec_capacity c.slot0
  pub slot1 : length c.slot1.items + count ≤ vec_capacity c.slot1
  pub gate : length c.gate.items + count ≤ vec_capacity c.gate

-- the records fit what is read, and each has its memory
pub record IsKept (first now : Contents) (entries : Vec Entry Global) (written : Vec ℕ Global) (most left room : ℕ) : Type 0 where
  pub now_is : areas_of now ≡ areas_after (areas_of first) (calls_of entries.items written.items)
  pub bytes_are : bytes_in entries.items ≡ length written.items
  pub few : length entries.items ≤ most
  pub most_fits : most ≤ vec_capacity entries
  pub left_is : left + length written.items ≡ room
  pub room_fits : room ≤ vec_capacity written
  pub has_room : HasRoom now left
