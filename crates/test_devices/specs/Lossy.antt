-- What a disk in memory that doesn't retry is seen as, and what a crash may leave of it.
use Rattle.std.specs.Prelude.{◌≡◌, ◌<◌, ◌⊎◌, ℕ, zero, suc, Bool, true, false, List, [], ◌∷◌, ◌++◌, drop, if◌then◌else◌}
use Rattle.rls_journal.specs.Areas.{Areas, spliced}

pub record AreaState : Type 0 where
  -- what is read of it
  pub read : List ℕ
  -- what is on the disk for sure
  pub left : List ℕ
  -- the next sync writes what is read
  pub dirty : Bool

pub record AreaStates : Type 0 where
  pub slot0 : AreaState
  pub slot1 : AreaState
  pub gate : AreaState

pub record Moments : Type 0 where
  pub areas : AreaStates
  -- what was before each call that changed something, in order
  pub past : List AreaStates

abbrev pub state_of : AreaStates → ℕ → AreaState
state_of s zero = s.slot0
state_of s (suc zero) = s.slot1
state_of s (suc (suc n)) = s.gate

abbrev pub with_state : AreaStates → ℕ → AreaState → AreaStates
with_state s zero a = record { slot0 = a; slot1 = s.slot1; gate = s.gate }
with_state s (suc zero) a = record { slot0 = s.slot0; slot1 = a; gate = s.gate }
with_state s (suc (suc n)) a = record { slot0 = s.slot0; slot1 = s.slot1; gate = a }

-- what is read
abbrev pub reading : AreaStates → Areas
reading s = record { slot0 = s.slot0.read; slot1 = s.slot1.read; gate = s.gate.read }

-- ---- calls

-- after these bytes were written at a place
abbrev pub wrote : AreaState → ℕ → List ℕ → AreaState
wrote a at bytes = record { read = spliced a.read at bytes; left = a.left; dirty = true }

-- after a sync: what is dirty is written, and nothing else
abbrev pub synced : AreaState → AreaState
synced a = record { read = a.read; left = if a.dirty then a.read else a.left; dirty = false }

-- a change of one area
abbrev pub changed : Moments → ℕ → AreaState → Moments
changed m area a = record { areas = with_state m.areas area a; past = m.past ++ m.areas ∷ [] }

-- one that a crash leaves as it was
abbrev pub marked : Moments → ℕ → AreaState → Moments
marked m area a = record { areas = with_state m.areas area a; past = m.past }

-- ---- crashes

-- a crash leaves what is read of an area, or what is there for sure
abbrev pub LeavesOf : AreaState → List ℕ → Type 0
LeavesOf a c = (c ≡ a.read) ⊎ (c ≡ a.left)

pub record Leaves (s : AreaStates) (c : Areas) : Type 0 where
  pub slot0 : LeavesOf s.slot0 c.slot0
  pub slot1 : LeavesOf s.slot1 c.slot1
  pub gate : LeavesOf s.gate c.gate

-- at one of these moments
abbrev pub LeavesAt : List AreaStates → Areas → Type 0
LeavesAt [] c = ⊥
LeavesAt (s ∷ ss) c = Leaves s c ⊎ LeavesAt ss c

-- at the moment t or later
abbrev pub HasLeft : Moments → ℕ → Areas → Type 0
HasLeft m t c = LeavesAt (drop t (m.past ++ m.areas ∷ [])) c

-- the next sync of the area writes what is read of it
abbrev pub IsDirty : Moments → ℕ → Type 0
IsDirty m area = (area < 3) × ((state_of m.areas area).dirty ≡ true)
