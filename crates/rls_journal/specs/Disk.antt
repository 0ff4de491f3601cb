-- What the calls of a disk do, and what a crash may do between two syncs.
use Rattle.std.specs.Prelude.{◌≡◌, ◌≢◌, ◌⊎◌, ℕ, ◌+◌, ◌≤◌, max, List, length, take, drop, Option, Some, None, Result, IsErr, OnOk}
use Rattle.rls_io.specs.Device.{Rose, one_more}
use Rattle.rls_journal.specs.Areas.{Areas, area_of, with_area, spliced}

-- a call that fails raises the count of faults by one, and no other call changes it
pub record CountsFaults {A E : Type 0} (result : Result A E) (before after : ℕ) : Type 0 where
  pub counted : IsErr result → after ≡ one_more before
  pub uncounted : OnOk result (after ≡ before)
  pub never_falls : before ≤ after
  pub cause : IsErr result → Rose before after

-- after a write of n bytes that a crash cuts short: any bytes in the range and past the old end, the same elsewhere
pub record Torn (at n : ℕ) (old new : List ℕ) : Type 0 where
  pub before : take at new ≡ take at old
  pub after : drop (at + n) new ≡ drop (at + n) old
  pub no_shorter : length old ≤ length new
  pub no_longer : length new ≤ max (length old) (at + n)

-- the same in one area, while the others stay
pub record Tears (area at n : ℕ) (old new : Areas) : Type 0 where
  pub torn : Torn at n (area_of old area) (area_of new area)
  pub others : new ≡ with_area old area (area_of new area)

-- an area has these bytes at this place, where the disk tells its content; where it doesn't, it goes on not to tell it
abbrev pub Writes : ℕ → ℕ → List ℕ → Option Areas → Option Areas → Type 0
Writes area at bytes None new = new ≡ None
Writes area at bytes (Some old) new = new ≡ Some (with_area old area (spliced (area_of old area) at bytes))

-- the same where the write was cut short
abbrev pub MayTear : ℕ → ℕ → ℕ → Option Areas → Option Areas → Type 0
MayTear area at n None new = new ≡ None
MayTear area at n (Some old) new = (areas : Areas) × (new ≡ Some areas) × Tears area at n old areas

-- each outcome of a crash is one from before
abbrev pub Narrows : (Areas → Type 0) → (Areas → Type 0) → Type 0
Narrows old new = (c : Areas) → new c → old c

-- each new outcome of a crash is an old outcome after a step
abbrev pub Follows : (Areas → Areas → Type 0) → (Areas → Type 0) → (Areas → Type 0) → Type 0
Follows step old new = (c : Areas) → new c → (d : Areas) × old d × step d c

-- a crash leaves what is read of this area
abbrev pub IsDurable : ℕ → Areas → (Areas → Type 0) → Type 0
IsDurable area seen may_leave = (c : Areas) → may_leave c → area_of c area ≡ area_of seen area

-- of n bytes of an area, from a place on, or those that there are, the same
abbrev pub IsDurableAt : ℕ → ℕ → ℕ → Areas → (Areas → Type 0) → Type 0
IsDurableAt area at n seen may_leave = (c : Areas) → may_leave c → take n (drop at (area_of c area)) ≡ take n (drop at (area_of seen area))

-- After a sync of an area that succeeded: a crash leaves what is read of the bytes that were dirty, and no longer an area than the one that is read.
pub record IsWritten (area : ℕ) (dirty : ℕ → ℕ → ℕ → Type 0) (seen : Areas) (may_leave : Areas → Type 0) : Type 0 where
  pub durable : (at n : ℕ) → dirty area at n → IsDurableAt area at n seen may_leave
  pub no_longer : (c : Areas) → may_leave c → length (area_of c area) ≤ length (area_of seen area)

-- after the first byte of the gate was to be written as it is read: where the disk has it so, all stays; elsewhere the write may be torn
pub record Renews (seen old new : Areas) : Type 0 where
  pub stays : take 1 old.gate ≡ take 1 seen.gate → new ≡ old
  pub tears : Tears 2 0 1 old new

-- what was dirty is dirty
abbrev pub StaysDirty : (ℕ → ℕ → ℕ → Type 0) → (ℕ → ℕ → ℕ → Type 0) → Type 0
StaysDirty old new = (area at n : ℕ) → old area at n → new area at n

-- the same in the other areas
abbrev pub StaysDirtyBut : ℕ → (ℕ → ℕ → ℕ → Type 0) → (ℕ → ℕ → ℕ → Type 0) → Type 0
StaysDirtyBut synced old new = (area at n : ℕ) → area ≢ synced → old area at n → new area at n

-- Time goes on: a crash since t might have left what it might have left before, or what it may leave now.
pub record Elapses (before now : ℕ) (past since : ℕ → Areas → Type 0) (may_leave : Areas → Type 0) : Type 0 where
  pub later : before ≤ now
  pub nothing_else : (t : ℕ) (c : Areas) → t ≤ before → since t c → past t c ⊎ may_leave c
  pub keeps : (t : ℕ) (c : Areas) → t ≤ before → past t c → since t c

-- A crash at any moment since old leaves what has P.
pub record LeavesOnly {D : Type 0} (moment : D → ℕ) (left_since : D → ℕ → Areas → Type 0) (old new : D) (P : Areas → Type 0) : Type 0 where
  pub later : moment old ≤ moment new
  pub each : (c : Areas) → left_since new (moment old) c → P c
  -- for a run that began earlier
  pub before : (t : ℕ) (c : Areas) → t ≤ moment old → left_since new t c → left_since old t c ⊎ P c

-- Nothing that is read changed, and a crash since leaves nothing that it might not have left before.
pub record IsUnchanged {D : Type 0} (seen : D → Option Areas) (may_leave : D → Areas → Type 0) (moment : D → ℕ) (left_since : D → ℕ → Areas → Type 0) (old new : D) : Type 0 where
  pub same : seen new ≡ seen old
  pub narrows : Narrows (may_leave old) (may_leave new)
  pub later : moment old ≤ moment new
  pub before : (t : ℕ) (c : Areas) → t ≤ moment old → left_since new t c → left_since old t c ⊎ may_leave old c

-- A crash since leaves what it might have left before, or that after a step.
pub record Changes {D : Type 0} (may_leave : D → Areas → Type 0) (moment : D → ℕ) (left_since : D → ℕ → Areas → Type 0) (step : Areas → Areas → Type 0) (old new : D) : Type 0 where
  pub later : moment old ≤ moment new
  pub crash : Follows step (may_leave old) (may_leave new)
  pub before : (t : ℕ) (c : Areas) → t ≤ moment old → left_since new t c → left_since old t c ⊎ ((d : Areas) × may_leave old d × step d c)
