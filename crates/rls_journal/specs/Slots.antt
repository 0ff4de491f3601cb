-- What the steps of loading and storing do.
use Rattle.std.specs.Prelude.{◌≡◌, ◌⊎◌, ℕ, List, [], length, take, Option, Some, None, IfSome}
use Rattle.std.specs.Int.{w64, from_be_bytes}
use Rattle.rls_journal.specs.Areas.{Areas, area_of, with_area, named_by, file_of, kept}
use Rattle.rls_journal.specs.Disk.{IsDurableAt, IsUnchanged, LeavesOnly}

-- the second is the first but for one area
abbrev pub Strays : ℕ → Areas → Areas → Type 0
Strays area old new = new ≡ with_area old area (area_of new area)

-- the same where the disk tells its content; where it doesn't, it goes on not to tell it
abbrev pub MayStray : ℕ → Option Areas → Option Areas → Type 0
MayStray area None new = new ≡ None
MayStray area (Some old) new = (areas : Areas) × (new ≡ Some areas) × Strays area old areas

-- The slot has the file, and the other areas are as they were, where the disk tells its content; where it doesn't, it goes
-- on not to tell it.
abbrev pub Puts : ℕ → List ℕ → Option Areas → Option Areas → Type 0
Puts slot bytes None new = new ≡ None
Puts slot bytes (Some old) new =
    (areas : Areas) × (new ≡ Some areas) × Strays slot old areas × (from_be_bytes w64 (take 8 (area_of areas slot)) ≡ length bytes) × (file_of (area_of areas slot) ≡ bytes)

-- the gate names the slot, now and after a crash, and the slots are as they were
abbrev pub Names : ℕ → Option Areas → Option Areas → (Areas → Type 0) → Type 0
Names slot None new may_leave = new ≡ None
Names slot (Some old) new may_leave = (areas : Areas) × (new ≡ Some areas) × Strays 2 old areas × (named_by areas.gate ≡ Some slot) × IsDurableAt 2 0 1 areas may_leave

-- the kept file is these bytes, now and after a crash
abbrev pub HasStored : List ℕ → Option Areas → Option Areas → (Areas → Type 0) → Type 0
HasStored bytes None new may_leave = new ≡ None
HasStored bytes (Some old) new may_leave = (areas : Areas) × (new ≡ Some areas) × (kept areas ≡ Some bytes) × ((c : Areas) → may_leave c → kept c ≡ Some bytes)

-- ---- what a crash leaves of the slots

-- the file that is read from this slot
abbrev pub HasFile : ℕ → Areas → (Areas → Type 0) → Type 0
HasFile slot seen may_leave = (c : Areas) → may_leave c → file_of (area_of c slot) ≡ file_of (area_of seen slot)

-- the byte of the gate that is read, and the file of the slot that it names
pub record IsSettled (seen : Areas) (may_leave : Areas → Type 0) : Type 0 where
  pub gate : IsDurableAt 2 0 1 seen may_leave
  pub file : (slot : ℕ) → named_by seen.gate ≡ Some slot → HasFile slot seen may_leave

-- one of two files, or none where that is one of the two
abbrev pub IsOneOf : Option (List ℕ) → Option (List ℕ) → Option (List ℕ) → Type 0
IsOneOf first second file = (file ≡ first) ⊎ (file ≡ second)

-- the kept file is one of two
abbrev pub KeepsOneOf : Option (List ℕ) → Option (List ℕ) → Areas → Type 0
KeepsOneOf first second areas = IsOneOf first second (kept areas)

-- in each slot one of two files, and an empty gate only where one of the two is that there is none
pub record HasInSlots (first second : Option (List ℕ)) (seen : Areas) (may_leave : Areas → Type 0) : Type 0 where
  pub slot0 : HasFile 0 seen may_leave
  pub slot1 : HasFile 1 seen may_leave
  pub file0 : IsOneOf first second (Some (file_of seen.slot0))
  pub file1 : IsOneOf first second (Some (file_of seen.slot1))
  pub empty : (c : Areas) → may_leave c → c.gate ≡ [] → IsOneOf first second None

-- One of two files, and neither of them torn, also while the byte of the gate is written as it is read: all is settled, or each slot that a
-- torn gate may name has one of the two.
abbrev pub Holds : Option (List ℕ) → Option (List ℕ) → Areas → (Areas → Type 0) → Type 0
Holds first second seen may_leave = (IsSettled seen may_leave × IsOneOf first second (kept seen)) ⊎ HasInSlots first second seen may_leave

-- all is settled, where the disk tells its content
abbrev pub IsSettledNow : {D : Type 0} → (D → Option Areas) → (D → Areas → Type 0) → D → Type 0
IsSettledNow seen may_leave disk = IfSome (seen disk) (λ s. IsSettled s (may_leave disk))

-- the disk holds one of two files, where it tells its content
abbrev pub HoldsEither : {D : Type 0} → (D → Option Areas) → (D → Areas → Type 0) → Option (List ℕ) → Option (List ℕ) → D → Type 0
HoldsEither seen may_leave first second disk = IfSome (seen disk) (λ s. Holds first second s (may_leave disk))

-- it holds one of some two files, or it retries
abbrev pub IsSound : {D : Type 0} → Type 0 → (D → Option Areas) → (D → Areas → Type 0) → D → Type 0
IsSound retries seen may_leave disk = retries ⊎ ((first second : Option (List ℕ)) × HoldsEither seen may_leave first second disk)

-- after a run of calls the disk holds one of two files, and a crash at any moment of the run leaves one of them
abbrev pub HoldsOn : {D : Type 0} → (D → Option Areas) → (D → Areas → Type 0) → (D → ℕ) → (D → ℕ → Areas → Type 0) → Option (List ℕ) → Option (List ℕ) → D → D → Type 0
HoldsOn seen may_leave moment left_since first second old new = LeavesOnly moment left_since old new (KeepsOneOf first second) × HoldsEither seen may_leave first second new

-- After calls that read, sync and renew: nothing that is read changed. On a disk that retries nothing else has; on another one, what it held it holds.
pub record Looks {D : Type 0} (retries : Type 0) (seen : D → Option Areas) (may_leave : D → Areas → Type 0) (moment : D → ℕ) (left_since : D → ℕ → Areas → Type 0) (old new : D) : Type 0 where
  pub same : seen new ≡ seen old
  pub unchanged : retries → IsUnchanged seen may_leave moment left_since old new
  pub holds : (s : Areas) → seen old ≡ Some s → (first second : Option (List ℕ)) → Holds first second s (may_leave old) → HoldsOn seen may_leave moment left_since first second old new
