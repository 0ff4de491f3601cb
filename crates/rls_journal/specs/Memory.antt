-- What a disk in memory is seen as, and what a crash may leave of it.
use Rattle.std.specs.Prelude.{◌≡◌, ◌⊎◌, ℕ, ◌+◌, ◌<◌, ◌≤◌, Bool, true, false, List, [], ◌∷◌, ◌++◌, length, take, replicate, nat_le, nat_lt, ◌==◌, if◌then◌else◌}
use Rattle.std.specs.Bool.{MatchBool}
use Rattle.std.specs.List.{Contains}
use Rattle.rls_io.specs.Device.{one_more}
use Rattle.rls_journal.specs.Areas.{Areas, spliced}
use Rattle.rls_journal.specs.Disk.{Torn, Narrows, Elapses}

-- what a call did
pub data DeviceCall : Type 0 where
  -- nothing was changed
  Looked : DeviceCall
  -- in an area, from a place on, these bytes were written
  Wrote : ℕ → ℕ → List ℕ → DeviceCall
  -- an area was synced
  Synced : ℕ → DeviceCall

pub record DiskState : Type 0 where
  -- what stood there at first, with nothing pending
  pub first : Areas
  -- the calls since, in order
  pub calls : List DeviceCall
  -- how many calls are recorded, at most
  pub most : ℕ
  -- how many bytes are written, at most
  pub room : ℕ
  -- the numbers of the calls that fail
  pub failing : List ℕ
  pub faults : ℕ

-- bytes at a place within those that are there
abbrev pub written_at : List ℕ → ℕ → List ℕ → List ℕ
written_at old at bytes = if nat_le at (length old) then spliced old at bytes else old

-- what is read of an area after one more call
abbrev pub seen_step : ℕ → DeviceCall → List ℕ → List ℕ
seen_step area Looked seen = seen
seen_step area (Wrote written at bytes) seen = if written == area then written_at seen at bytes else seen
seen_step area (Synced synced) seen = seen

-- what a crash may leave of an area after one more call: a write may be torn, and after a sync it is what is read
abbrev pub LeavesStep : ℕ → DeviceCall → List ℕ → (List ℕ → Type 0) → List ℕ → Type 0
LeavesStep area Looked seen left c = left c
LeavesStep area (Wrote written at bytes) seen left c = MatchBool (written == area) ((d : List ℕ) × left d × Torn at (length bytes) d c) (left c)
LeavesStep area (Synced synced) seen left c = left c × MatchBool (synced == area) (c ≡ seen) (Unit {0})

-- an area of which each pending byte is the filler, and the size the greatest, after one more call
abbrev pub image_step : ℕ → ℕ → DeviceCall → List ℕ → List ℕ → List ℕ
image_step filler area Looked seen image = image
image_step filler area (Wrote written at bytes) seen image = if written == area then written_at image at (replicate (length bytes) filler) else image
image_step filler area (Synced synced) seen image = if synced == area then seen else image

abbrev pub area_after : ℕ → List ℕ → List DeviceCall → List ℕ
area_after area seen [] = seen
area_after area seen (call ∷ calls) = area_after area (seen_step area call seen) calls

abbrev pub LeavesArea : ℕ → List ℕ → (List ℕ → Type 0) → List DeviceCall → List ℕ → Type 0
LeavesArea area seen left [] c = left c
LeavesArea area seen left (call ∷ calls) c = LeavesArea area (seen_step area call seen) (LeavesStep area call seen left) calls c

abbrev pub image_after : ℕ → ℕ → List ℕ → List ℕ → List DeviceCall → List ℕ
image_after filler area seen image [] = image
image_after filler area seen image (call ∷ calls) = image_after filler area (seen_step area call seen) (image_step filler area call seen image) calls

-- what is read behind these calls
abbrev pub areas_after : Areas → List DeviceCall → Areas
areas_after first calls = record { slot0 = area_after 0 first.slot0 calls; slot1 = area_after 1 first.slot1 calls; gate = area_after 2 first.gate calls }

-- what a crash behind these calls may leave, where nothing was pending at first
pub record MayLeave (first : Areas) (calls : List DeviceCall) (c : Areas) : Type 0 where
  pub slot0 : LeavesArea 0 first.slot0 (λ e. e ≡ first.slot0) calls c.slot0
  pub slot1 : LeavesArea 1 first.slot1 (λ e. e ≡ first.slot1) calls c.slot1
  pub gate : LeavesArea 2 first.gate (λ e. e ≡ first.gate) calls c.gate

-- what a crash behind t calls or more might have left
abbrev pub MightHaveLeft : Areas → List DeviceCall → ℕ → Areas → Type 0
MightHaveLeft first calls t c = (k : ℕ) × (t ≤ k) × (k ≤ length calls) × MayLeave first (take k calls) c

-- the image behind these calls in which each pending byte is the filler, and each size the greatest
abbrev pub filled_after : ℕ → Areas → List DeviceCall → Areas
filled_after filler first calls = record { slot0 = image_after filler 0 first.slot0 first.slot0 calls; slot1 = image_after filler 1 first.slot1 first.slot1 calls; gate = image_after filler 2 first.gate first.gate calls }

-- how many bytes were written
abbrev pub bytes_written : List DeviceCall → ℕ
bytes_written [] = 0
bytes_written (Looked ∷ calls) = bytes_written calls
bytes_written (Wrote area at bytes ∷ calls) = length bytes + bytes_written calls
bytes_written (Synced area ∷ calls) = bytes_written calls

abbrev pub reading : DiskState → Areas
reading s = areas_after s.first s.calls

abbrev pub can_leave : DiskState → Areas → Type 0
can_leave s = MayLeave s.first s.calls

abbrev pub might_have_left : DiskState → ℕ → Areas → Type 0
might_have_left s = MightHaveLeft s.first s.calls

-- nothing that is read changes, and no outcome of a crash is new
pub record IsQuiet (old new : DiskState) : Type 0 where
  pub same : reading new ≡ reading old
  pub narrows : Narrows (can_leave old) (can_leave new)
  pub goes : Elapses (length old.calls) (length new.calls) (might_have_left old) (might_have_left new) (can_leave new)

-- a call with so many bytes fails
abbrev pub Refuses : DiskState → ℕ → Type 0
Refuses s count = Contains s.failing (length s.calls) ⊎ (length s.calls ≡ s.most) ⊎ (s.room < bytes_written s.calls + count)

-- after a call
abbrev pub done : DiskState → DeviceCall → DiskState
done s call = record s { calls = s.calls ++ call ∷ [] }

-- with one more call that changed nothing, where there is a record left
abbrev pub recorded : DiskState → DiskState
recorded s = record s { calls = if nat_lt (length s.calls) s.most then s.calls ++ Looked ∷ [] else s.calls }

-- after a call that failed
abbrev pub refused : DiskState → DiskState
refused s = record (recorded s) { faults = one_more s.faults }

-- what a call makes of the disk, if it answers Ok or if it doesn't
abbrev pub Gives : DiskState → DeviceCall → Bool → DiskState → Type 0
Gives old call true new = (Refuses old (bytes_written (call ∷ [])) → ⊥) × (new ≡ done old call)
Gives old call false new = Refuses old (bytes_written (call ∷ [])) × (new ≡ refused old)
