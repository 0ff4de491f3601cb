-- The disk that three files of a folder are, in the calls of the system that it makes.
use Rattle.std.specs.Prelude.{◌≡◌, ◌⊎◌, ◌<◌, ◌||◌, length, if◌then◌else◌, ℕ, zero, suc, min, Bool, true, false, List, [], ◌∷◌, ◌++◌, Option, Some, None, Result, Ok, Err}
use Rattle.rls_io.specs.Calls.{Answer, Failed, Done, Missing, Forbidden, Told, Gave, Makes, FailsIn, Runs}
use Rattle.rls_journal.specs.Calls.{DiskCall, Size, Read, Write, Renew, Sync}
use Rattle.rls_journal.specs.declared.calls.Opening.{Opening}
use Rattle.rls_journal.specs.declared.calls.Opening.TheVariants as opening
use Rattle.rls_journal.specs.declared.files.AreaFiles.{AreaFiles}
use Rattle.rls_journal.specs.declared.files.FileDisk.{FileDisk}
use Rattle.rls_journal.specs.declared.files.Presence.{Presence}
use Rattle.rls_journal.specs.declared.files.Presences.{Presences}

-- the failures that it has counted
abbrev pub disk_faults : {C : Type 0} → FileDisk C → ℕ
disk_faults disk = disk.faults

-- its files
abbrev pub files_of : {C : Type 0} → FileDisk C → AreaFiles C
files_of disk = disk.files

-- no file was opened, and the folder wasn't synced
pub record IsFresh {C : Type 0} (calls : C) (files : AreaFiles C) : Type 0 where
  pub calls_are : files.calls ≡ calls
  pub none_found : files.found ≡ None
  pub not_synced : files.is_folder_synced ≡ false

-- a call of the system, on the file of an area or on the folder
pub data FileCall : Type 0 where
  OpenToWrite : ℕ → FileCall
  OpenToRead : ℕ → FileCall
  MakeFile : ℕ → FileCall
  FileSize : ℕ → FileCall
  -- from a place on, so many bytes
  ReadFile : ℕ → ℕ → ℕ → FileCall
  -- from a place on, these bytes
  WriteFile : ℕ → ℕ → List ℕ → FileCall
  SyncFile : ℕ → FileCall
  SyncFolder : FileCall

-- what a call that opens a file answers
abbrev pub presence_of : Bool → Answer
presence_of true = Done
presence_of false = Missing

abbrev pub presence : {E : Type 0} → Result Bool E → Answer
presence (Ok is_there) = presence_of is_there
presence (Err _) = Failed

abbrev pub opening_answer : {E : Type 0} → Result Opening E → Answer
opening_answer (Ok opening.Opened) = Done
opening_answer (Ok opening.Missing) = Missing
opening_answer (Ok opening.Forbidden) = Forbidden
opening_answer (Err _) = Failed

-- what was found of the file of an area
abbrev pub found_at : Presences → ℕ → Presence
found_at found zero = found.slot0
found_at found (suc zero) = found.slot1
found_at found (suc (suc n)) = found.gate

-- one of the files may only be read
abbrev pub is_read_only : Presences → Bool
is_read_only found = (found.slot0).is_read_only || ((found.slot1).is_read_only || (found.gate).is_read_only)

abbrev pub made : Presence
made = record { is_there = true; is_read_only = false }

-- the same with a file that was made
abbrev pub with_made : Presences → ℕ → Presences
with_made found zero = record { slot0 = made; slot1 = found.slot1; gate = found.gate }
with_made found (suc zero) = record { slot0 = found.slot0; slot1 = made; gate = found.gate }
with_made found (suc (suc n)) = record { slot0 = found.slot0; slot1 = found.slot1; gate = made }

-- the calls that open a file, of which this is found: one that may not be written is opened to be read
abbrev pub opening_steps : ℕ → Presence → List (FileCall × Answer)
opening_steps area found = if found.is_read_only then (OpenToWrite area, Forbidden) ∷ (OpenToRead area, presence_of found.is_there) ∷ [] else (OpenToWrite area, presence_of found.is_there) ∷ []

-- those that open all three
abbrev pub all_steps : Presences → List (FileCall × Answer)
all_steps found = opening_steps 0 found.slot0 ++ (opening_steps 1 found.slot1 ++ opening_steps 2 found.gate)

-- the same, unless it was done before
abbrev pub first_steps : Option Presences → Presences → List (FileCall × Answer)
first_steps None found = all_steps found
first_steps (Some _) found = []

-- calls with this outcome were made: those for an answer, or those for some answer up to one that failed
abbrev pub AnswersBy : {C X E : Type 0} → (C → FileCall → Answer → C → Type 0) → (X → List (FileCall × Answer)) → Result X E → C → C → Type 0
AnswersBy gives steps (Ok x) old new = Makes gives (steps x) old new
AnswersBy {C} {X} gives steps (Err _) old new = (x : X) × FailsIn gives (steps x) old new

-- what was found before is found
abbrev pub IsKnown : Option Presences → Presences → Type 0
IsKnown None found = Unit {0}
IsKnown (Some before) found = found ≡ before

-- what is known of the files, after they were opened
abbrev pub known_after : Bool → Option Presences → Presences → Option Presences
known_after true before found = Some found
known_after false before found = before

-- the files were opened, unless they were so
pub record Opens {C : Type 0} (gives : C → FileCall → Answer → C → Type 0) (ok : Bool) (found : Presences) (old new : AreaFiles C) : Type 0 where
  pub known : IsKnown old.found found
  pub calls : Runs gives (first_steps old.found found) ok old.calls new.calls
  pub found_is : new.found ≡ known_after ok old.found found
  pub synced : new.is_folder_synced ≡ old.is_folder_synced

abbrev pub OpensBy : {C E : Type 0} → (C → FileCall → Answer → C → Type 0) → Result Presences E → AreaFiles C → AreaFiles C → Type 0
OpensBy gives (Ok found) old new = Opens gives true found old new
OpensBy gives (Err _) old new = (found : Presences) × Opens gives false found old new

-- ---- a call of the disk

-- a file is made, if it is missing
pub record MakesFile {C : Type 0} (gives : C → FileCall → Answer → C → Type 0) (found : Presences) (area : ℕ) (ok : Bool) (old new : AreaFiles C) : Type 0 where
  pub calls : Runs gives (if (found_at found area).is_there then [] else (MakeFile area, Done) ∷ []) ok old.calls new.calls
  pub found_is : ok ≡ true → new.found ≡ (if (found_at found area).is_there then old.found else Some (with_made found area))
  pub not_found : ok ≡ false → new.found ≡ old.found
  pub synced : new.is_folder_synced ≡ (if (found_at found area).is_there then old.is_folder_synced else false)

-- a file is synced, where it is there
pub record SyncsFile {C : Type 0} (gives : C → FileCall → Answer → C → Type 0) (there ok : Bool) (area : ℕ) (old new : AreaFiles C) : Type 0 where
  pub calls : Runs gives (if there then (SyncFile area, Done) ∷ [] else []) ok old.calls new.calls
  pub same : new.found ≡ old.found
  pub synced : new.is_folder_synced ≡ old.is_folder_synced

-- the folder is synced, unless it was so
pub record SyncsFolder {C : Type 0} (gives : C → FileCall → Answer → C → Type 0) (ok : Bool) (old new : AreaFiles C) : Type 0 where
  pub calls : Runs gives (if old.is_folder_synced then [] else (SyncFolder, Done) ∷ []) ok old.calls new.calls
  pub same : new.found ≡ old.found
  pub synced : ok ≡ true → new.is_folder_synced ≡ true
  pub not_synced : ok ≡ false → new.is_folder_synced ≡ old.is_folder_synced

-- a write, where the file is there or is made
abbrev pub write_steps : Bool → ℕ → ℕ → List ℕ → List (FileCall × Answer)
write_steps true area at bytes = (WriteFile area at bytes, Done) ∷ []
write_steps false area at bytes = (MakeFile area, Done) ∷ (WriteFile area at bytes, Done) ∷ []

-- a sync of a file that is there, and of the folder, unless this was done since a file was made
abbrev pub sync_steps : Bool → Bool → ℕ → List (FileCall × Answer)
sync_steps there synced area = (if there then (SyncFile area, Done) ∷ [] else []) ++ (if synced then [] else (SyncFolder, Done) ∷ [])

-- The calls of the system that a call of the disk makes once the files are open. The system tells this size, or gives these bytes.
abbrev pub call_steps : Presences → Bool → DiskCall → ℕ → List ℕ → List (FileCall × Answer)
call_steps found synced (Size area) size bytes = if (found_at found area).is_there then (FileSize area, Told size) ∷ [] else []
call_steps found synced (Read area at count) size bytes = if (found_at found area).is_there then (ReadFile area at count, Gave bytes) ∷ [] else []
call_steps found synced (Write area at []) size bytes = []
call_steps found synced (Write area at (b ∷ bs)) size bytes = write_steps (found_at found area).is_there area at (b ∷ bs)
call_steps found synced Renew size bytes = if is_read_only found then [] else write_steps (found.gate).is_there 2 1 (0 ∷ [])
call_steps found synced (Sync area) size bytes = sync_steps (found_at found area).is_there synced area

-- what it answers then
abbrev pub size_of : ℕ → ℕ → ℕ
size_of zero size = size
size_of (suc zero) size = size
size_of (suc (suc n)) size = min size 1

abbrev pub call_answer : Presences → DiskCall → ℕ → List ℕ → Answer
call_answer found (Size area) size bytes = Told (if (found_at found area).is_there then size_of area size else 0)
call_answer found (Read area at count) size bytes = Gave (if (found_at found area).is_there then bytes else [])
call_answer found (Write area at written) size bytes = Done
call_answer found Renew size bytes = Done
call_answer found (Sync area) size bytes = Done

-- it fails without a call of its own: there is no file to be read, or one that may only be read
abbrev pub IsRefused : Presences → DiskCall → Type 0
IsRefused found (Read area at count) = ((found_at found area).is_there ≡ false) × (0 < count)
IsRefused found (Write area at bytes) = (is_read_only found ≡ true) × (0 < length bytes)
IsRefused found _ = ⊥

-- what is known of the files then
abbrev pub found_after : Presences → DiskCall → Presences
found_after found (Write area at (b ∷ bs)) = if (found_at found area).is_there then found else with_made found area
found_after found Renew = if is_read_only found then found else (if (found.gate).is_there then found else with_made found 2)
found_after found _ = found

-- the folder was synced since a file was made
abbrev pub synced_after : Presences → Bool → DiskCall → Bool
synced_after found synced (Write area at (b ∷ bs)) = if (found_at found area).is_there then synced else false
synced_after found synced Renew = if is_read_only found then synced else (if (found.gate).is_there then synced else false)
synced_after found synced (Sync area) = true
synced_after found synced _ = synced

-- The calls of a call of the disk: all of them, or a part from the front and one that failed, or none but those that open the files.
abbrev pub DoesBy : {C : Type 0} → (C → FileCall → Answer → C → Type 0) → List (FileCall × Answer) → Presences → Bool → DiskCall → ℕ → List ℕ → Answer → C → C → Type 0
DoesBy gives front found synced call size bytes Failed old new = FailsIn gives (front ++ call_steps found synced call size bytes) old new ⊎ (IsRefused found call × Makes gives front old new)
DoesBy gives front found synced call size bytes answer old new = (answer ≡ call_answer found call size bytes) × Makes gives (front ++ call_steps found synced call size bytes) old new

-- what is known afterwards. After a failure no more of the folder than before
abbrev pub IsLeft : {C : Type 0} → Presences → DiskCall → Answer → AreaFiles C → AreaFiles C → Type 0
IsLeft found call Failed old new = (new.is_folder_synced ≡ true → old.is_folder_synced ≡ true) × ((new.found ≡ old.found) ⊎ ((new.found ≡ Some found) ⊎ (new.found ≡ Some (found_after found call))))
IsLeft found call answer old new = (new.found ≡ Some (found_after found call)) × (new.is_folder_synced ≡ synced_after found old.is_folder_synced call)

-- a call of the disk with this answer, where this is found of the files, and the system tells this size, or gives these bytes
pub record Did {C : Type 0} (gives : C → FileCall → Answer → C → Type 0) (call : DiskCall) (answer : Answer) (old new : AreaFiles C) : Type 0 where
  pub found : Presences
  pub size : ℕ
  pub bytes : List ℕ
  pub known : IsKnown old.found found
  pub does : DoesBy gives (first_steps old.found found) found old.is_folder_synced call size bytes answer old.calls new.calls
  pub left : IsLeft found call answer old new

-- a call of the disk
abbrev pub FileGives : {C : Type 0} → (C → FileCall → Answer → C → Type 0) → FileDisk C → DiskCall → Answer → FileDisk C → Type 0
FileGives gives old call answer new = Did gives call answer (files_of old) (files_of new)

-- the same answer, where it is told whether a call failed, but not why
abbrev pub IsSame : {X E F : Type 0} → Result X E → Result X F → Type 0
IsSame (Ok x) (Ok y) = y ≡ x
IsSame (Err _) (Err _) = Unit {0}
IsSame _ _ = ⊥
