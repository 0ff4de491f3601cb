-- The keeper of one file of a folder, and the calls of the system that it makes.
use Rattle.std.specs.Prelude.{◌≤◌, ◌<◌, ℕ, Bool, List, [], ◌∷◌, length, Vec, Result, Ok, Err}
use Rattle.std.specs.declared.alloc.Global.{Global}
use Rattle.rls_io.specs.Calls.{Answer, Failed, Done, Missing as NotThere, Gave, Makes, FailsIn, Runs}
use Rattle.rls_io.specs.declared.devices.Found.{Found}
use Rattle.rls_io.specs.declared.devices.Found.TheVariants.{Missing, Bytes, Longer}
use Rattle.rls_io.specs.declared.devices.LoadError.{LoadError}
use Rattle.rls_io.specs.declared.folder.FileKeeper.{FileKeeper}

-- the failures that it has counted
abbrev pub keeper_faults : {C : Type 0} → FileKeeper C → ℕ
keeper_faults keeper = keeper.faults

-- that through which it calls the system
abbrev pub calls_of : {C : Type 0} → FileKeeper C → C
calls_of keeper = keeper.calls

-- a call of the system
pub data FileCall : Type 0 where
  -- the names of the folder are written to the disk
  SyncFolder : FileCall
  -- replica.rls is opened
  OpenFile : FileCall
  -- of it so many bytes are read, or those that there are
  ReadFile : ℕ → FileCall
  -- replica.rls.new is made, or emptied
  MakeFresh : FileCall
  -- these bytes are written to it
  WriteFresh : List ℕ → FileCall
  -- it is written to the disk
  SyncFresh : FileCall
  -- it is put in the place of replica.rls
  Rename : FileCall

-- that of a read of these bytes
abbrev pub read_answer : {E : Type 0} → Result (Vec ℕ Global) E → Answer
read_answer (Ok v) = Gave v.items
read_answer (Err _) = Failed

-- the file is written beside the old one, and is on the disk
abbrev pub fresh_steps : List ℕ → List (FileCall × Answer)
fresh_steps bytes = (MakeFresh, Done) ∷ (WriteFresh bytes, Done) ∷ (SyncFresh, Done) ∷ []

-- a store of these bytes
abbrev pub store_steps : List ℕ → List (FileCall × Answer)
store_steps bytes = (MakeFresh, Done) ∷ (WriteFresh bytes, Done) ∷ (SyncFresh, Done) ∷ (Rename, Done) ∷ (SyncFolder, Done) ∷ []

-- a load of a file that is there, of which so many bytes are asked for, and these are read
abbrev pub load_steps : ℕ → List ℕ → List (FileCall × Answer)
load_steps most bytes = (SyncFolder, Done) ∷ (OpenFile, Done) ∷ (ReadFile most, Gave bytes) ∷ []

-- The calls of a load that found this: fewer bytes than were asked for are the whole file.
abbrev pub FindsBy : {C : Type 0} → (C → FileCall → Answer → C → Type 0) → Found → C → C → Type 0
FindsBy gives Missing old new = Makes gives ((SyncFolder, Done) ∷ (OpenFile, NotThere) ∷ []) old new
FindsBy gives (Bytes v) old new = (most : ℕ) × (length v.items < most) × Makes gives (load_steps most v.items) old new
FindsBy gives Longer old new = (most : ℕ) × (bytes : List ℕ) × (most ≤ length bytes) × Makes gives (load_steps most bytes) old new

-- the calls of a load with this answer
abbrev pub LoadsBy : {C E : Type 0} → (C → FileCall → Answer → C → Type 0) → Result Found E → C → C → Type 0
LoadsBy gives (Ok found) old new = FindsBy gives found old new
LoadsBy gives (Err _) old new = (most : ℕ) × FailsIn gives (load_steps most []) old new

-- a load, and a store
abbrev pub LoadGives : {C : Type 0} → (C → FileCall → Answer → C → Type 0) → FileKeeper C → Result Found LoadError → FileKeeper C → Type 0
LoadGives gives old answer new = LoadsBy gives answer (calls_of old) (calls_of new)

abbrev pub StoreGives : {C : Type 0} → (C → FileCall → Answer → C → Type 0) → FileKeeper C → List ℕ → Bool → FileKeeper C → Type 0
StoreGives gives old bytes ok new = Runs gives (store_steps bytes) ok (calls_of old) (calls_of new)
