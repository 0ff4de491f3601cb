-- What a command does with its devices, in the words with which these say what a call makes of them: of every device, also of one that tells
-- nothing of what it holds. So it is said which file a load found and which bytes the reads gave, and that what was stored and written is
-- what these call for.
-- Why: docs/DECISIONS.md, 250.
use Rattle.std.specs.Prelude.{◌≡◌, ◌<◌, ◌≤◌, ◌⊎◌, ℕ, Bool, true, false, List, length, take, Option, Some, None, option_map, Result, Ok, Err}
use Rattle.rls_ident.specs.declared.limits.TheConstants.{FILE_BYTES, INPUT_BYTES}
use Rattle.rls_io.specs.declared.devices.Found.{Found}
use Rattle.rls_io.specs.declared.devices.LoadError.{LoadError}
use Rattle.rls_io.specs.declared.devices.LoadError.TheVariants.{Failed}
use Rattle.rls_io.specs.declared.devices.LoadError.TheVariants as load_error
use Rattle.rls_io.specs.Device.{HasFound, Passes, PassesAll, PassesAndFails}
use Rattle.rls_model.specs.Answers.{Reason}
use Rattle.rls_report.specs.declared.failures.Failure.{Failure}
use Rattle.rls_report.specs.declared.failures.Failure.TheVariants as failures
use Rattle.rls_report.specs.declared.failures.Fault.TheVariants.{Keeper, Source, Sink, Memory}
use Rattle.rls_seen.specs.Seen.{Seen}
use Rattle.rls_stages.specs.declared.errors.WorkError.TheVariants as work
use Rattle.rls_stages.specs.Calls.{IsKeepersStatus}
use Rattle.rls_stages.specs.KeptFile.{IsUsable, bytes_over}
use Rattle.rls_top.specs.declared.made.Made.{Made}
use Rattle.rls_top.specs.declared.stages.DeviceError.{DeviceError}
use Rattle.rls_top.specs.declared.stages.DeviceError.TheVariants as device
use Rattle.rls_top.specs.declared.stages.InputError.{InputError}
use Rattle.rls_top.specs.declared.stages.InputError.TheVariants as input
use Rattle.rls_top.specs.declared.stages.MakeError.{MakeError}
use Rattle.rls_top.specs.Due.{Due, Makes, Stops, due_status, made_status}
use Rattle.rls_top.specs.Due as due
use Rattle.rls_top.specs.Stages.{IsAsDue, of_make}

-- ---- what is called for

-- The kept file that decides is the one that the load found. Without one the keeper wasn't called.
abbrev pub HasFoundFile : {K : Type 0} → (K → Result Found LoadError → K → Type 0) → Option (Option (List ℕ)) → K → K → Type 0
HasFoundFile load None old new = new ≡ old
HasFoundFile load (Some kept) old new = HasFound load FILE_BYTES kept old new

-- The input that decides is what the reads gave up to its end, or so far if that is too much already. Without one it wasn't read.
abbrev pub HasReadInput : {S : Type 0} → (S → Option (List ℕ) → S → Type 0) → Option (List ℕ) → S → S → Type 0
HasReadInput read None old new = new ≡ old
HasReadInput read (Some bytes) old new = PassesAll read bytes old new ⊎ ((INPUT_BYTES < length bytes) × Passes read bytes old new)

-- This is called for by the file that was found and the input that was read.
pub record CallsFor {K S : Type 0} (load : K → Result Found LoadError → K → Type 0) (read : S → Option (List ℕ) → S → Type 0) (due : Option (Option (List ℕ)) → Option (List ℕ) → Option Due) (d : Due) (keeper_old keeper_new : K) (input_old input_new : S) : Type 0 where
  pub file : Option (Option (List ℕ))
  pub found : HasFoundFile load file keeper_old keeper_new
  pub left : Option (List ℕ)
  pub came : HasReadInput read left input_old input_new
  pub is_due : due file left ≡ Some d

-- ---- an end before anything is stored or written

-- reads gave some bytes, perhaps all
abbrev pub HasReadSome : {S : Type 0} → (S → Option (List ℕ) → S → Type 0) → S → S → Type 0
HasReadSome read old new = (bytes : List ℕ) × (Passes read bytes old new ⊎ PassesAll read bytes old new)

-- reads gave some bytes, which aren't too many, and then a read failed
abbrev pub HasFailedToRead : {S : Type 0} → (S → Option (List ℕ) → S → Type 0) → S → S → Type 0
HasFailedToRead read old new = (bytes : List ℕ) × (length bytes ≤ INPUT_BYTES) × PassesAndFails read bytes old new

-- the whole input was read, and this holds of it; or a read failed, or memory ran out
abbrev pub ReadsUnlessFailed : {S X : Type 0} → (S → Option (List ℕ) → S → Type 0) → (List ℕ → Type 0) → Result X InputError → S → S → Type 0
ReadsUnlessFailed read Holds (Ok x) old new = (bytes : List ℕ) × HasReadInput read (Some bytes) old new × Holds bytes
ReadsUnlessFailed read Holds (Err (input.Work (work.Command e))) old new = (bytes : List ℕ) × HasReadInput read (Some bytes) old new × Holds bytes
ReadsUnlessFailed read Holds (Err (input.Work work.OutOfMemory)) old new = HasReadSome read old new
ReadsUnlessFailed read Holds (Err input.SourceFault) old new = HasFailedToRead read old new

-- Memory ran out, before a device was called, in the load, or after a load that answered Ok and perhaps some reads.
pub data HasRunOut {K S : Type 0} (load : K → Result Found LoadError → K → Type 0) (read : S → Option (List ℕ) → S → Type 0) (keeper_old keeper_new : K) (input_old input_new : S) : Type 0 where
  BeforeLoad : keeper_new ≡ keeper_old → input_new ≡ input_old → HasRunOut load read keeper_old keeper_new input_old input_new
  InLoad : load keeper_old (Err load_error.OutOfMemory) keeper_new → input_new ≡ input_old → HasRunOut load read keeper_old keeper_new input_old input_new
  AfterLoad : (kept : Option (List ℕ)) → HasFound load FILE_BYTES kept keeper_old keeper_new → HasReadSome read input_old input_new → HasRunOut load read keeper_old keeper_new input_old input_new

-- the calls with which a command ends by this failure, before anything is stored
abbrev pub HasStopped : {K S : Type 0} → (K → Result Found LoadError → K → Type 0) → (S → Option (List ℕ) → S → Type 0) → (Option (Option (List ℕ)) → Option (List ℕ) → Option Due) → Failure → K → K → S → S → Type 0
HasStopped load read due_of failures.NoCommand k l i j = CallsFor load read due_of due.NoCommand k l i j
HasStopped load read due_of (failures.Command e) k l i j = CallsFor load read due_of (Stops e) k l i j
HasStopped load read due_of (failures.Fault Keeper) k l i j = load k (Err Failed) l × (j ≡ i)
HasStopped load read due_of (failures.Fault Source) k l i j = (kept : Option (List ℕ)) × HasFound load FILE_BYTES kept k l × IsUsable kept × HasFailedToRead read i j
HasStopped load read due_of (failures.Fault Sink) k l i j = ⊥
HasStopped load read due_of (failures.Fault Memory) k l i j = HasRunOut load read k l i j

-- the calls with which a command has made this, or has ended
abbrev pub HasCome : {K S : Type 0} → (K → Result Found LoadError → K → Type 0) → (S → Option (List ℕ) → S → Type 0) → (Option (Option (List ℕ)) → Option (List ℕ) → Option Due) → Result Made MakeError → K → K → S → S → Type 0
HasCome load read due (Ok made) k l i j = (d : Due) × CallsFor load read due d k l i j × IsAsDue made d
HasCome load read due (Err e) k l i j = HasStopped load read due (of_make e) k l i j

-- ---- storing and writing

-- these bytes were given to a store, which answered Ok or didn't; without any the keeper wasn't called
abbrev pub HasStored : {K : Type 0} → (K → List ℕ → Bool → K → Type 0) → Option (List ℕ) → Bool → K → K → Type 0
HasStored store None true old new = new ≡ old
HasStored store None false old new = ⊥
HasStored store (Some bytes) ok old new = store old bytes ok new

-- what was to be stored was, if storing and writing it ended so
abbrev pub has_stored : Result (Unit {0}) DeviceError → Bool
has_stored (Ok done) = true
has_stored (Err device.KeeperFault) = false
has_stored (Err device.SinkFault) = true
has_stored (Err device.OutOfMemory) = false

-- writes took these bytes but for some at the end, and then a write failed
abbrev pub HasFailedToWrite : {W : Type 0} → (W → Option (List ℕ) → W → Type 0) → List ℕ → W → W → Type 0
HasFailedToWrite write bytes old new = (n : ℕ) × (n < length bytes) × PassesAndFails write (take n bytes) old new

-- the writes of a report, if storing and writing it ended so
abbrev pub HasWritten : {W : Type 0} → (W → Option (List ℕ) → W → Type 0) → List ℕ → Result (Unit {0}) DeviceError → W → W → Type 0
HasWritten write report (Ok done) old new = Passes write report old new
HasWritten write report (Err device.KeeperFault) old new = new ≡ old
HasWritten write report (Err device.SinkFault) old new = HasFailedToWrite write report old new
HasWritten write report (Err device.OutOfMemory) old new = new ≡ old

-- What is called for was made, and the file of it that is to be stored, if there is one, was given to a store.
pub record HasMadeAndStored {K S : Type 0} (load : K → Result Found LoadError → K → Type 0) (store : K → List ℕ → Bool → K → Type 0) (read : S → Option (List ℕ) → S → Type 0) (due : Option (Option (List ℕ)) → Option (List ℕ) → Option Due) (ok : Bool) (keeper_old keeper_new : K) (input_old input_new : S) : Type 0 where
  pub stored : Option Seen
  pub report : List ℕ
  pub refused : List (ℕ × ℕ × Reason)
  pub between : K
  pub calls_for : CallsFor load read due (Makes stored report refused) keeper_old between input_old input_new
  pub stores : HasStored store (option_map bytes_over stored) ok between keeper_new

-- ---- of a command

-- nothing is made
abbrev pub IsRefusal : Due → Type 0
IsRefusal due.NoCommand = Unit {0}
IsRefusal (Makes stored report refused) = ⊥
IsRefusal (Stops e) = Unit {0}

-- All calls of the keeper, the input and the output that a command made, with what they answered, and its status n. What it calls for is
-- `due` of the kept file and the input.
pub data Performs {K S W : Type 0} (load : K → Result Found LoadError → K → Type 0) (store : K → List ℕ → Bool → K → Type 0) (read : S → Option (List ℕ) → S → Type 0) (write : W → Option (List ℕ) → W → Type 0) (due : Option (Option (List ℕ)) → Option (List ℕ) → Option Due) (n : ℕ) (keeper_old keeper_new : K) (input_old input_new : S) (output_old output_new : W) : Type 0 where
  -- the load failed
  FailsToLoad : load keeper_old (Err Failed) keeper_new → n ≡ 7 → input_new ≡ input_old → output_new ≡ output_old → Performs load store read write due n keeper_old keeper_new input_old input_new output_old output_new
  -- a file was found that says a replica, and then a read failed
  FailsToRead : (kept : Option (List ℕ)) → HasFound load FILE_BYTES kept keeper_old keeper_new → IsUsable kept → HasFailedToRead read input_old input_new → n ≡ 8 → output_new ≡ output_old → Performs load store read write due n keeper_old keeper_new input_old input_new output_old output_new
  -- memory ran out before anything was stored or written
  RunsOut : HasRunOut load read keeper_old keeper_new input_old input_new → n ≡ 10 → output_new ≡ output_old → Performs load store read write due n keeper_old keeper_new input_old input_new output_old output_new
  -- what is called for is no more than an error; its line may find no memory
  Refuses : (d : Due) → CallsFor load read due d keeper_old keeper_new input_old input_new → IsRefusal d → (n ≡ due_status d) ⊎ (n ≡ 10) → output_new ≡ output_old → Performs load store read write due n keeper_old keeper_new input_old input_new output_old output_new
  -- the store failed, or memory ran out in it
  FailsToStore : HasMadeAndStored load store read due false keeper_old keeper_new input_old input_new → IsKeepersStatus n → output_new ≡ output_old → Performs load store read write due n keeper_old keeper_new input_old input_new output_old output_new
  -- what is to be stored was stored, and then a write failed
  FailsToWrite : (made : HasMadeAndStored load store read due true keeper_old keeper_new input_old input_new) → HasFailedToWrite write made.report output_old output_new → n ≡ 9 → Performs load store read write due n keeper_old keeper_new input_old input_new output_old output_new
  -- all of it was done
  Finishes : (made : HasMadeAndStored load store read due true keeper_old keeper_new input_old input_new) → Passes write made.report output_old output_new → n ≡ made_status made.refused → Performs load store read write due n keeper_old keeper_new input_old input_new output_old output_new
