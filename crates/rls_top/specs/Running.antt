-- How a command ends, in one relation: of its stages, and of the whole with its status.
-- Why: docs/DECISIONS.md, 165.
use Rattle.std.specs.Prelude.{◌≡◌, ◌≢◌, ◌<◌, ◌≤◌, ◌⊎◌, ℕ, Bool, List, Option, Some, None, IfSome, IsSome, IfOk, IfErr, OnOk, IsTrue, IsFalse, Result, Err}
use Rattle.rls_io.specs.Device.{Appends, Keeps, Rose}
use Rattle.rls_io.specs.Memory.{bytes_of}
use Rattle.rls_report.specs.declared.failures.Failure.{Failure}
use Rattle.rls_report.specs.declared.failures.Failure.TheVariants.{NoCommand, Fault}
use Rattle.rls_report.specs.declared.failures.Fault.TheVariants.{Keeper, Source, Sink}
use Rattle.rls_seen.specs.Seen.{Seen}
use Rattle.rls_stages.specs.declared.errors.OpenError.TheVariants.{KeeperFault}
use Rattle.rls_stages.specs.Endings.{IsFault, IsPart}
use Rattle.rls_stages.specs.KeptFile.{IsUsable, LeavesFile, Stays}
use Rattle.rls_top.specs.declared.made.Made.{Made}
use Rattle.rls_top.specs.declared.stages.DeviceError.{DeviceError}
use Rattle.rls_top.specs.declared.stages.DeviceError.TheVariants as device
use Rattle.rls_top.specs.declared.stages.InputError.{InputError}
use Rattle.rls_top.specs.declared.stages.InputError.TheVariants.{SourceFault}
use Rattle.rls_top.specs.declared.stages.MakeError.{MakeError}
use Rattle.rls_top.specs.declared.stages.MakeError.TheVariants.{Open, Input}
use Rattle.rls_top.specs.declared.words.Command.{Command}
use Rattle.rls_top.specs.declared.words.Command.TheVariants.{OnFile}
use Rattle.rls_top.specs.declared.words.FileCommand.{FileCommand}
use Rattle.rls_top.specs.Calls.{Calls, HasFinished, HasMade, UnlessOpened}
use Rattle.rls_top.specs.Due.{calls_keeper, due, due_at, due_of_command, due_of_words, due_status, may_store, reads_input}
use Rattle.rls_top.specs.Endings.{IsDone, IsKept, IsPartWritten, IsSentBy, IsStored, IsWritten, MayStore, SendsMessage}
use Rattle.rls_top.specs.Stages.{IsDue, IsEarly, IsStatusOf, IsUncalled, Leaves, Reports, of_failure, of_input, of_make}
use Rattle.rls_top.specs.Words.{command_of}

-- Each device is seen as it was before and is after, through what it says of itself: the keeper through its file, its count of failed calls
-- and what its calls make of it, the input through what is left of it, the output through what was written, both through their counts.

-- ---- of a stage

-- What a command makes of the replica that was opened, and of the input, came to this end.
pub record WorkEnds {S : Type 0} (left_of : S → Option (List ℕ)) (input_faults : S → ℕ) (c : FileCommand) (s : Seen) (r : Result Made InputError) (input_old input_new : S) : Type 0 where
  pub due : IfSome (due_at c s (left_of input_old)) (IsDue of_input r)
  pub input : r ≡ Err SourceFault → IsTrue (reads_input (Some (OnFile c))) × Rose (input_faults input_old) (input_faults input_new)
  pub unread : IsFalse (reads_input (Some (OnFile c))) → input_new ≡ input_old
  pub storing : IsTrue (may_store (Some (OnFile c))) → IfOk r (λ made. IsSome made.stored)
  pub unstored : IsFalse (may_store (Some (OnFile c))) → IfOk r (λ made. made.stored ≡ None)
  pub sent : OnOk r (IsSentBy c s)

-- What a command makes before anything is stored or written came to this end.
pub record MakeEnds {K S : Type 0} (file_of : K → Option (Option (List ℕ))) (keeper_faults : K → ℕ) (load : K → Bool → K → Type 0) (left_of : S → Option (List ℕ)) (input_faults : S → ℕ) (c : Command) (r : Result Made MakeError) (keeper_old keeper_new : K) (input_old input_new : S) : Type 0 where
  pub due : IfSome (due_of_command c (file_of keeper_old) (left_of input_old)) (IsDue of_make r)
  -- a device that gives the end has failed, and the keeper only then
  pub keeper : r ≡ Err (Open KeeperFault) → Rose (keeper_faults keeper_old) (keeper_faults keeper_new)
  pub uncounted : r ≢ Err (Open KeeperFault) → keeper_faults keeper_new ≡ keeper_faults keeper_old
  pub input : r ≡ Err (Input SourceFault) → IsTrue (reads_input (Some c)) × IfSome (file_of keeper_old) IsUsable × Rose (input_faults input_old) (input_faults input_new)
  pub never_falls : keeper_faults keeper_old ≤ keeper_faults keeper_new
  pub kept : Keeps (file_of keeper_old) (file_of keeper_new)
  -- there is something to store where the command stores
  pub storing : IsTrue (may_store (Some c)) → IfOk r (λ made. IsSome made.stored)
  pub unstored : IsFalse (may_store (Some c)) → IfOk r (λ made. made.stored ≡ None)
  pub sent : OnOk r (SendsMessage (Some c) (file_of keeper_old))
  -- the keeper is called to load, and the input read after that
  pub calls : IsTrue (calls_keeper (Some c)) → HasMade load r keeper_old keeper_new
  pub uncalled : IsFalse (calls_keeper (Some c)) → IsUncalled r keeper_old keeper_new
  pub unread : IsFalse (reads_input (Some c)) → input_new ≡ input_old
  pub unopened : IfErr r (λ e. UnlessOpened e (input_new ≡ input_old))

-- Storing and writing what was made came to this end.
pub record FinishEnds {K W : Type 0} (file_of : K → Option (Option (List ℕ))) (keeper_faults : K → ℕ) (store : K → List ℕ → Bool → K → Type 0) (told_of : W → Option (List ℕ)) (output_faults : W → ℕ) (made : Made) (r : Result (Unit {0}) DeviceError) (keeper_old keeper_new : K) (output_old output_new : W) : Type 0 where
  -- the report is written, a part of it, or nothing
  pub done : OnOk r (Appends (told_of output_old) (told_of output_new) made.report.items)
  pub partly : r ≡ Err device.SinkFault → IsPart (told_of output_old) (told_of output_new) made.report.items
  pub nothing : IfErr r (λ e. e ≢ device.SinkFault → told_of output_new ≡ told_of output_old)
  -- the file is stored before that; if it couldn't be, it is as it was, where the keeper still tells it
  pub file : OnOk r (LeavesFile (bytes_of made.stored) (file_of keeper_old) (file_of keeper_new))
  pub file_partly : r ≡ Err device.SinkFault → LeavesFile (bytes_of made.stored) (file_of keeper_old) (file_of keeper_new)
  pub stays : IfErr r (λ e. e ≢ device.SinkFault → Keeps (file_of keeper_new) (file_of keeper_old))
  pub unstored : made.stored ≡ None → (keeper_new ≡ keeper_old) × (r ≢ Err device.KeeperFault)
  pub calls : IfSome (bytes_of made.stored) (λ bytes. HasFinished store bytes r keeper_old keeper_new)
  -- a device that gives the end has failed, and the keeper only then
  pub keeper : r ≡ Err device.KeeperFault → Rose (keeper_faults keeper_old) (keeper_faults keeper_new)
  pub uncounted : r ≢ Err device.KeeperFault → keeper_faults keeper_new ≡ keeper_faults keeper_old
  pub never_falls : keeper_faults keeper_old ≤ keeper_faults keeper_new
  pub output : r ≡ Err device.SinkFault → Rose (output_faults output_old) (output_faults output_new)

-- A command, if the words are one, came to this end: all of it but what is written to the errors.
pub record StageEnds {K S W : Type 0} (file_of : K → Option (Option (List ℕ))) (keeper_faults : K → ℕ) (load : K → Bool → K → Type 0) (store : K → List ℕ → Bool → K → Type 0) (left_of : S → Option (List ℕ)) (input_faults : S → ℕ) (told_of : W → Option (List ℕ)) (output_faults : W → ℕ) (c : Option Command) (r : Result Made Failure) (keeper_old keeper_new : K) (input_old input_new : S) (output_old output_new : W) : Type 0 where
  pub due : IfSome (due_of_words c (file_of keeper_old) (left_of input_old)) (IsDue of_failure r)
  pub no_command : r ≡ Err NoCommand → c ≡ None
  -- a device that gives the end has failed, and the keeper only then
  pub keeper : r ≡ Err (Fault Keeper) → Rose (keeper_faults keeper_old) (keeper_faults keeper_new)
  pub uncounted : r ≢ Err (Fault Keeper) → keeper_faults keeper_new ≡ keeper_faults keeper_old
  pub input : r ≡ Err (Fault Source) → IsTrue (reads_input c) × IfSome (file_of keeper_old) IsUsable × Rose (input_faults input_old) (input_faults input_new)
  pub output : r ≡ Err (Fault Sink) → Rose (output_faults output_old) (output_faults output_new)
  -- what is written
  pub reports : IfSome (due_of_words c (file_of keeper_old) (left_of input_old)) (λ d. Reports r d (told_of output_old) (told_of output_new))
  pub nothing : IfErr r (λ f. f ≢ Fault Sink → told_of output_new ≡ told_of output_old)
  pub sent : OnOk r (SendsMessage c (file_of keeper_old))
  -- what is kept
  pub leaves : IfSome (due_of_words c (file_of keeper_old) (left_of input_old)) (λ d. Leaves r d (file_of keeper_old) (file_of keeper_new))
  pub stays : IfErr r (λ f. f ≢ Fault Sink → Stays (file_of keeper_old) (file_of keeper_new))
  pub early : IfErr r (λ f. IsEarly f → Keeps (file_of keeper_old) (file_of keeper_new))
  pub unstored : IsFalse (may_store c) → Keeps (file_of keeper_old) (file_of keeper_new)
  -- which devices are called
  pub uncalled : IsFalse (calls_keeper c) → (keeper_new ≡ keeper_old) × (r ≢ Err (Fault Keeper))
  pub unread : IsFalse (reads_input c) → input_new ≡ input_old
  pub calls : (n : ℕ) → IsStatusOf r n → Calls load store c (due_of_words c (file_of keeper_old) (left_of input_old)) (input_new ≡ input_old) n keeper_old keeper_new

-- ---- of a command

-- A command of these words ended with the status n: what it wrote to the output, what it stored, which calls it made of which devices, and which
-- of them failed. This holds of every file, whether or not a history stands behind it.
pub record CommandEnds {K S W : Type 0} (file_of : K → Option (Option (List ℕ))) (keeper_faults : K → ℕ) (load : K → Bool → K → Type 0) (store : K → List ℕ → Bool → K → Type 0) (left_of : S → Option (List ℕ)) (input_faults : S → ℕ) (told_of : W → Option (List ℕ)) (output_faults : W → ℕ) (words : List (List ℕ)) (n : ℕ) (keeper_old keeper_new : K) (input_old input_new : S) (output_old output_new : W) : Type 0 where
  -- The status is the one that is called for, unless a device failed or memory ran out.
  pub status : IfSome (due words (file_of keeper_old) (left_of input_old)) (λ d. (n ≡ due_status d) ⊎ IsFault n)
  pub no_command : n ≡ 1 → command_of words ≡ None
  pub no_other : n < 12
  -- The device that gives the status has failed, and the keeper only then.
  pub keeper : n ≡ 7 → Rose (keeper_faults keeper_old) (keeper_faults keeper_new)
  pub uncounted : n ≢ 7 → keeper_faults keeper_new ≡ keeper_faults keeper_old
  pub input : n ≡ 8 → IsTrue (reads_input (command_of words)) × IfSome (file_of keeper_old) IsUsable × Rose (input_faults input_old) (input_faults input_new)
  pub output : n ≡ 9 → Rose (output_faults output_old) (output_faults output_new)
  -- What is written: the report once done, a part of it if the output failed, and otherwise nothing.
  pub report : IsDone n → IfSome (due words (file_of keeper_old) (left_of input_old)) (λ d. IsWritten d (told_of output_old) (told_of output_new))
  pub partly : n ≡ 9 → IfSome (due words (file_of keeper_old) (left_of input_old)) (λ d. IsPartWritten d (told_of output_old) (told_of output_new))
  pub nothing : (IsStored n → ⊥) → told_of output_new ≡ told_of output_old
  -- What is sent is a message, whether or not the kept file stands for a history.
  pub sent : IsDone n → SendsMessage (command_of words) (file_of keeper_old)
  -- What is kept: what is called for, or the file as it was.
  pub file : IsStored n → IfSome (due words (file_of keeper_old) (left_of input_old)) (λ d. IsKept d (file_of keeper_old) (file_of keeper_new))
  pub stays : (IsStored n → ⊥) → Stays (file_of keeper_old) (file_of keeper_new)
  pub unstored : (MayStore (command_of words) n → ⊥) → Keeps (file_of keeper_old) (file_of keeper_new)
  -- The keeper is called at most twice: to load, and then to store what is called for.
  pub calls : Calls load store (command_of words) (due words (file_of keeper_old) (left_of input_old)) (input_new ≡ input_old) n keeper_old keeper_new
  -- Devices that a command doesn't call stay as they are.
  pub uncalled : IsFalse (calls_keeper (command_of words)) → (keeper_new ≡ keeper_old) × (n ≢ 7)
  pub unread : IsFalse (reads_input (command_of words)) → input_new ≡ input_old
