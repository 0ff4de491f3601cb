-- What each stage of a command gives, against what is called for.
use Rattle.std.specs.Prelude.{◌≡◌, ◌≢◌, ◌==◌, ℕ, List, length, Option, None, IfOk, IfSome, option_map, string_bytes, Result, Ok, Err, if◌then◌else◌}
use Rattle.rls_io.specs.Memory.{bytes_of}
use Rattle.rls_model.specs.declared.receipt.Taken.{Taken}
use Rattle.rls_model.specs.Answers.{Reason}
use Rattle.rls_model.specs.Machine.{Run, Done}
use Rattle.rls_report.specs.declared.failures.CommandError.TheVariants as errors
use Rattle.rls_report.specs.declared.failures.Fault.TheVariants.{Keeper, Source, Sink, Memory}
use Rattle.rls_report.specs.declared.failures.Failure.{Failure}
use Rattle.rls_report.specs.declared.failures.Failure.TheVariants.{NoCommand, Command, Fault}
use Rattle.rls_report.specs.declared.failures.LineFault.{LineFault}
use Rattle.rls_replica.specs.Steps.{course}
use Rattle.rls_seen.specs.Seen.{Seen}
use Rattle.rls_stages.specs.declared.errors.LineError.{LineError}
use Rattle.rls_stages.specs.declared.errors.LineError.TheVariants as lines
use Rattle.rls_stages.specs.declared.errors.OpenError.TheVariants.{KeeperFault}
use Rattle.rls_stages.specs.declared.errors.WorkError.{WorkError}
use Rattle.rls_stages.specs.declared.errors.WorkError.TheVariants as work
use Rattle.rls_stages.specs.Endings.{IsFailureStatus, failure_line_at}
use Rattle.rls_stages.specs.Errors.{of_open, of_work}
use Rattle.rls_stages.specs.KeptFile.{IsReadBack, bytes_over}
use Rattle.rls_top.specs.declared.made.Made.{Made}
use Rattle.rls_top.specs.declared.stages.InputError.{InputError}
use Rattle.rls_top.specs.declared.stages.InputError.TheVariants as input
use Rattle.rls_top.specs.declared.stages.MakeError.{MakeError}
use Rattle.rls_top.specs.declared.stages.MakeError.TheVariants as make
use Rattle.rls_top.specs.declared.stages.DeviceError.{DeviceError}
use Rattle.rls_top.specs.declared.stages.DeviceError.TheVariants as device
use Rattle.rls_top.specs.Due.{Due, Makes, Stops, refused_lines}
use Rattle.rls_top.specs.Due as due
use Rattle.rls_top.specs.Endings.{IsWritten, IsPartWritten, IsKept}

-- ---- each stage's error as a failure

abbrev pub of_input : InputError → Failure
of_input (input.Work e) = of_work e
of_input input.SourceFault = Fault Source

abbrev pub of_make : MakeError → Failure
of_make (make.Open e) = of_open e
of_make (make.Input e) = of_input e

abbrev pub of_failure : Failure → Failure
of_failure f = f

abbrev pub of_device : DeviceError → Failure
of_device device.KeeperFault = Fault Keeper
of_device device.SinkFault = Fault Sink
of_device device.OutOfMemory = Fault Memory

-- ---- what was made

-- this is what was made
pub record IsMade (made : Made) (stored : Option Seen) (report : List ℕ) (refused : List (ℕ × ℕ × Reason)) : Type 0 where
  pub stored_is : bytes_of made.stored ≡ option_map bytes_over stored
  pub read_back : IfSome stored IsReadBack
  pub report_is : made.report.items ≡ report
  pub lines_are : string_bytes made.lines ≡ refused_lines refused
  pub count_is : made.refused ≡ length refused

-- what is called for was made
abbrev pub IsAsDue : Made → Due → Type 0
IsAsDue made due.NoCommand = ⊥
IsAsDue made (Makes stored report refused) = IsMade made stored report refused
IsAsDue made (Stops e) = ⊥

-- this end is called for, or a device failed, or memory ran out
abbrev pub EndsAs : Failure → Due → Type 0
EndsAs NoCommand d = d ≡ due.NoCommand
EndsAs (Command e) d = d ≡ Stops e
EndsAs (Fault f) d = Unit {0}

-- what is called for was made, or the stage ended so; each error of the stage is a failure
abbrev pub IsDue : {E : Type 0} → (E → Failure) → Result Made E → Due → Type 0
IsDue failure (Ok made) d = IsAsDue made d
IsDue failure (Err e) d = EndsAs (failure e) d

-- the keeper wasn't called, and won't be
abbrev pub IsUncalled : {K : Type 0} → Result Made MakeError → K → K → Type 0
IsUncalled r old new = (new ≡ old) × (r ≢ Err (make.Open KeeperFault)) × IfOk r (λ made. made.stored ≡ None)

-- ---- lines of edits

-- why the line of this number isn't performed
abbrev pub at_line : ℕ → LineError → WorkError
at_line n (lines.Refused fault) = work.Command (errors.Edit n fault)
at_line n lines.OutOfMemory = work.OutOfMemory

-- the run came to this replica, and this was counted
abbrev pub IsRun : Taken → Seen → Run Seen LineFault → Type 0
IsRun taken new run = run ≡ Done (course new taken)

-- ---- storing, writing and telling

-- the report that is called for was written, or a part of it if the output failed
abbrev pub Reports : Result Made Failure → Due → Option (List ℕ) → Option (List ℕ) → Type 0
Reports (Ok made) d old new = IsWritten d old new
Reports (Err (Fault Sink)) d old new = IsPartWritten d old new
Reports (Err f) d old new = new ≡ old

-- the file that is called for is kept, also if the output failed
abbrev pub Leaves : Result Made Failure → Due → Option (Option (List ℕ)) → Option (Option (List ℕ)) → Type 0
Leaves (Ok made) d old new = IsKept d old new
Leaves (Err (Fault Sink)) d old new = IsKept d old new
Leaves (Err f) d old new = Unit {0}

-- the command ended before anything was stored
abbrev pub IsEarly : Failure → Type 0
IsEarly NoCommand = Unit {0}
IsEarly (Command e) = Unit {0}
IsEarly (Fault Source) = Unit {0}
IsEarly (Fault f) = ⊥

-- the status that is answered: 10 also if there is no memory for a line
abbrev pub IsStatusOf : Result Made Failure → ℕ → Type 0
IsStatusOf (Ok made) n = n ≡ (if made.refused == 0 then 0 else 5)
IsStatusOf (Err f) n = IsFailureStatus f n

-- what is written to the errors with this status
abbrev pub line_of : Result Made Failure → ℕ → List ℕ
line_of (Ok made) n = string_bytes made.lines
line_of (Err f) n = failure_line_at f n
