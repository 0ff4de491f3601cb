-- What a stage gives, or why it gives nothing, against what is called for.
use Rattle.std.specs.Prelude.{◌≡◌, Result, Ok, Err}
use Rattle.rls_model.specs.declared.edit.EditError.{EditError}
use Rattle.rls_model.specs.declared.edit.EditError.TheVariants as edit
use Rattle.rls_model.specs.declared.edit.Edit.{Edit}
use Rattle.rls_report.specs.declared.failures.CommandError.{CommandError}
use Rattle.rls_report.specs.declared.failures.CommandError.TheVariants.{NoReplica, Damaged, TooLarge}
use Rattle.rls_report.specs.declared.failures.Failure.{Failure}
use Rattle.rls_report.specs.declared.failures.Failure.TheVariants.{NoCommand, Command, Fault}
use Rattle.rls_report.specs.declared.failures.Fault.TheVariants.{Keeper, Memory}
use Rattle.rls_report.specs.declared.failures.LineFault.{LineFault}
use Rattle.rls_seen.specs.Edits.{edited}
use Rattle.rls_seen.specs.Seen.{Seen}
use Rattle.rls_stages.specs.declared.errors.LineError.{LineError}
use Rattle.rls_stages.specs.declared.errors.LineError.TheVariants as line
use Rattle.rls_stages.specs.declared.errors.OpenError.{OpenError}
use Rattle.rls_stages.specs.declared.errors.OpenError.TheVariants as opening
use Rattle.rls_stages.specs.declared.errors.WorkError.{WorkError}
use Rattle.rls_stages.specs.declared.errors.WorkError.TheVariants as work
use Rattle.rls_stages.specs.Lines.{line_fault}

-- ---- each stage's error as a failure

abbrev pub of_work : WorkError → Failure
of_work (work.Command e) = Command e
of_work work.OutOfMemory = Fault Memory

abbrev pub of_open : OpenError → Failure
of_open (opening.Command e) = Command e
of_open opening.KeeperFault = Fault Keeper
of_open opening.OutOfMemory = Fault Memory

abbrev pub open_of_work : WorkError → OpenError
open_of_work (work.Command e) = opening.Command e
open_of_work work.OutOfMemory = opening.OutOfMemory

-- ---- what may be wrong with a file

-- there is none, it isn't in the grammar, or it is too large
abbrev pub IsOfFile : CommandError → Type 0
IsOfFile NoReplica = Unit {0}
IsOfFile (Damaged at) = Unit {0}
IsOfFile TooLarge = Unit {0}
IsOfFile _ = ⊥

-- the kept file can't be used for no other reason, unless the keeper failed or memory ran out
abbrev pub IsOpenError : OpenError → Type 0
IsOpenError (opening.Command e) = IsOfFile e
IsOpenError opening.KeeperFault = Unit {0}
IsOpenError opening.OutOfMemory = Unit {0}

-- ---- a part of the way

-- this error was to come, or a device failed, or memory ran out
abbrev pub GivesError : {Y : Type 0} → Failure → Result Y CommandError → Type 0
GivesError NoCommand y = ⊥
GivesError (Command e) y = y ≡ Err e
GivesError (Fault f) y = Unit {0}

-- what was given, seen by view, is what was to come
abbrev pub Gives : {X Y E : Type 0} → (E → Failure) → (X → Y) → Result X E → Result Y CommandError → Type 0
Gives failure view (Ok x) y = y ≡ Ok (view x)
Gives failure view (Err e) y = GivesError (failure e) y

-- ---- lines of edits

-- the line, which means this, is refused, or memory ran out
abbrev pub IsRefused : LineError → Result Edit LineFault → Type 0
IsRefused (line.Refused fault) meant = meant ≡ Err fault
IsRefused line.OutOfMemory meant = Unit {0}

-- the error of a line whose edit is refused for this reason
abbrev pub line_error : EditError → LineError
line_error edit.OutOfMemory = line.OutOfMemory
line_error e = line.Refused (line_fault e)

-- the edit is allowed, and was made
abbrev pub IsEdited : Seen → Result Edit LineFault → Seen → Type 0
IsEdited old meant new = (edit : Edit) × (meant ≡ Ok edit) × (new ≡ edited old edit)
