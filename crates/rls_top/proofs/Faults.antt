-- Whose failure an end is.
use Rattle.std.proofs.Common.{◌≡◌, ◌≢◌, Result, Ok, Err, refl}
use Rattle.rls_report.specs.declared.failures.Fault.TheVariants.{Keeper, Source, Sink, Memory}
use Rattle.rls_report.specs.declared.failures.Failure.{Failure}
use Rattle.rls_report.specs.declared.failures.Failure.TheVariants.{NoCommand, Command, Fault}
use Rattle.rls_stages.specs.declared.errors.OpenError.TheVariants as opening
use Rattle.rls_stages.specs.declared.errors.WorkError.TheVariants as work
use Rattle.rls_top.specs.declared.made.Made.{Made}
use Rattle.rls_top.specs.declared.stages.DeviceError.{DeviceError}
use Rattle.rls_top.specs.declared.stages.DeviceError.TheVariants as device
use Rattle.rls_top.specs.declared.stages.InputError.TheVariants as input
use Rattle.rls_top.specs.declared.stages.MakeError.{MakeError}
use Rattle.rls_top.specs.declared.stages.MakeError.TheVariants as make
use Rattle.rls_top.specs.Stages.{of_make}
use Rattle.rls_top.proofs.Finishing.{ended}

-- an end by this failure
abbrev pub ended_by : Failure → Result Made Failure
ended_by f = Err f

pub same_failure : (f g : Failure) → ended_by f ≡ ended_by g → f ≡ g
same_failure f g h = cc

-- ---- before anything is stored or written

-- an end by this error
abbrev pub stopped_by : MakeError → Result Made MakeError
stopped_by e = Err e

pub same_error : (e f : MakeError) → stopped_by e ≡ stopped_by f → e ≡ f
same_error e f h = cc

-- which failure the error is
pub record FailureOf (e : MakeError) : Type 0 where
  pub words : of_make e ≢ NoCommand
  pub keeper : of_make e ≡ Fault Keeper → e ≡ make.Open opening.KeeperFault
  pub source : of_make e ≡ Fault Source → e ≡ make.Input input.SourceFault
  pub sink : of_make e ≢ Fault Sink

pub failure_of : (e : MakeError) → FailureOf e
failure_of (make.Open (opening.Command x)) = record { words = λ (h : Command x ≡ NoCommand). cc; keeper = λ (h : Command x ≡ Fault Keeper). absurd (cc); source = λ (h : Command x ≡ Fault Source). absurd (cc); sink = λ (h : Command x ≡ Fault Sink). cc }
failure_of (make.Open opening.KeeperFault) = record { words = λ (h : Fault Keeper ≡ NoCommand). cc; keeper = λ h. refl; source = λ (h : Fault Keeper ≡ Fault Source). absurd (cc); sink = λ (h : Fault Keeper ≡ Fault Sink). cc }
failure_of (make.Open opening.OutOfMemory) = record { words = λ (h : Fault Memory ≡ NoCommand). cc; keeper = λ (h : Fault Memory ≡ Fault Keeper). absurd (cc); source = λ (h : Fault Memory ≡ Fault Source). absurd (cc); sink = λ (h : Fault Memory ≡ Fault Sink). cc }
failure_of (make.Input (input.Work (work.Command x))) = record { words = λ (h : Command x ≡ NoCommand). cc; keeper = λ (h : Command x ≡ Fault Keeper). absurd (cc); source = λ (h : Command x ≡ Fault Source). absurd (cc); sink = λ (h : Command x ≡ Fault Sink). cc }
failure_of (make.Input (input.Work work.OutOfMemory)) = record { words = λ (h : Fault Memory ≡ NoCommand). cc; keeper = λ (h : Fault Memory ≡ Fault Keeper). absurd (cc); source = λ (h : Fault Memory ≡ Fault Source). absurd (cc); sink = λ (h : Fault Memory ≡ Fault Sink). cc }
failure_of (make.Input input.SourceFault) = record { words = λ (h : Fault Source ≡ NoCommand). cc; keeper = λ (h : Fault Source ≡ Fault Keeper). absurd (cc); source = λ h. refl; sink = λ (h : Fault Source ≡ Fault Sink). cc }

-- ---- while it is stored and written

-- which failure ends a command that ends so
pub record EndOf (made : Made) (r : Result (Unit {0}) DeviceError) : Type 0 where
  pub words : ended made r ≢ Err NoCommand
  pub keeper : ended made r ≡ Err (Fault Keeper) → r ≡ Err device.KeeperFault
  pub source : ended made r ≢ Err (Fault Source)
  pub sink : ended made r ≡ Err (Fault Sink) → r ≡ Err device.SinkFault

-- nothing that was made is an error
never : {X : Type 0} (made : Made) (f : Failure) → Ok made ≡ ended_by f → X
never made f h = absurd (cc)

pub end_of : (made : Made) (r : Result (Unit {0}) DeviceError) → EndOf made r
end_of made (Ok done) = record { words = never made NoCommand; keeper = never made (Fault Keeper); source = never made (Fault Source); sink = never made (Fault Sink) }
end_of made (Err device.KeeperFault) = record { words = λ (h : ended_by (Fault Keeper) ≡ ended_by NoCommand). cc; keeper = λ h. refl; source = λ (h : ended_by (Fault Keeper) ≡ ended_by (Fault Source)). cc; sink = λ (h : ended_by (Fault Keeper) ≡ ended_by (Fault Sink)). absurd (cc) }
end_of made (Err device.SinkFault) = record { words = λ (h : ended_by (Fault Sink) ≡ ended_by NoCommand). cc; keeper = λ (h : ended_by (Fault Sink) ≡ ended_by (Fault Keeper)). absurd (cc); source = λ (h : ended_by (Fault Sink) ≡ ended_by (Fault Source)). cc; sink = λ h. refl }
end_of made (Err device.OutOfMemory) = record { words = λ (h : ended_by (Fault Memory) ≡ ended_by NoCommand). cc; keeper = λ (h : ended_by (Fault Memory) ≡ ended_by (Fault Keeper)). absurd (cc); source = λ (h : ended_by (Fault Memory) ≡ ended_by (Fault Source)). cc; sink = λ (h : ended_by (Fault Memory) ≡ ended_by (Fault Sink)). absurd (cc) }
