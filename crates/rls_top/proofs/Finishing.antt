-- What is stored and written of what was made.
use Rattle.std.proofs.Common.{◌≡◌, ◌≢◌, ℕ, List, Option, Some, None, IfSome, IfErr, OnOk, Result, Ok, Err, refl, subst}
use Rattle.rls_io.specs.Device.{Appends, Keeps, Stores}
use Rattle.rls_io.specs.Memory.{bytes_of}
use Rattle.rls_report.specs.declared.failures.Failure.{Failure}
use Rattle.rls_report.specs.declared.failures.Failure.TheVariants.{Fault}
use Rattle.rls_report.specs.declared.failures.Fault.TheVariants.{Keeper, Sink, Memory}
use Rattle.rls_top.specs.declared.made.Made.{Made}
use Rattle.rls_top.specs.declared.stages.DeviceError.{DeviceError}
use Rattle.rls_top.specs.declared.stages.DeviceError.TheVariants.{KeeperFault, SinkFault, OutOfMemory}
use Rattle.rls_top.specs.Due.{Due, Makes, Stops}
use Rattle.rls_top.specs.Due as due
use Rattle.rls_stages.specs.Endings.{IsPart}
use Rattle.rls_stages.specs.KeptFile.{LeavesFile}
use Rattle.rls_stages.proofs.Kept.{keeps_on}
use Rattle.rls_top.specs.Endings.{IsWritten, IsPartWritten, IsKept}
use Rattle.rls_top.specs.Stages.{IsAsDue, IsDue, Reports, Leaves, of_device, of_failure}

-- ---- the file

-- what is stored where the file was kept so far
leaves_on : (bytes : Option (List ℕ)) (old mid new : Option (Option (List ℕ))) → Keeps old mid → LeavesFile bytes mid new → LeavesFile bytes old new
leaves_on None old mid new h k = keeps_on old mid new h k
leaves_on (Some b) None mid new h k = tt
leaves_on (Some b) (Some kept) mid new h k = subst (λ (o : Option (Option (List ℕ))). Stores o new b) h k

kept_so : (made : Made) (d : Due) (old mid new : Option (Option (List ℕ))) → IsAsDue made d → Keeps old mid → LeavesFile (bytes_of made.stored) mid new → IsKept d old new
kept_so made due.NoCommand old mid new m h k = absurd m
kept_so made (Stops e) old mid new m h k = absurd m
kept_so made (Makes stored report refused) old mid new m h k = (subst (λ (b : Option (List ℕ)). LeavesFile b old new) m.stored_is (leaves_on (bytes_of made.stored) old mid new h k), m.read_back)

-- ---- the report

written_so : (made : Made) (d : Due) (old new : Option (List ℕ)) → IsAsDue made d → Appends old new made.report.items → IsWritten d old new
written_so made due.NoCommand old new m a = absurd m
written_so made (Stops e) old new m a = absurd m
written_so made (Makes stored report refused) old new m a = subst (λ (b : List ℕ). Appends old new b) m.report_is a

partly_so : (made : Made) (d : Due) (old new : Option (List ℕ)) → IsAsDue made d → IsPart old new made.report.items → IsPartWritten d old new
partly_so made due.NoCommand old new m a = absurd m
partly_so made (Stops e) old new m a = absurd m
partly_so made (Makes stored report refused) old new m a = subst (λ (b : List ℕ). IsPart old new b) m.report_is a

-- ---- all that is told

-- what holds of what is called for in one way holds in another
pub for_due : (d : Option Due) (P Q : Due → Type 0) → ((d : Due) → P d → Q d) → IfSome d P → IfSome d Q
for_due None P Q f h = tt
for_due (Some d) P Q f h = f d h

-- and what holds of each holds of it
pub all_due : (d : Option Due) (P : Due → Type 0) → ((d : Due) → P d) → IfSome d P
all_due None P f = tt
all_due (Some d) P f = f d

-- how the command ends if storing and writing end so
abbrev pub ended : Made → Result (Unit {0}) DeviceError → Result Made Failure
ended made (Ok done) = Ok made
ended made (Err e) = Err (of_device e)

module _ (d : Option Due) (made : Made) (m : IfSome d (IsAsDue made)) where
  pub ended_due : (r : Result (Unit {0}) DeviceError) → IfSome d (IsDue of_failure (ended made r))
  ended_due (Ok done) = m
  ended_due (Err KeeperFault) = all_due d (IsDue of_failure (Err (Fault Keeper))) (λ d. tt)
  ended_due (Err SinkFault) = all_due d (IsDue of_failure (Err (Fault Sink))) (λ d. tt)
  ended_due (Err OutOfMemory) = all_due d (IsDue of_failure (Err (Fault Memory))) (λ d. tt)

  pub ended_reports : (r : Result (Unit {0}) DeviceError) (old new : Option (List ℕ)) → OnOk r (Appends old new made.report.items) → (r ≡ Err SinkFault → IsPart old new made.report.items) → IfErr r (λ e. e ≢ SinkFault → new ≡ old)
      → IfSome d (λ d. Reports (ended made r) d old new)
  ended_reports (Ok done) old new all part none = for_due d (IsAsDue made) (λ d. Reports (Ok made) d old new) (λ d m. written_so made d old new m all) m
  ended_reports (Err KeeperFault) old new all part none = all_due d (λ d. Reports (Err (Fault Keeper)) d old new) (λ d. none (λ h. cc))
  ended_reports (Err SinkFault) old new all part none = for_due d (IsAsDue made) (λ d. Reports (Err (Fault Sink)) d old new) (λ d m. partly_so made d old new m (part refl)) m
  ended_reports (Err OutOfMemory) old new all part none = all_due d (λ d. Reports (Err (Fault Memory)) d old new) (λ d. none (λ h. cc))

  pub ended_leaves : (r : Result (Unit {0}) DeviceError) (old mid new : Option (Option (List ℕ))) → Keeps old mid → OnOk r (LeavesFile (bytes_of made.stored) mid new) → (r ≡ Err SinkFault → LeavesFile (bytes_of made.stored) mid new)
      → IfSome d (λ d. Leaves (ended made r) d old new)
  ended_leaves (Ok done) old mid new h all part = for_due d (IsAsDue made) (λ d. Leaves (Ok made) d old new) (λ d m. kept_so made d old mid new m h all) m
  ended_leaves (Err KeeperFault) old mid new h all part = all_due d (λ d. Leaves (Err (Fault Keeper)) d old new) (λ d. tt)
  ended_leaves (Err SinkFault) old mid new h all part = for_due d (IsAsDue made) (λ d. Leaves (Err (Fault Sink)) d old new) (λ d m. kept_so made d old mid new m h (part refl)) m
  ended_leaves (Err OutOfMemory) old mid new h all part = all_due d (λ d. Leaves (Err (Fault Memory)) d old new) (λ d. tt)

-- ---- nothing was made

-- an end by this failure, which isn't that of the output
pub unmade : (d : Due) (f : Failure) (told : Option (List ℕ)) (old new : Option (Option (List ℕ))) → f ≢ Fault Sink → Reports (Err f) d told told × Leaves (Err f) d old new
unmade d (Fault Sink) told old new other = absurd (other refl)
unmade d _ told old new other = (refl, tt)
