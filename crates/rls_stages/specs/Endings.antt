-- How a command or a session ends: its status, and what is written.
use Rattle.std.specs.Prelude.{◌≡◌, ◌⊎◌, ◌≤◌, ◌==◌, ℕ, List, length, take, Option, Some, None, if◌then◌else◌}
use Rattle.rls_io.specs.Device.{Appends}
use Rattle.rls_report.specs.declared.failures.CommandError.TheVariants.{TooLarge}
use Rattle.rls_report.specs.declared.failures.Failure.{Failure}
use Rattle.rls_report.specs.declared.failures.Failure.TheVariants as failures
use Rattle.rls_report.specs.declared.failures.Fault.TheVariants.{Keeper, Source, Sink, Memory}
use Rattle.rls_report.specs.Failures.{error_line, failure_line, fault_line, fault_status, status_of, usage_line}

-- ---- the status

-- a device failed, or memory ran out
abbrev pub IsFault : ℕ → Type 0
IsFault n = (n ≡ 7) ⊎ (n ≡ 8) ⊎ (n ≡ 9) ⊎ (n ≡ 10)

-- the status is this one, or a device failed, memory ran out, or something was too long
abbrev pub EndsWith : ℕ → ℕ → Type 0 → Type 0
EndsWith n status too_long = (n ≡ status) ⊎ IsFault n ⊎ ((n ≡ 11) × too_long)

-- the status of a failure: 10 also if there is no memory for its line
abbrev pub IsFailureStatus : Failure → ℕ → Type 0
IsFailureStatus (failures.Fault f) n = n ≡ fault_status f
IsFailureStatus f n = (n ≡ status_of f) ⊎ (n ≡ 10)

-- ---- what is written

-- these bytes were written, or a part of them from the front
abbrev pub IsPart : Option (List ℕ) → Option (List ℕ) → List ℕ → Type 0
IsPart old new bytes = (n : ℕ) × (n ≤ length bytes) × Appends old new (take n bytes)

-- these bytes were written, or a part of them if the sink failed
abbrev pub Writes : Type 0 → Option (List ℕ) → Option (List ℕ) → List ℕ → Type 0
Writes fails old new bytes = Appends old new bytes ⊎ (fails × IsPart old new bytes)

-- the line of a failure, at the status that is answered
abbrev pub failure_line_at : Failure → ℕ → List ℕ
failure_line_at f n = if n == 10 then fault_line Memory else failure_line f

-- the line of a status that has one line for all its causes
abbrev pub own_line : ℕ → Option (List ℕ)
own_line n =
    if n == 1 then Some usage_line
    else if n == 7 then Some (fault_line Keeper)
    else if n == 8 then Some (fault_line Source)
    else if n == 9 then Some (fault_line Sink)
    else if n == 10 then Some (fault_line Memory)
    else if n == 11 then Some (error_line TooLarge)
    else None

-- this, or else that
abbrev pub or_else : {A : Type 0} → Option A → Option A → Option A
or_else None y = y
or_else (Some x) y = Some x
