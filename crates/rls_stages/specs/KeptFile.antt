-- The kept file: the replica that it says, the one whose file is stored, and the history that it stands for.
use Rattle.std.specs.Prelude.{◌≡◌, ◌⊎◌, ℕ, List, length, Option, Some, None, IsOk, Result, Ok, Err, nat_lt, if◌then◌else◌}
use Rattle.rls_ident.specs.declared.limits.TheConstants.{FILE_BYTES}
use Rattle.rls_io.specs.Device.{Keeps, Stores}
use Rattle.rls_model.specs.Legal.{IsLegal}
use Rattle.rls_model.specs.Parts.{parts}
use Rattle.rls_model.specs.Receiving.{State}
use Rattle.rls_seen.specs.Kept.{parts_over}
use Rattle.rls_seen.specs.Seen.{Seen}
use Rattle.rls_file.specs.FileLaws.{IsFile}
use Rattle.rls_file.specs.Files.{Content, Journal, Snapshot, file_bytes, newest_form}
use Rattle.rls_file.specs.ReadingFiles.{file_of}
use Rattle.rls_file.specs.Loading.{seen_in}
use Rattle.rls_report.specs.declared.failures.CommandError.{CommandError}
use Rattle.rls_report.specs.declared.failures.CommandError.TheVariants.{NoReplica, Damaged, TooLarge}

-- ---- reading

-- the bytes of the file, if there is one, unless they are too many
abbrev pub loaded : Option (List ℕ) → Result (Option (List ℕ)) CommandError
loaded None = Ok None
loaded (Some bytes) = if nat_lt FILE_BYTES (length bytes) then Err TooLarge else Ok (Some bytes)

-- the replica that a file says
abbrev pub replica_of : Result Content ℕ → Result Seen CommandError
replica_of (Ok c) = Ok (seen_in c)
replica_of (Err at) = Err (Damaged at)

-- the replica of the file that was loaded
abbrev pub replica_in : Result (Option (List ℕ)) CommandError → Result Seen CommandError
replica_in (Ok None) = Err NoReplica
replica_in (Ok (Some bytes)) = replica_of (file_of bytes)
replica_in (Err e) = Err e

-- the kept file says a replica
abbrev pub IsUsable : Option (List ℕ) → Type 0
IsUsable kept = IsOk (replica_in (loaded kept))

-- ---- storing

-- the file of a replica, in the newest form
abbrev pub bytes_over : Seen → List ℕ
bytes_over s = file_bytes (parts_over s)

-- the replica, unless its file is too long
abbrev pub saved : Seen → Result Seen CommandError
saved s = if nat_lt FILE_BYTES (length (bytes_over s)) then Err TooLarge else Ok s

-- the replica's file is read back with its parts
abbrev pub IsReadBack : Seen → Type 0
IsReadBack s = IsFile (bytes_over s) (Snapshot newest_form (parts_over s))

-- these bytes are kept now, or if there are none the file is what it was
abbrev pub LeavesFile : Option (List ℕ) → Option (Option (List ℕ)) → Option (Option (List ℕ)) → Type 0
LeavesFile None old new = Keeps old new
LeavesFile (Some bytes) old new = Stores old new bytes

-- the file is as before, if it is told before and afterwards
abbrev pub Stays : Option (Option (List ℕ)) → Option (Option (List ℕ)) → Type 0
Stays None new = Unit {0}
Stays (Some kept) None = Unit {0}
Stays (Some kept) (Some now) = now ≡ kept

-- ---- the history that it stands for

-- the bytes are the journal of this history and what waits beside it, or a snapshot with its parts, which is legal
abbrev pub IsFileFor : List ℕ → State → Type 0
IsFileFor bytes t = IsFile bytes (Journal t) ⊎ (IsLegal t.history × ((form : ℕ) × IsFile bytes (Snapshot form (parts t))))

-- the file that is kept stands for this history and what waits beside it
abbrev pub StandsIn : Option (Option (List ℕ)) → State → Type 0
StandsIn (Some (Some bytes)) t = IsFileFor bytes t
StandsIn _ t = ⊥
