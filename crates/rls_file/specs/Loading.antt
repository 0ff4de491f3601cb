-- What loading a file answers.
use Rattle.std.specs.Prelude.{◌≡◌, ℕ, ◌-◌, ◌⊎◌, List, nat_lt, Result, Ok, Err, IfOk, IsOkAnd}
use Rattle.std.specs.Int.{w32, w64}
use Rattle.rls_codec.specs.declared.fault.ReadError.{ReadError}
use Rattle.rls_codec.specs.declared.fault.ReadError.TheVariants as read
use Rattle.rls_codec.specs.Reading.{Read, ◌>>=◌, with_rule, number_at, is_member_count, whole}
use Rattle.rls_model.specs.declared.parts.Parts.{Parts}
use Rattle.rls_model.specs.Legal.{IsLegal}
use Rattle.rls_model.specs.Parts.{parts}
use Rattle.rls_model.specs.Receiving.{State}
use Rattle.rls_seen.specs.Kept.{dropped}
use Rattle.rls_seen.specs.Seen.{Seen}
use Rattle.rls_seen.specs.Stands.{StandsFor}
use Rattle.rls_parts.specs.Given.{AreGiven}
use Rattle.rls_parts.specs.Restored.{seen_of}
use Rattle.rls_fields.specs.ReadingFields.{snapshot_at}
use Rattle.rls_file.specs.Files.{Content, Journal, Snapshot}
use Rattle.rls_file.specs.FileLaws.{IsFile}
use Rattle.rls_file.specs.Journals.{seen_with}
use Rattle.rls_file.specs.ReadingFiles.{file_at, file_of}
use Rattle.rls_file.specs.Stored.{AreWritable}
use Rattle.rls_file.specs.declared.loading.FileError.{FileError}
use Rattle.rls_file.specs.declared.loading.FileError.TheVariants.{Damaged, OutOfMemory}
use Rattle.rls_file.specs.declared.loading.FileRead.{FileRead}
use Rattle.rls_file.specs.declared.loading.FileRead.TheVariants as found

-- what follows the form of a snapshot
unfoldable pub snapshot_behind : ℕ → List ℕ → Read Content
snapshot_behind form bytes = do
  group ← number_at w64 bytes
  members ← with_rule is_member_count (number_at w32) group.1
  me ← with_rule (λ n. nat_lt n members.0) (number_at w32) members.1
  parts ← snapshot_at form group.0 members.0 me.0 me.1
  Ok (Snapshot form parts.0, parts.1)

-- the error of so many bytes
abbrev pub damage_of : ℕ → ReadError → FileError
damage_of total (read.Fault left) = Damaged (total - left)
damage_of total read.OutOfMemory = OutOfMemory

-- the parts stand in the bytes, or a field has a fault, unless memory ran out
abbrev pub ReadsParts : ℕ → Result Parts FileError → List ℕ → Type 0
ReadsParts form (Ok p) bytes = whole bytes (file_at bytes) ≡ Ok (Snapshot form p)
ReadsParts form (Err (Damaged at)) bytes = whole bytes (file_at bytes) ≡ Err at
ReadsParts form (Err OutOfMemory) bytes = Unit {0}

-- the replica that a file says: the one to which a journal's entries have happened, with what waits, after it has dropped what is stable; or the one
-- with the parts of a snapshot
abbrev pub seen_in : Content → Seen
seen_in (Journal t) = dropped (seen_with t)
seen_in (Snapshot form p) = seen_of p

-- it stands for the journal's state, or for each legal state that has the parts
abbrev pub StandsFrom : Seen → Content → Type 0
StandsFrom r (Journal t) = StandsFor r t
StandsFrom r (Snapshot form p) = (t : State) → IsLegal t.history → parts t ≡ p → StandsFor r t

abbrev pub IsLoaded : Seen → Content → Type 0
IsLoaded r c = (r ≡ seen_in c) × StandsFrom r c

-- what the file says was loaded, or its fault has its place, unless memory ran out
abbrev pub Loads : Result Seen FileError → List ℕ → Type 0
Loads (Ok r) bytes = (c : Content) × (file_of bytes ≡ Ok c) × IsLoaded r c
Loads (Err (Damaged at)) bytes = file_of bytes ≡ Err at
Loads (Err OutOfMemory) bytes = Unit {0}

-- what the bytes say was read: a journal as its replica, a snapshot as its parts, whose rules weren't tested; or the fault of a field has its place,
-- unless memory ran out
abbrev pub HasRead : Result FileRead FileError → List ℕ → Type 0
HasRead (Ok (found.Journal r)) bytes = Loads (Ok r) bytes
HasRead (Ok (found.Snapshot form p)) bytes = ReadsParts form (Ok p) bytes
HasRead (Err e) bytes = Loads (Err e) bytes

-- the parts of a snapshot are what reading promises of them
abbrev pub IsGiven : FileRead → Type 0
IsGiven (found.Journal r) = Unit {0}
IsGiven (found.Snapshot form p) = AreGiven p

-- the bytes are the journal of this state, or a snapshot of it, which is legal
abbrev pub FileStandsFor : List ℕ → State → Type 0
FileStandsFor bytes t = (file_of bytes ≡ Ok (Journal t)) ⊎ (IsLegal t.history × ((form : ℕ) × (file_of bytes ≡ Ok (Snapshot form (parts t)))))

-- what loading these bytes answers
pub record LoadsBytes (result : Result Seen FileError) (bytes : List ℕ) : Type 0 where
  pub ok : IfOk result (λ r. (c : Content) × (file_of bytes ≡ Ok c) × (r ≡ seen_in c))
  pub damaged : (at : ℕ) → result ≡ Err (Damaged at) → file_of bytes ≡ Err at
  -- it is Ok wherever the bytes are a file, unless memory runs out
  pub found : (c : Content) → file_of bytes ≡ Ok c → IsOkAnd result (λ r. r ≡ seen_in c) ⊎ (result ≡ Err OutOfMemory)
  -- in the words of files: what is loaded is one, and each that is one is loaded, unless memory runs out
  pub file : IfOk result (λ r. (c : Content) × IsFile bytes c × (r ≡ seen_in c))
  pub every_file : (c : Content) → IsFile bytes c → IsOkAnd result (λ r. r ≡ seen_in c) ⊎ (result ≡ Err OutOfMemory)
  -- it may be written again, also if nobody has written the file
  pub writable : IfOk result (λ r. AreWritable r)
  -- for every history and waiting operations of which the bytes are a file
  pub stands : IfOk result (λ r. (t : State) → FileStandsFor bytes t → StandsFor r t)
