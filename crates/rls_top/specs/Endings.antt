-- How a command ends, given what it calls for.
-- Why: docs/DECISIONS.md, 165.
use Rattle.std.specs.Prelude.{◌≡◌, ◌⊎◌, ℕ, List, Option, Some, IfOk, IfSome, option_map, IsTrue}
use Rattle.rls_io.specs.Device.{Appends}
use Rattle.rls_ops.specs.Spelling.{message_bytes}
use Rattle.rls_codec.specs.CodecLaws.{IsMessage}
use Rattle.rls_seen.specs.Messages.{message_over}
use Rattle.rls_seen.specs.Seen.{Seen}
use Rattle.rls_stages.specs.Endings.{IsPart, or_else, own_line}
use Rattle.rls_stages.specs.KeptFile.{IsReadBack, LeavesFile, bytes_over, loaded, replica_in}
use Rattle.rls_top.specs.declared.words.Command.{Command}
use Rattle.rls_top.specs.declared.words.Command.TheVariants.{OnFile}
use Rattle.rls_top.specs.declared.words.FileCommand.{FileCommand}
use Rattle.rls_top.specs.declared.words.FileCommand.TheVariants.{Send}
use Rattle.rls_top.specs.Due.{Due, NoCommand, Makes, Stops, may_store, due_line}

-- ---- the status

-- done, perhaps but for refused operations
abbrev pub IsDone : ℕ → Type 0
IsDone n = (n ≡ 0) ⊎ (n ≡ 5)

-- done so far that what is to be stored is stored
abbrev pub IsStored : ℕ → Type 0
IsStored n = (n ≡ 0) ⊎ (n ≡ 5) ⊎ (n ≡ 9)

-- the command may have stored a file if it ends so
abbrev pub MayStore : Option Command → ℕ → Type 0
MayStore c n = IsTrue (may_store c) × (IsStored n ⊎ (n ≡ 7) ⊎ (n ≡ 10))

-- ---- what is written

-- the report that is called for was written
abbrev pub IsWritten : Due → Option (List ℕ) → Option (List ℕ) → Type 0
IsWritten NoCommand old new = ⊥
IsWritten (Makes stored report refused) old new = Appends old new report
IsWritten (Stops e) old new = ⊥

-- or a part of it, from the front
abbrev pub IsPartWritten : Due → Option (List ℕ) → Option (List ℕ) → Type 0
IsPartWritten NoCommand old new = ⊥
IsPartWritten (Makes stored report refused) old new = IsPart old new report
IsPartWritten (Stops e) old new = ⊥

-- what is sent to this member is a message, which can be read
abbrev pub IsSent : ℕ → Seen → Type 0
IsSent to s = IsMessage (message_bytes (message_over s to)) (message_over s to)

-- so is what the command sends at this replica, if it sends anything
abbrev pub IsSentBy : FileCommand → Seen → Type 0
IsSentBy (Send to) s = IsSent to s
IsSentBy _ s = Unit {0}

-- and at the replica that the kept file says, if the file is told
abbrev pub SendsMessage : Option Command → Option (Option (List ℕ)) → Type 0
SendsMessage (Some (OnFile (Send to))) file = IfSome file (λ kept. IfOk (replica_in (loaded kept)) (IsSent to))
SendsMessage _ file = Unit {0}

-- what is written to the errors at a status, if it is told
abbrev pub line_at : Option Due → ℕ → Option (List ℕ)
line_at d n = or_else (own_line n) (option_map due_line d)

-- ---- the kept file

-- the file of the replica that is called for is kept, and is read back
abbrev pub IsKept : Due → Option (Option (List ℕ)) → Option (Option (List ℕ)) → Type 0
IsKept NoCommand old new = ⊥
IsKept (Makes stored report refused) old new = LeavesFile (option_map bytes_over stored) old new × IfSome stored IsReadBack
IsKept (Stops e) old new = ⊥
