-- What comes of a command if the kept file stands for a history.
use Rattle.std.specs.Prelude.{◌≡◌, ◌<◌, ◌≤◌, ◌⊎◌, ◌&&◌, ◌==◌, ℕ, Bool, List, [], Option, Some, None, length, encode_utf8_all, IsTrue, IsFalse, Ok, Err}
use Rattle.rls_ident.specs.declared.limits.TheConstants.{INPUT_BYTES, FILE_BYTES}
use Rattle.rls_io.specs.Device.{Appends, Keeps}
use Rattle.rls_ops.specs.declared.message.Message.{Message}
use Rattle.rls_ops.specs.Spelling.{message_bytes}
use Rattle.rls_codec.specs.CodecLaws.{IsMessage}
use Rattle.rls_codec.specs.Reading.{message_of}
use Rattle.rls_model.specs.Answers.{Reason}
use Rattle.rls_model.specs.Document as document
use Rattle.rls_model.specs.History.{History, Fresh, group_of, members_of}
use Rattle.rls_model.specs.Machine.{Done, Stopped}
use Rattle.rls_model.specs.Parts.{parts}
use Rattle.rls_model.specs.Receiving.{State}
use Rattle.rls_model.specs.Taking.{Progress, message_for, take_message}
use Rattle.rls_file.specs.Files.{file_bytes}
use Rattle.rls_file.specs.SpelledFiles.{IsHead}
use Rattle.rls_top.specs.declared.words.Command.TheVariants.{New, OnFile}
use Rattle.rls_top.specs.declared.words.FileCommand.{FileCommand}
use Rattle.rls_top.specs.declared.words.FileCommand.TheVariants.{Edit, Text, Ids, Stat, Send, Take, Leave}
use Rattle.rls_stages.specs.KeptFile.{IsFileFor, StandsIn, Stays}
use Rattle.rls_report.specs.declared.failures.CommandError.{CommandError}
use Rattle.rls_report.specs.declared.failures.CommandError.TheVariants as causes
use Rattle.rls_report.specs.declared.failures.LineFault.{LineFault}
use Rattle.rls_report.specs.Failures.{error_line, error_status}
use Rattle.rls_report.specs.Listing.{ids_of}
use Rattle.rls_report.specs.Reports.{new_text, edit_text, take_text}
use Rattle.rls_report.specs.Stat.{stat_of}
use Rattle.rls_script.specs.Scripts.{script_of}
use Rattle.rls_script.specs.declared.lines.Line.{Line}
use Rattle.rls_top.specs.Due.{made_status, refused_lines}
use Rattle.rls_stages.specs.Endings.{EndsWith, Writes}
use Rattle.rls_top.specs.Endings.{IsDone, IsStored}
use Rattle.rls_top.specs.Scripts.{leave_in, script_in}
use Rattle.rls_top.specs.Words.{command_of}

-- the words are this command, over these bytes of a file, which stands for this history and what waits beside it
pub record Asks (words : List (List ℕ)) (c : FileCommand) (file : Option (Option (List ℕ))) (bytes : List ℕ) (t : State) : Type 0 where
  pub command : command_of words ≡ Some (OnFile c)
  pub kept : file ≡ Some (Some bytes)
  pub stands : IsFileFor bytes t

-- nothing has happened, and nothing waits
abbrev pub new_state : ℕ → ℕ → ℕ → State
new_state group me members = record { history = Fresh group me members; waiting = [] }

-- the message is of this group and of as many members
abbrev pub is_for : History → Message → Bool
is_for H m = (m.group == group_of H) && (m.members == members_of H)

-- ---- how it ends

-- a command over these bytes of a file ends with this status and writes this report
pub record Shows (n : ℕ) (bytes report : List ℕ) (old new : Option (List ℕ)) : Type 0 where
  pub status : EndsWith n 0 (FILE_BYTES < length bytes)
  pub written : n ≡ 0 → Appends old new report

-- a command ends with this status, writes this report and a line for each of these refused operations, and stores a file that stands for this state
pub record Saves (n : ℕ) (t : State) (report : List ℕ) (refused : List (ℕ × ℕ × Reason)) (too_long fails : Type 0) (file : Option (Option (List ℕ))) (old new errors_old errors_new : Option (List ℕ)) : Type 0 where
  pub status : EndsWith n (made_status refused) too_long
  pub stored : IsStored n → StandsIn file t
  pub written : IsDone n → Appends old new report
  pub told : IsDone n → Writes fails errors_old errors_new (refused_lines refused)

-- a command ends early with this error: its line is written to the errors, nothing is written to the output, and the file stays
pub record Refuses (n : ℕ) (error : CommandError) (too_long fails : Type 0) (file new_file : Option (Option (List ℕ))) (old new errors_old errors_new : Option (List ℕ)) : Type 0 where
  pub status : EndsWith n (error_status error) too_long
  pub line : n ≡ error_status error → Writes fails errors_old errors_new (error_line error)
  pub written : new ≡ old
  pub kept : n ≡ error_status error → Keeps file new_file
  -- also at another status, if it is told
  pub stays : Stays file new_file

-- what is read is too long: the kept file, or the input
abbrev pub IsReadTooLong : List ℕ → List ℕ → Type 0
IsReadTooLong bytes input = (FILE_BYTES < length bytes) ⊎ (INPUT_BYTES < length input)

-- the kept file is too long, or the one that is to be stored
abbrev pub IsFileTooLong : List ℕ → State → Type 0
IsFileTooLong bytes t = (FILE_BYTES < length bytes) ⊎ (FILE_BYTES < length (file_bytes (parts t)))

-- one of them is, or the input
abbrev pub IsTooLong : List ℕ → List ℕ → State → Type 0
IsTooLong bytes input t = (FILE_BYTES < length bytes) ⊎ (INPUT_BYTES < length input) ⊎ (FILE_BYTES < length (file_bytes (parts t)))

-- ---- what it means

-- What a command of these words, which ended with the status n, means for every history, with what waits beside it, that the kept file stands
-- for; and `new` where there is no file.
pub record CommandMeans (words : List (List ℕ)) (n : ℕ) (file new_file : Option (Option (List ℕ))) (left told new_told : Option (List ℕ)) (fails : Type 0) (errors new_errors : Option (List ℕ)) : Type 0 where
  -- What the kept file stands for is shown, or changed and stored.
  pub text : (t : State) (bytes : List ℕ) → Asks words Text file bytes t
      → Shows n bytes (encode_utf8_all (document.text t.history)) told new_told
  pub ids : (t : State) (bytes : List ℕ) → Asks words Ids file bytes t
      → Shows n bytes (ids_of t.history) told new_told
  pub stat : (t : State) (bytes : List ℕ) → Asks words Stat file bytes t
      → Shows n bytes (stat_of t) told new_told
  pub send : (t : State) (bytes : List ℕ) (to : ℕ) → Asks words (Send to) file bytes t → to < members_of t.history
      → Shows n bytes (message_bytes (message_for t.history to)) told new_told
  pub edit : (t : State) (bytes script : List ℕ) (lines : List Line) (p : Progress) → Asks words Edit file bytes t → left ≡ Some script → script_of script ≡ Ok lines → script_in t lines ≡ Done p
      → Saves n p.state (edit_text (length lines) p.counts.released (length p.counts.refused)) p.counts.refused (IsTooLong bytes script p.state) fails new_file told new_told errors new_errors
  pub leave : (t : State) (bytes : List ℕ) (p : Progress) → Asks words Leave file bytes t → leave_in t ≡ Done p
      → Saves n p.state (edit_text 1 p.counts.released (length p.counts.refused)) p.counts.refused (IsFileTooLong bytes p.state) fails new_file told new_told errors new_errors
  pub take : (t : State) (bytes given : List ℕ) (m : Message) → Asks words Take file bytes t → left ≡ Some given → IsMessage given m → IsTrue (is_for t.history m) → let p = take_message t m in
      Saves n p.state (take_text p.counts.applied p.counts.released p.counts.repeated p.counts.held (length p.counts.refused)) p.counts.refused (IsTooLong bytes given p.state) fails new_file told new_told errors new_errors
  pub new : (group me members : ℕ) → command_of words ≡ Some (New group me members) → file ≡ Some None → IsHead 1 group members me
      → Saves n (new_state group me members) (new_text group me members) [] ⊥ fails new_file told new_told errors new_errors
  -- Nothing is done, for what is asked can't be done there, or the input isn't in its grammar.
  pub send_refused : (t : State) (bytes : List ℕ) (to : ℕ) → Asks words (Send to) file bytes t → members_of t.history ≤ to
      → Refuses n (causes.NotMember to) (FILE_BYTES < length bytes) fails file new_file told new_told errors new_errors
  pub script_refused : (t : State) (bytes script : List ℕ) (k : ℕ) → Asks words Edit file bytes t → left ≡ Some script → script_of script ≡ Err k
      → Refuses n (causes.BadLine k) (IsReadTooLong bytes script) fails file new_file told new_told errors new_errors
  pub edit_refused : (t : State) (bytes script : List ℕ) (lines : List Line) (k : ℕ) (fault : LineFault) → Asks words Edit file bytes t → left ≡ Some script → script_of script ≡ Ok lines → script_in t lines ≡ Stopped k fault
      → Refuses n (causes.Edit k fault) (IsReadTooLong bytes script) fails file new_file told new_told errors new_errors
  pub leave_refused : (t : State) (bytes : List ℕ) (k : ℕ) (fault : LineFault) → Asks words Leave file bytes t → leave_in t ≡ Stopped k fault
      → Refuses n (causes.Edit k fault) (FILE_BYTES < length bytes) fails file new_file told new_told errors new_errors
  pub bytes_refused : (t : State) (bytes given : List ℕ) (at : ℕ) → Asks words Take file bytes t → left ≡ Some given → message_of given ≡ Err at
      → Refuses n (causes.Malformed at) (IsReadTooLong bytes given) fails file new_file told new_told errors new_errors
  pub message_refused : (t : State) (bytes given : List ℕ) (m : Message) → Asks words Take file bytes t → left ≡ Some given → IsMessage given m → IsFalse (is_for t.history m)
      → Refuses n (causes.OtherGroup m.group m.members) (IsReadTooLong bytes given) fails file new_file told new_told errors new_errors
