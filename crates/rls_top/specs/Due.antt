-- What a command calls for, by its words, the kept file and the input, read over what the replica consists of that the file says.
-- Why: docs/DECISIONS.md, 25, 39.
use Rattle.std.specs.Prelude.{ℕ, Bool, true, false, not, ◌&&◌, ◌==◌, List, [], length, zip, encode_utf8_all, Option, Some, None, option_map, Result, Ok, Err, nat_lt, if◌then◌else◌}
use Rattle.std.specs.List.{flat_map}
use Rattle.rls_ident.specs.declared.limits.TheConstants.{INPUT_BYTES}
use Rattle.rls_ops.specs.declared.message.Message.{Message}
use Rattle.rls_ops.specs.Spelling.{message_bytes}
use Rattle.rls_codec.specs.Reading.{is_member_count, message_of}
use Rattle.rls_model.specs.Answers.{Reason}
use Rattle.rls_model.specs.Machine.{Run, Done, Stopped}
use Rattle.rls_seen.specs.Messages.{Course, message_over, taken_over}
use Rattle.rls_seen.specs.Seen.{Seen, fresh, members, text_over}
use Rattle.rls_world.specs.declared.trials.Summary.{Summary}
use Rattle.rls_world.specs.Trial.{trial}
use Rattle.rls_report.specs.declared.failures.LineFault.{LineFault}
use Rattle.rls_report.specs.declared.failures.CommandError.{CommandError}
use Rattle.rls_report.specs.declared.failures.CommandError.TheVariants.{ReplicaExists, BadMembers, BadMe, NotMember, BadLine, Malformed, OtherGroup, TooLarge}
use Rattle.rls_report.specs.declared.failures.CommandError.TheVariants as errors
use Rattle.rls_report.specs.Failures.{error_status, error_line, usage_line}
use Rattle.rls_report.specs.Listing.{ids_over}
use Rattle.rls_report.specs.Refused.{refused_line}
use Rattle.rls_report.specs.Reports.{new_text, edit_text, take_text, trial_text}
use Rattle.rls_report.specs.Stat.{stat_over}
use Rattle.rls_script.specs.Scripts.{script_of}
use Rattle.rls_script.specs.declared.lines.Line.{Line}
use Rattle.rls_stages.specs.KeptFile.{loaded, replica_in, saved}
use Rattle.rls_top.specs.declared.words.Command.{Command}
use Rattle.rls_top.specs.declared.words.Command.TheVariants.{New, OnFile, Trial}
use Rattle.rls_top.specs.declared.words.FileCommand.{FileCommand}
use Rattle.rls_top.specs.declared.words.FileCommand.TheVariants.{Edit, Text, Ids, Stat, Send, Take, Leave}
use Rattle.rls_top.specs.Scripts.{run_script, run_leave}
use Rattle.rls_top.specs.Words.{command_of}

-- what a command makes, or why it ends early
pub data Due : Type 0 where
  -- the words are no command
  NoCommand : Due
  -- the replica whose file is stored, if the command stores one; what is written to the output; refused operations, each with its author and number
  Makes : (stored : Option Seen) → (report : List ℕ) → (refused : List (ℕ × ℕ × Reason)) → Due
  Stops : (error : CommandError) → Due

-- this report, and nothing is stored
abbrev pub shows : List ℕ → Due
shows report = Makes None report []

-- ---- reading and storing

-- the input, unless it is too long
abbrev pub read : List ℕ → Result (List ℕ) CommandError
read input = if nat_lt INPUT_BYTES (length input) then Err TooLarge else Ok input

-- this replica is stored, with this report
abbrev pub stores : Result Seen CommandError → List ℕ → List (ℕ × ℕ × Reason) → Due
stores (Ok s) report refused = Makes (Some s) report refused
stores (Err e) report refused = Stops e

-- ---- commands on a replica

-- the text
abbrev pub due_of_text : Seen → Due
due_of_text s = shows (encode_utf8_all (text_over s))

-- the listing of its identifiers
abbrev pub due_of_ids : Seen → Due
due_of_ids s = shows (ids_over s)

-- its numbers
abbrev pub due_of_stat : Seen → Due
due_of_stat s = shows (stat_over s)

-- the message for a member
abbrev pub due_of_send : Seen → ℕ → Due
due_of_send s to = if nat_lt to (members s) then shows (message_bytes (message_over s to)) else Stops (NotMember to)

-- after n edits
abbrev pub due_of_run : ℕ → Run Seen LineFault → Due
due_of_run n (Done c) = stores (saved c.state) (edit_text n c.counts.released (length c.counts.refused)) c.counts.refused
due_of_run n (Stopped line fault) = Stops (errors.Edit line fault)

-- the lines of a script, or the number of the first bad one
abbrev pub due_of_script : Seen → Result (List Line) ℕ → Due
due_of_script s (Ok lines) = due_of_run (length lines) (run_script s lines)
due_of_script s (Err line) = Stops (BadLine line)

-- after a message was taken
abbrev pub due_of_taken : Course → Due
due_of_taken c = stores (saved c.state) (take_text c.counts.applied c.counts.released c.counts.repeated c.counts.held (length c.counts.refused)) c.counts.refused

-- the message is of this group and of as many members
abbrev pub is_for : Seen → Message → Bool
is_for s m = (m.group == s.group) && (m.members == members s)

-- the message, or the place of its first fault
abbrev pub due_of_message : Seen → Result Message ℕ → Due
due_of_message s (Ok m) = if is_for s m then due_of_taken (taken_over s m) else Stops (OtherGroup m.group m.members)
due_of_message s (Err at) = Stops (Malformed at)

-- with the input that was read
abbrev pub due_of_input : Result (List ℕ) CommandError → (List ℕ → Due) → Due
due_of_input (Ok bytes) due = due bytes
due_of_input (Err e) due = Stops e

-- what the command calls for at this replica, if the input is told or not read
abbrev pub due_at : FileCommand → Seen → Option (List ℕ) → Option Due
due_at Text s left = Some (due_of_text s)
due_at Ids s left = Some (due_of_ids s)
due_at Stat s left = Some (due_of_stat s)
due_at (Send to) s left = Some (due_of_send s to)
due_at Leave s left = Some (due_of_run 1 (run_leave s))
due_at Edit s left = option_map (λ input. due_of_input (read input) (λ bytes. due_of_script s (script_of bytes))) left
due_at Take s left = option_map (λ input. due_of_input (read input) (λ bytes. due_of_message s (message_of bytes))) left

-- ---- commands on a file

-- at the replica of the kept file, before the input is read
abbrev pub due_on : FileCommand → Result Seen CommandError → Option (List ℕ) → Option Due
due_on c (Ok s) left = due_at c s left
due_on c (Err e) left = Some (Stops e)

-- if the kept file is told
abbrev pub due_of_file : FileCommand → Option (Option (List ℕ)) → Option (List ℕ) → Option Due
due_of_file c None left = None
due_of_file c (Some kept) left = due_on c (replica_in (loaded kept)) left

-- ---- commands without one

-- a fresh replica, if there is no file
abbrev pub due_of_fresh : ℕ → ℕ → ℕ → Result (Option (List ℕ)) CommandError → Due
due_of_fresh group me members (Ok None) = stores (saved (fresh group me members)) (new_text group me members) []
due_of_fresh group me members (Ok (Some bytes)) = Stops ReplicaExists
due_of_fresh group me members (Err e) = Stops e

-- what is wrong with the numbers of a replica
abbrev pub error_of_numbers : ℕ → ℕ → Option CommandError
error_of_numbers me members =
    if not (is_member_count members) then Some (BadMembers members)
    else if not (nat_lt me members) then Some (BadMe me)
    else None

-- the numbers decide before the kept file is looked at
abbrev pub due_of_new : Option CommandError → ℕ → ℕ → ℕ → Option (Option (List ℕ)) → Option Due
due_of_new (Some e) group me members file = Some (Stops e)
due_of_new None group me members file = option_map (λ kept. due_of_fresh group me members (loaded kept)) file

-- the summary of a trial
abbrev pub summary_text : ℕ → ℕ → Summary → List ℕ
summary_text seed steps s = trial_text seed steps s.accepted (zip s.totals s.runs) s.epochs s.former

-- ---- commands

abbrev pub due_of_command : Command → Option (Option (List ℕ)) → Option (List ℕ) → Option Due
due_of_command (New group me members) file left = due_of_new (error_of_numbers me members) group me members file
due_of_command (OnFile c) file left = due_of_file c file left
due_of_command (Trial seed steps) file left = Some (shows (summary_text seed steps (trial seed steps)))

abbrev pub due_of_words : Option Command → Option (Option (List ℕ)) → Option (List ℕ) → Option Due
due_of_words None file left = Some NoCommand
due_of_words (Some c) file left = due_of_command c file left

-- what these words call for, if the kept file and the input are told as far as the command looks at them
abbrev pub due : List (List ℕ) → Option (Option (List ℕ)) → Option (List ℕ) → Option Due
due words file left = due_of_words (command_of words) file left

-- ---- which devices a command calls

-- the command reads the input
abbrev pub reads_input : Option Command → Bool
reads_input (Some (OnFile Edit)) = true
reads_input (Some (OnFile Take)) = true
reads_input _ = false

-- the command may store a file
abbrev pub may_store : Option Command → Bool
may_store (Some (New group me members)) = true
may_store (Some (OnFile Edit)) = true
may_store (Some (OnFile Take)) = true
may_store (Some (OnFile Leave)) = true
may_store _ = false

-- the command calls the keeper
abbrev pub calls_keeper : Option Command → Bool
calls_keeper (Some (New group me members)) = is_member_count members && nat_lt me members
calls_keeper (Some (OnFile c)) = true
calls_keeper _ = false

-- ---- what is seen of it

-- the lines that tell refused operations
abbrev pub refused_lines : List (ℕ × ℕ × Reason) → List ℕ
refused_lines refused = flat_map (λ r. refused_line r.0 r.1 r.2) refused

-- done, or done but for refused operations
abbrev pub made_status : List (ℕ × ℕ × Reason) → ℕ
made_status refused = if length refused == 0 then 0 else 5

abbrev pub due_status : Due → ℕ
due_status NoCommand = 1
due_status (Makes stored report refused) = made_status refused
due_status (Stops e) = error_status e

-- what is written to the errors
abbrev pub due_line : Due → List ℕ
due_line NoCommand = usage_line
due_line (Makes stored report refused) = refused_lines refused
due_line (Stops e) = error_line e
