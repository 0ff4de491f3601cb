-- A group and what its files stand for: the history of each member, and what waits beside it, from event to event; and which events there are.
-- Why: docs/DECISIONS.md, 116.
use Rattle.std.specs.Prelude.{ℕ, ◌==◌, Bool, true, false, List, [], ◌∷◌, slice_get, slice_set, Option, Some, None, Result, Ok, Err, if◌then◌else◌}
use Rattle.rls_ops.specs.declared.message.Message.{Message}
use Rattle.rls_codec.specs.Reading.{message_of}
use Rattle.rls_model.specs.EditRun.{Run, Done, Stopped}
use Rattle.rls_model.specs.Receiving.{State}
use Rattle.rls_model.specs.Taking.{take_message}
use Rattle.rls_model.specs.Worlds.{fresh_states}
use Rattle.rls_seen.specs.Seen.{Seen}
use Rattle.rls_report.specs.declared.failures.LineFault.{LineFault}
use Rattle.rls_script.specs.Scripts.{script_of}
use Rattle.rls_script.specs.declared.lines.Line.{Line}
use Rattle.rls_top.specs.declared.words.Command.{Command}
use Rattle.rls_top.specs.declared.words.Command.TheVariants.{OnFile}
use Rattle.rls_top.specs.declared.words.FileCommand.TheVariants.{Edit, Take, Leave}
use Rattle.rls_top.specs.Groups.{Group, fresh_group}
use Rattle.rls_top.specs.Scripts.{leave_in, script_in}
use Rattle.rls_top.specs.Words.{command_of}
use Rattle.rls_session.specs.Sessions.{by_history}
use Rattle.rls_groups.specs.Events.{Deed, Commands, Sits, Desk, Event, IsRun, after_run, deed_of, desk_after, empty_desk, session_at, stored_by}

-- the group, what the session of each member works on beside its replica, and a history with what waits beside it for each member
pub record Life : Type 0 where
  pub group : Group
  pub desks : ℕ → Desk
  pub states : List State

-- ---- what a run makes of a history

-- lines are run, or none is
abbrev pub run_to : State → Run State LineFault → State
run_to t (Done p) = p.state
run_to t (Stopped line fault) = t

abbrev pub after_script : State → Result (List Line) ℕ → State
after_script t (Ok lines) = run_to t (script_in t lines)
after_script t (Err line) = t

abbrev pub after_message : State → Result Message ℕ → State
after_message t (Ok m) = (take_message t m).state
after_message t (Err at) = t

abbrev pub after_words : Option Command → List ℕ → State → State
after_words (Some (OnFile Edit)) input t = after_script t (script_of input)
after_words (Some (OnFile Leave)) input t = run_to t (leave_in t)
after_words (Some (OnFile Take)) input t = after_message t (message_of input)
after_words c input t = t

abbrev pub after_deed : Deed → State → State
after_deed (Commands words input) t = after_words (command_of words) input t
after_deed (Sits desk input) t = ((session_at by_history t desk input).state).state

-- ---- from event to event

-- the member's state is this now, if there was one
abbrev pub states_at : List State → ℕ → Option State → (State → State) → List State
states_at ss i None after = ss
states_at ss i (Some t) after = slice_set ss i (after t)

-- it changes with the file
abbrev pub states_with : List State → ℕ → Option Seen → (State → State) → List State
states_with ss i None after = ss
states_with ss i (Some s) after = states_at ss i (slice_get ss i) after

abbrev pub states_run : Bool → Group → List State → ℕ → Deed → List State
states_run false g ss i deed = ss
states_run true g ss i deed = states_with ss i (stored_by g i deed) (after_deed deed)

-- and so does what its session works on
abbrev pub desks_run : Bool → Group → (ℕ → Desk) → ℕ → Deed → ℕ → Desk
desks_run false g desks i deed j = desks j
desks_run true g desks i deed j = if i == j then desk_after g i deed else desks j

abbrev pub deed_in : Life → Event → Deed
deed_in l e = deed_of (l.desks e.member) e.action

abbrev pub lived : Life → Event → Life
lived l e = let deed = deed_in l e in record { group = after_run e.done l.group e.member deed; desks = desks_run e.done l.group l.desks e.member deed; states = states_run e.done l.group l.states e.member deed }

abbrev pub lived_all : Life → List Event → Life
lived_all l [] = l
lived_all l (e ∷ es) = lived_all (lived l e) es

-- the files that `new` stores, to which nothing has happened
abbrev pub begun : ℕ → ℕ → Life
begun group members = record { group = fresh_group group members; desks = λ i. empty_desk; states = fresh_states group members members }

-- each of these events, one after another, is one of the group
abbrev pub AreOfGroup : Life → List Event → Type 0
AreOfGroup l [] = Unit {0}
AreOfGroup l (e ∷ es) = IsRun l.group e × AreOfGroup (lived l e) es
