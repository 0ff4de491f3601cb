-- Worlds: the states of all members, and every message that was ever sent.
-- Why: docs/DECISIONS.md, 12.
use Rattle.std.specs.Prelude.{◌≡◌, ℕ, zero, suc, List, [], ◌∷◌, ◌++◌, length, nat_lt, slice_get, slice_set, Option, Some, None, if◌then◌else◌}
use Rattle.rls_ops.specs.declared.message.Message.{Message}
use Rattle.rls_model.specs.declared.edit.Edit.{Edit}
use Rattle.rls_model.specs.declared.edit.EditError.{EditError}
use Rattle.rls_model.specs.declared.event.Event.{Event}
use Rattle.rls_model.specs.declared.event.Event.TheVariants as events
use Rattle.rls_model.specs.declared.event.Outcome.{Outcome}
use Rattle.rls_model.specs.declared.event.Outcome.TheVariants as outcomes
use Rattle.rls_model.specs.declared.event.StepError.{StepError}
use Rattle.rls_model.specs.declared.event.StepError.TheVariants as faults
use Rattle.rls_model.specs.History.{Fresh}
use Rattle.rls_model.specs.Receiving.{State}
use Rattle.rls_model.specs.Editing.{edit_fault, next_seq}
use Rattle.rls_model.specs.Taking.{Limit, take_within, taken, message_for}
use Rattle.rls_model.specs.EditRun.{edit_within}
use Rattle.rls_model.specs.WellFormed.{IsEvent}

-- the state of each member, and the sent messages
pub record World : Type 0 where
  pub states : List State
  pub sent : List Message

-- the states of the members below n, to whom nothing has happened
abbrev pub fresh_states : ℕ → ℕ → ℕ → List State
fresh_states group members zero = []
fresh_states group members (suc n) = fresh_states group members n ++ record { history = Fresh group n members; waiting = [] } ∷ []

-- the world of members to whom nothing has happened
abbrev pub empty_world : ℕ → ℕ → World
empty_world group members = record { states = fresh_states group members members; sent = [] }

-- ---- faults

-- no such member
abbrev pub member_fault : World → ℕ → Option StepError
member_fault w i = if nat_lt i (length w.states) then None else Some (faults.NoMember i)

-- no such message
abbrev pub message_fault : World → ℕ → Option StepError
message_fault w k = if nat_lt k (length w.sent) then None else Some (faults.NoMessage k)

-- the first of two faults
abbrev pub or_else : Option StepError → Option StepError → Option StepError
or_else (Some e) f = Some e
or_else None f = f

-- the fault of an edit as one of an event
abbrev pub of_edit : Option EditError → Option StepError
of_edit None = None
of_edit (Some e) = Some (faults.Edit e)

-- the fault of an edit at this state, where there is one
abbrev pub edit_fault_at : Option State → Edit → Option StepError
edit_fault_at None edit = None
edit_fault_at (Some s) edit = of_edit (edit_fault s.history edit)

-- the first fault of the event
abbrev pub fault_of : World → Event → Option StepError
fault_of w (events.Edit i edit) = or_else (member_fault w i) (edit_fault_at (slice_get w.states i) edit)
fault_of w (events.Send from to) = or_else (member_fault w from) (member_fault w to)
fault_of w (events.Deliver k to) = or_else (member_fault w to) (message_fault w k)
fault_of w (events.Drop i) = member_fault w i

-- ---- events

-- the world with another state of the member
abbrev pub with_state : World → ℕ → State → World
with_state w i s = record w { states = slice_set w.states i s }

-- a member edits, at its state
abbrev pub edit_at : Limit → World → ℕ → Option State → Edit → World
edit_at limit w i None edit = w
edit_at limit w i (Some s) edit = with_state w i (edit_within limit s edit).state

-- a message is sent by the member with this state, in one step
abbrev pub send_at : Limit → World → Option State → ℕ → World
send_at (Some zero) w (Some s) to = w
send_at limit w (Some s) to = record w { sent = w.sent ++ message_for s.history to ∷ [] }
send_at limit w None to = w

-- a message is delivered to a member, at its state
abbrev pub deliver_at : Limit → World → ℕ → Option State → Option Message → World
deliver_at limit w i (Some s) (Some m) = with_state w i (take_within limit s m).state
deliver_at limit w i _ _ = w

-- an event without a fault, in at most this many steps
abbrev pub step_of : Limit → World → Event → World
step_of limit w (events.Edit i edit) = edit_at limit w i (slice_get w.states i) edit
step_of limit w (events.Send from to) = send_at limit w (slice_get w.states from) to
step_of limit w (events.Deliver k to) = deliver_at limit w to (slice_get w.states to) (slice_get w.sent k)
step_of limit w (events.Drop i) = w

-- nothing happens where there is a fault
abbrev pub unless : Option StepError → World → World → World
unless None w w' = w'
unless (Some e) w w' = w

-- the world after an event
unfoldable pub happens : Limit → World → Event → World
happens limit w e = unless (fault_of w e) w (step_of limit w e)

-- the world is one after some number of the steps of the event, as want of memory leaves it
abbrev pub IsPartHappened : World → Event → World → Type 0
IsPartHappened w e v = (n : ℕ) × (happens (Some n) w e ≡ v)

-- an event, whole where it has no limit, else cut short after that many of its steps
pub record Happening : Type 0 where
  pub event : Event
  pub limit : Limit

-- an event that is not cut short
abbrev pub whole : Event → Happening
whole e = record { event = e; limit = None }

-- the world after a list of events
abbrev pub run : World → List Happening → World
run w [] = w
run w (h ∷ hs) = run (happens h.limit w h.event) hs

-- each event is well formed
abbrev pub AreEvents : List Happening → Type 0
AreEvents [] = Unit {0}
AreEvents (h ∷ hs) = IsEvent h.event × AreEvents hs

-- no event is cut short
abbrev pub AreWhole : List Happening → Type 0
AreWhole [] = Unit {0}
AreWhole (h ∷ hs) = (h.limit ≡ None) × AreWhole hs

-- ---- outcomes

-- the number of the operation that a member with this state makes
abbrev pub edit_outcome : Option State → Outcome
edit_outcome None = outcomes.Dropped
edit_outcome (Some s) = outcomes.Made (next_seq s.history)

-- what comes of taking the message at this state
abbrev pub deliver_outcome : Option State → Option Message → Outcome
deliver_outcome (Some s) (Some m) = outcomes.Took (taken (take_within None s m))
deliver_outcome _ _ = outcomes.Dropped

-- the outcome of an event without a fault: the new operation's number, the new message's place, or what was taken
abbrev pub outcome_of : World → Event → Outcome
outcome_of w (events.Edit i edit) = edit_outcome (slice_get w.states i)
outcome_of w (events.Send from to) = outcomes.Sent (length w.sent)
outcome_of w (events.Deliver k to) = deliver_outcome (slice_get w.states to) (slice_get w.sent k)
outcome_of w (events.Drop i) = outcomes.Dropped
