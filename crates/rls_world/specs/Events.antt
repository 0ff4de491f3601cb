-- Events of a world and what comes of them, read over what the world consists of.
-- Why: docs/DECISIONS.md, 12.
use Rattle.std.specs.Prelude.{◌≡◌, ◌⊎◌, ℕ, ◌+◌, List, [], ◌∷◌, ◌++◌, length, nat_lt, slice_get, slice_set, Option, Some, None, Result, Ok, Err, if◌then◌else◌}
use Rattle.rls_ops.specs.declared.message.Message.{Message}
use Rattle.rls_model.specs.declared.edit.Edit.{Edit}
use Rattle.rls_model.specs.declared.event.Event.{Event}
use Rattle.rls_model.specs.declared.event.Event.TheVariants as events
use Rattle.rls_model.specs.declared.event.Outcome.{Outcome}
use Rattle.rls_model.specs.declared.event.Outcome.TheVariants as outcomes
use Rattle.rls_model.specs.declared.event.StepError.{StepError}
use Rattle.rls_model.specs.declared.event.StepError.TheVariants as faults
use Rattle.rls_model.specs.Worlds.{or_else, of_edit}
use Rattle.rls_seen.specs.Seen.{Seen, own_count}
use Rattle.rls_seen.specs.Over.{released_all, IsPartReleased}
use Rattle.rls_seen.specs.Edits.{edited, edit_fault_over}
use Rattle.rls_seen.specs.Messages.{message_over, taken_over, taken_of, IsPartTaken}
use Rattle.rls_seen.specs.Kept.{dropped}
use Rattle.rls_world.specs.Seen.{WorldSeen}

-- ---- faults

-- no such member
abbrev pub member_fault : WorldSeen → ℕ → Option StepError
member_fault w i = if nat_lt i (length w.replicas) then None else Some (faults.NoMember i)

-- no such message
abbrev pub message_fault : WorldSeen → ℕ → Option StepError
message_fault w k = if nat_lt k (length w.sent) then None else Some (faults.NoMessage k)

-- the fault of an edit at this replica, where there is one
abbrev pub edit_fault_at : Option Seen → Edit → Option StepError
edit_fault_at None edit = None
edit_fault_at (Some s) edit = of_edit (edit_fault_over s edit)

-- the first fault of the event
abbrev pub fault_over : WorldSeen → Event → Option StepError
fault_over w (events.Edit i edit) = or_else (member_fault w i) (edit_fault_at (slice_get w.replicas i) edit)
fault_over w (events.Send from to) = or_else (member_fault w from) (member_fault w to)
fault_over w (events.Deliver k to) = or_else (member_fault w to) (message_fault w k)
fault_over w (events.Drop i) = member_fault w i

-- ---- what becomes of the world

-- another replica of the member
abbrev pub with_replica : WorldSeen → ℕ → Seen → WorldSeen
with_replica w i s = record { replicas = slice_set w.replicas i s; sent = w.sent }

-- a member edits, and releases what is ready then
abbrev pub edited_at : WorldSeen → ℕ → Option Seen → Edit → WorldSeen
edited_at w i None edit = w
edited_at w i (Some s) edit = with_replica w i (released_all (edited s edit))

-- the member with this replica sends
abbrev pub sent_at : WorldSeen → Option Seen → ℕ → WorldSeen
sent_at w None to = w
sent_at w (Some s) to = record { replicas = w.replicas; sent = w.sent ++ message_over s to ∷ [] }

-- a member takes a message
abbrev pub delivered_at : WorldSeen → ℕ → Option Seen → Option Message → WorldSeen
delivered_at w i (Some s) (Some m) = with_replica w i (taken_over s m).state
delivered_at w i _ _ = w

-- a member drops what is stable
abbrev pub dropped_at : WorldSeen → ℕ → Option Seen → WorldSeen
dropped_at w i None = w
dropped_at w i (Some s) = with_replica w i (dropped s)

-- after an event without a fault
unfoldable pub happened : WorldSeen → Event → WorldSeen
happened w (events.Edit i edit) = edited_at w i (slice_get w.replicas i) edit
happened w (events.Send from to) = sent_at w (slice_get w.replicas from) to
happened w (events.Deliver k to) = delivered_at w to (slice_get w.replicas to) (slice_get w.sent k)
happened w (events.Drop i) = dropped_at w i (slice_get w.replicas i)

-- ---- what is answered

abbrev pub edit_outcome : Option Seen → Outcome
edit_outcome None = outcomes.Dropped
edit_outcome (Some s) = outcomes.Made (own_count s + 1)

abbrev pub deliver_outcome : Option Seen → Option Message → Outcome
deliver_outcome (Some s) (Some m) = outcomes.Took (taken_of (taken_over s m))
deliver_outcome _ _ = outcomes.Dropped

-- the outcome of an event without a fault
unfoldable pub outcome_over : WorldSeen → Event → Outcome
outcome_over w (events.Edit i edit) = edit_outcome (slice_get w.replicas i)
outcome_over w (events.Send from to) = outcomes.Sent (length w.sent)
outcome_over w (events.Deliver k to) = deliver_outcome (slice_get w.replicas to) (slice_get w.sent k)
outcome_over w (events.Drop i) = outcomes.Dropped

-- the event failed for this reason, unless memory ran out
abbrev pub IsFault : StepError → Option StepError → Type 0
IsFault faults.OutOfMemory fault = Unit {0}
IsFault e fault = fault ≡ Some e

-- ---- cut short, in case of want of memory

-- after some of the steps of an edit and of the releases after it
abbrev pub IsPartEdited : Seen → Edit → Seen → Type 0
IsPartEdited old edit new = (new ≡ old) ⊎ ((edit_fault_over old edit ≡ None) × IsPartReleased (edited old edit) new)

-- the replica of the member came so far
abbrev pub HasPart : WorldSeen → ℕ → Option Seen → (Seen → Seen → Type 0) → WorldSeen → Type 0
HasPart old i None part new = ⊥
HasPart old i (Some s) part new = (r : Seen) × part s r × (new ≡ with_replica old i r)

-- some of the steps of taking the message
abbrev pub PartTaken : Option Message → Seen → Seen → Type 0
PartTaken None s r = ⊥
PartTaken (Some m) s r = IsPartTaken s m r

-- after some of the steps of the event, one at least
abbrev pub IsPart : WorldSeen → Event → WorldSeen → Type 0
IsPart old (events.Edit i edit) new = HasPart old i (slice_get old.replicas i) (λ s r. IsPartEdited s edit r) new
IsPart old (events.Send from to) new = ⊥
IsPart old (events.Deliver k to) new = HasPart old to (slice_get old.replicas to) (PartTaken (slice_get old.sent k)) new
IsPart old (events.Drop i) new = ⊥

-- the event is answered so, and this becomes of the world
abbrev pub IsStep : WorldSeen → Event → Result Outcome StepError → WorldSeen → Type 0
IsStep old e (Ok o) new = (fault_over old e ≡ None) × (o ≡ outcome_over old e) × (new ≡ happened old e)
IsStep old e (Err faults.OutOfMemory) new = (new ≡ old) ⊎ ((fault_over old e ≡ None) × IsPart old e new)
IsStep old e (Err f) new = (fault_over old e ≡ Some f) × (new ≡ old)

-- ---- at one replica, and at the messages

-- an edit is answered so, and this becomes of the replica
abbrev pub IsEdited : Seen → Edit → Result Outcome StepError → Seen → Type 0
IsEdited old edit (Ok (outcomes.Made n)) new = (edit_fault_over old edit ≡ None) × (n ≡ own_count old + 1) × (new ≡ released_all (edited old edit))
IsEdited old edit (Err faults.OutOfMemory) new = IsPartEdited old edit new
IsEdited old edit (Err (faults.Edit e)) new = (edit_fault_over old edit ≡ Some e) × (new ≡ old)
IsEdited old edit _ new = ⊥

-- a message is taken with this answer
abbrev pub IsDelivered : Seen → Message → Result Outcome StepError → Seen → Type 0
IsDelivered old m (Ok (outcomes.Took t)) new = (t ≡ taken_of (taken_over old m)) × (new ≡ (taken_over old m).state)
IsDelivered old m (Err faults.OutOfMemory) new = (new ≡ old) ⊎ IsPartTaken old m new
IsDelivered old m _ new = ⊥

-- a message is put after others with this answer
abbrev pub IsPut : List Message → Message → Result Outcome StepError → List Message → Type 0
IsPut old m (Ok (outcomes.Sent k)) new = (k ≡ length old) × (new ≡ old ++ m ∷ [])
IsPut old m (Err faults.OutOfMemory) new = new ≡ old
IsPut old m _ new = ⊥
