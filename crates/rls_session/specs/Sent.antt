-- The messages that a session answers.
use Rattle.std.specs.Prelude.{◌≡◌, ◌<◌, ℕ, List, [], ◌∷◌, length, take}
use Rattle.rls_ops.specs.Spelling.{message_bytes}
use Rattle.rls_codec.specs.CodecLaws.{IsMessage}
use Rattle.rls_seen.specs.Messages.{message_over, message_told_over}
use Rattle.rls_seen.specs.Seen.{Seen, members}
use Rattle.rls_session.specs.declared.orders.Order.TheVariants.{Send, SendTold}
use Rattle.rls_session.specs.Answers.{Sitting}
use Rattle.rls_session.specs.Courses.{Stretch, holds}
use Rattle.rls_session.specs.Requests.{Request, Does}
use Rattle.rls_session.specs.Seats.{Seat, at_work, respond, stretches_by}
use Rattle.rls_session.specs.Sessions.{by_parts}

-- the bytes for this member, if there is one, are its message, so that they are read as it
abbrev pub CanSend : Seen → ℕ → Type 0
CanSend s to = to < members s → IsMessage (message_bytes (message_over s to)) (message_over s to)

-- and so are those for one that told these counts
abbrev pub CanSendTold : Seen → ℕ → List ℕ → Type 0
CanSendTold s to told = length told ≡ members s → to < members s → IsMessage (message_bytes (message_told_over s to told)) (message_told_over s to told)

-- what is answered to a request for a message is one
abbrev pub SendsMessage : Sitting Seen → Request → Type 0
SendsMessage d (Does (Send to)) = CanSend d.state to
SendsMessage d (Does (SendTold to told)) = CanSendTold d.state to told
SendsMessage d request = Unit {0}

-- once the draft is made
abbrev pub SendsFrom : Seat Seen → Request → Type 0
SendsFrom b request = SendsMessage (at_work by_parts b) request

-- to each such request of these stretches
abbrev pub SendMessages : List (Stretch (Seat Seen)) → Type 0
SendMessages [] = Unit {0}
SendMessages (a ∷ others) = holds (respond by_parts) SendsFrom a.state a.input × SendMessages others

-- to each such request of an input, from this sitting on
abbrev pub SendsMessages : Sitting Seen → List ℕ → Type 0
SendsMessages d given = SendMessages (stretches_by by_parts d given)

-- to each such request up to the k-th store
abbrev pub SendsBefore : ℕ → Sitting Seen → List ℕ → Type 0
SendsBefore k d given = SendMessages (take k (stretches_by by_parts d given))
