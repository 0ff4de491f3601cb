-- One round of messages in a group: once nobody edits, members who have told one another what they have show the same.
-- Why: docs/DECISIONS.md, 245.
use Rattle.std.specs.Prelude.{◌≡◌, ◌<◌, ◌≤◌, ◌⊎◌, ◌↔◌, ℕ, List, [], ◌∷◌, ◌++◌, Some, true, IsFalse}
use Rattle.rls_ident.specs.declared.limits.TheConstants.{MEMBERS}
use Rattle.rls_ident.specs.Lists.{IsIn}
use Rattle.rls_ops.specs.declared.op.Op.{Op}
use Rattle.rls_ops.specs.Spelling.{message_bytes}
use Rattle.rls_model.specs.History.{History, count, has_left, ops, row}
use Rattle.rls_model.specs.Laws.{HaveSameOps, IsFront, ShowSame}
use Rattle.rls_model.specs.Receiving.{State}
use Rattle.rls_model.specs.Stability.{unstable}
use Rattle.rls_model.specs.Taking.{message_for, missing_for}
use Rattle.rls_model.specs.WellFormed.{IsLarge}
use Rattle.rls_seen.specs.Seen.{Seen}
use Rattle.rls_top.specs.declared.words.Command.TheVariants.{OnFile}
use Rattle.rls_top.specs.declared.words.FileCommand.TheVariants.{Send, Take}
use Rattle.rls_top.specs.Due.{shows}
use Rattle.rls_top.specs.Groups.{due_of}
use Rattle.rls_top.specs.Words.{command_of}
use Rattle.rls_session.specs.declared.orders.Order.TheVariants as orders
use Rattle.rls_session.specs.Courses.{holds}
use Rattle.rls_session.specs.Requests.{Request, Does, Takes}
use Rattle.rls_session.specs.Seats.{Seat, at_work, respond, seated}
use Rattle.rls_session.specs.Sessions.{by_history}
use Rattle.rls_groups.specs.Events.{Desk, Event, Performs, Sits, at_desk, stored_by}
use Rattle.rls_groups.specs.Groups.{GoesOn, IsHeld, IsTaken, WasHeld}
use Rattle.rls_groups.specs.Lives.{AreOfGroup, Life, begun, deed_in, lived_all}

-- ---- what members have

-- the member has the operation
abbrev pub Knows : Life → ℕ → Op → Type 0
Knows l i o = (t : State) × IsHeld l i t × IsIn o (ops t.history)

-- some member has it
abbrev pub IsKnown : Life → Op → Type 0
IsKnown l o = (i : ℕ) × Knows l i o

-- what anybody has, one of these members has
abbrev pub AreKnown : Life → List ℕ → Type 0
AreKnown l us = (o : Op) → IsKnown l o → (i : ℕ) × IsIn i us × Knows l i o

-- these members have the same operations and show the same, and nothing waits there
abbrev pub AreEqual : Life → List ℕ → Type 0
AreEqual l us = (i j : ℕ) (s t : State) → IsIn i us → IsIn j us → IsHeld l i s → IsHeld l j t →
    (count s.history ≡ count t.history) × HaveSameOps s.history t.history × ShowSame s.history t.history × (s.waiting ≡ []) × (t.waiting ≡ [])

-- ---- what they tell

-- of this history a member tells another one all that it has: it doesn't know that this one has left, and the message isn't cut off at the greatest
-- size
abbrev pub TellsAll : History → ℕ → Type 0
TellsAll H to = IsFalse (has_left H to) × ((message_for H to).ops ≡ missing_for (row H to) (unstable H))

-- between two moments a member makes this message for another one, of a history that it has then
pub record IsSent (l m : Life) (from to : ℕ) (bytes : List ℕ) : Type 0 where
  pub first : State
  pub first_is : IsHeld l from first
  pub sender : History
  pub since : IsFront first.history sender
  pub until : WasHeld m from sender
  pub tells : TellsAll sender to
  pub message : bytes ≡ message_bytes (message_for sender to)

-- a member takes this message, and what it makes of it is stored
pub record IsReceived (m : Life) (to : ℕ) (bytes : List ℕ) : Type 0 where
  pub before : State
  pub after : State
  pub taken : IsTaken before bytes after
  pub last : State
  pub last_is : IsHeld m to last
  pub goes_on : GoesOn after last

-- so one is sent and received
abbrev pub IsExchanged : Life → Life → ℕ → ℕ → Type 0
IsExchanged l m from to = (bytes : List ℕ) × IsSent l m from to bytes × IsReceived m to bytes

-- and its receiver is told the operation by one that has it then
abbrev pub IsTold : Life → Life → ℕ → Op → Type 0
IsTold l m to o = (from : ℕ) × (e : IsExchanged l m from to) × IsIn o (ops (e.1).sender)

-- by what a session answers to `s`, and takes
abbrev pub Exchanges : Life → Life → ℕ → Seat State → Request → Type 0
Exchanges l m i c (Does (orders.Send to)) = let H = ((at_work by_history c).state).history in TellsAll H to → IsSent l m i to (message_bytes (message_for H to))
Exchanges l m i c (Takes message) = IsReceived m i message
Exchanges l m i c request = Unit {0}

-- ---- the statements

-- the members of a group do all this, one after another
pub record AreEvents (group members : ℕ) (es : List Event) : Type 0 where
  pub large : IsLarge group
  pub some : 0 < members
  pub few : members ≤ MEMBERS
  pub events : AreOfGroup (begun group members) es

-- from the one moment to the other nobody edits: no operation is known then that wasn't before
abbrev pub NobodyEdits : Life → Life → Type 0
NobodyEdits l m = (o : Op) → IsKnown m o → IsKnown l o

-- what a group has come to by these events
abbrev pub after : ℕ → ℕ → List Event → Life
after group members es = lived_all (begun group members) es

-- what a `send` prints after some of the events is sent, if its history tells all
abbrev pub SendsTell : Type 0
SendsTell = (group members : ℕ) (es fs xs gs zs : List Event) (i to : ℕ) (t : State) (words : List (List ℕ)) (input report : List ℕ) → es ++ fs ≡ xs → xs ++ gs ≡ zs → AreEvents group members zs → let l = after group members xs in
    IsHeld l i t → command_of words ≡ Some (OnFile (Send to)) → due_of l.group i words input ≡ Some (shows report) → TellsAll t.history to → IsSent (after group members es) (after group members zs) i to report

-- what a `take` reads that stores its file is received
abbrev pub TakesReceive : Type 0
TakesReceive = (group members : ℕ) (ys hs zs : List Event) (e : Event) (words : List (List ℕ)) (input : List ℕ) (s : Seen) → ys ++ (e ∷ hs) ≡ zs → AreEvents group members zs → let l = after group members ys in
    e.done ≡ true → e.action ≡ Performs words input → command_of words ≡ Some (OnFile Take) → stored_by l.group e.member (deed_in l e) ≡ Some s → IsReceived (after group members zs) e.member input

-- so it is of what a session that stores its file answers to `s`, and of what it takes
abbrev pub SessionsExchange : Type 0
SessionsExchange = (group members : ℕ) (es fs ys hs zs : List Event) (e : Event) (desk : Desk) (input : List ℕ) (s : Seen) → es ++ fs ≡ ys → ys ++ (e ∷ hs) ≡ zs → AreEvents group members zs → let l = after group members ys in
    e.done ≡ true → deed_in l e ≡ Sits desk input → stored_by l.group e.member (deed_in l e) ≡ Some s →
    (t : State) × IsHeld l e.member t × holds (respond by_history) (λ c request. Exchanges (after group members es) (after group members zs) e.member c request) (seated (at_desk t desk)) input

-- a member that had each operation, or is told it, has just all of them in the end, and nothing waits for its causes there
abbrev pub AllTold : Type 0
AllTold = (group members : ℕ) (es fs : List Event) → AreEvents group members (es ++ fs) → let l = after group members es in let m = after group members (es ++ fs) in NobodyEdits l m →
    (i : ℕ) (s : State) → IsHeld m i s → ((o : Op) → IsKnown l o → Knows l i o ⊎ IsTold l m i o) → ((o : Op) → IsIn o (ops s.history) ↔ IsKnown l o) × (s.waiting ≡ [])

-- one round makes members equal, a message from each to each other one, in whatever order they come, and whatever was lost before or comes in
-- between
abbrev pub OneRound : Type 0
OneRound = (group members : ℕ) (es fs : List Event) (us : List ℕ) → AreEvents group members (es ++ fs) → let l = after group members es in let m = after group members (es ++ fs) in
    NobodyEdits l m → AreKnown l us → ((i j : ℕ) → IsIn i us → IsIn j us → (i ≡ j → ⊥) → IsExchanged l m i j) → AreEqual m us

-- and so does a message from each to one member, and then one from this member to each
abbrev pub OneHub : Type 0
OneHub = (group members : ℕ) (es fs hs : List Event) (us : List ℕ) (hub : ℕ) → AreEvents group members (es ++ (fs ++ hs)) →
    let l = after group members es in let m = after group members (es ++ fs) in let n = after group members (es ++ (fs ++ hs)) in
    NobodyEdits l n → AreKnown l us → ((i : ℕ) → IsIn i us → (i ≡ hub → ⊥) → IsExchanged l m i hub × IsExchanged m n hub i) → AreEqual n us
