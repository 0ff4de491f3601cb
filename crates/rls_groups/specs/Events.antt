-- What one run of the program leaves in a group: a command, or a session from store to store.
-- Why: docs/DECISIONS.md, 91.
use Rattle.std.specs.Prelude.{◌≡◌, ◌<◌, ◌-◌, ℕ, zero, suc, Bool, true, false, List, [], ◌∷◌, ◌++◌, ◌==◌, length, nat_lt, slice_get, Option, Some, None, Result, Ok, Err, IfOk, IsTrue, if◌then◌else◌}
use Rattle.rls_ident.specs.Lists.{IsIn}
use Rattle.rls_ops.specs.Spelling.{message_bytes}
use Rattle.rls_codec.specs.CodecLaws.{IsBytes}
use Rattle.rls_seen.specs.Messages.{message_over, message_told_over}
use Rattle.rls_seen.specs.Seen.{Seen, members}
use Rattle.rls_undo.specs.declared.entry.Entry.{Entry}
use Rattle.rls_undo.specs.UndoLaws.{AreWhole}
use Rattle.rls_steps.specs.GroundLaws as steps
use Rattle.rls_steps.specs.Recorded.{Recorded, unused}
use Rattle.rls_report.specs.declared.failures.CommandError.{CommandError}
use Rattle.rls_stages.specs.KeptFile.{loaded, replica_in}
use Rattle.rls_top.specs.declared.words.Command.{Command}
use Rattle.rls_top.specs.declared.words.Command.TheVariants.{OnFile}
use Rattle.rls_top.specs.declared.words.FileCommand.TheVariants.{Take}
use Rattle.rls_top.specs.Due.{Due}
use Rattle.rls_top.specs.Groups.{Group, due_of, files_with, messages_in, stored_in}
use Rattle.rls_top.specs.Words.{command_of}
use Rattle.rls_session.specs.declared.orders.Order.TheVariants as orders
use Rattle.rls_session.specs.declared.orders.Order.TheVariants.{Quit, Store}
use Rattle.rls_session.specs.declared.cursors.Cursor.{Cursor}
use Rattle.rls_session.specs.Answers.{Kind, Sitting, resumed}
use Rattle.rls_session.specs.Courses.{Answered, Course, holds}
use Rattle.rls_session.specs.Desks.{AreKept, IsWhole}
use Rattle.rls_session.specs.Due as session
use Rattle.rls_session.specs.Due.{due_of as due_of_course, stops}
use Rattle.rls_session.specs.Requests.{Request, Does, Takes, cut}
use Rattle.rls_session.specs.Seats.{Seat, at_work, course_at, respond, seated}
use Rattle.rls_session.specs.Sessions.{by_parts}

-- ---- sessions

-- What a session works on beside the replica. At its beginning that is nothing that can be undone, no cursor that was put, no step that is
-- recorded, and that changes aren't told. A session that stores more than once begins what follows a store with what it has then. A draft of
-- its editor's changes isn't among it: that is made before each store.
pub record Desk : Type 0 where
  pub entries : List Entry
  pub cursors : List Cursor
  pub recorded : Recorded
  pub tells : Bool

abbrev pub empty_desk : Desk
empty_desk = record { entries = []; cursors = []; recorded = unused; tells = false }

abbrev pub at_desk : {X : Type 0} → X → Desk → Sitting X
at_desk s desk = record { state = s; entries = desk.entries; cursors = desk.cursors; recorded = desk.recorded; tells = desk.tells }

abbrev pub desk_of : {X : Type 0} → Sitting X → Desk
desk_of d = record { entries = d.entries; cursors = d.cursors; recorded = d.recorded; tells = d.tells }

-- the session from this state and desk over this input, up to its next store, before which its draft is made
abbrev pub session_at : {X : Type 0} → Kind X → X → Desk → List ℕ → Course (Sitting X)
session_at K s desk input = course_at K (at_desk s desk) input

-- the replica that the member's file says
abbrev pub replica_at : Group → ℕ → Result Seen CommandError
replica_at g i = replica_in (loaded (slice_get g.files i))

-- what a session calls for at this replica, if there is one
abbrev pub due_on : Result Seen CommandError → Desk → List ℕ → session.Due
due_on (Ok s) desk input = due_of_course (session_at by_parts s desk input)
due_on (Err e) desk input = stops e

-- what it works on after its next store, if it comes to one: without what every member has
abbrev pub desk_by : Result Seen CommandError → Sitting Seen → Desk
desk_by (Ok s) d = desk_of (resumed by_parts d)
desk_by (Err e) d = empty_desk

abbrev pub desk_on : Result Seen CommandError → Desk → List ℕ → Desk
desk_on (Ok s) desk input = let c = session_at by_parts s desk input in desk_by (due_of_course c).ending c.state
desk_on (Err e) desk input = empty_desk

-- what it calls for over the member's file
abbrev pub session_due : Group → ℕ → Desk → List ℕ → session.Due
session_due g i desk input = due_on (replica_at g i) desk input

-- ---- the messages of a session

-- what is gathered from the requests of an input, up to the next order to store or to quit, and the states before them
abbrev pub gathered_on : {S A : Type 0} → (S → Request → Answered S) → (S → Request → List A) → S → Request → (S → List A) → List A
gathered_on answer f s (Does Quit) rest = []
gathered_on answer f s (Does Store) rest = []
gathered_on answer f s request rest = f s request ++ rest (answer s request).state

abbrev pub gathered_from : {S A : Type 0} → (S → Request → Answered S) → (S → Request → List A) → ℕ → S → List ℕ → List A
gathered_from answer f n s [] = []
gathered_from answer f (suc n) s (b ∷ bytes) = gathered_from answer f n s bytes
gathered_from answer f zero s (b ∷ bytes) = gathered_on answer f s (cut (b ∷ bytes)).request (λ t. gathered_from answer f ((cut (b ∷ bytes)).size - 1) t bytes)

-- the message with which a request is answered, if it asks for one
abbrev pub replied : Sitting Seen → Request → List (List ℕ)
replied d (Does (orders.Edit line)) = []
replied d (Does (orders.Change at n cs)) = []
replied d (Does orders.Undo) = []
replied d (Does orders.Back) = []
replied d (Does orders.Again) = []
replied d (Does orders.Close) = []
replied d (Does (orders.Point side at n)) = []
replied d (Does (orders.Place n)) = []
replied d (Does (orders.Spell at)) = []
replied d (Does (orders.Locate place)) = []
replied d (Does orders.Text) = []
replied d (Does (orders.Take len)) = []
replied d (Does (orders.Send to)) = if nat_lt to (members d.state) then message_bytes (message_over d.state to) ∷ [] else []
replied d (Does (orders.SendTold to told)) = if length told == members d.state then (if nat_lt to (members d.state) then message_bytes (message_told_over d.state to told) ∷ [] else []) else []
replied d (Does (orders.Tell on)) = []
replied d (Does orders.Stat) = []
replied d (Does orders.Costs) = []
replied d (Does (orders.Version n)) = []
replied d (Does orders.Store) = []
replied d (Does orders.Quit) = []
replied d (Does orders.Bad) = []
replied d (Takes message) = []

-- the draft is made before it, so that the message has what the editor changed
abbrev pub replied_from : Seat Seen → Request → List (List ℕ)
replied_from b request = replied (at_work by_parts b) request

-- the messages that a session answers
abbrev pub replied_at : Seen → Desk → List ℕ → List (List ℕ)
replied_at s desk input = gathered_from (respond by_parts) replied_from 0 (seated (at_desk s desk)) input

-- ---- what a run does

-- with what a session works on
pub data Deed : Type 0 where
  -- a command, by its words and its input
  Commands : (words : List (List ℕ)) → (input : List ℕ) → Deed
  -- a session, or what follows a store in one, by its input up to its next store, or to where it ends, be that at any byte
  Sits : (desk : Desk) → (input : List ℕ) → Deed

-- the replica whose file is stored, if one is
abbrev pub stored_of : Option Due → Option Seen
stored_of None = None
stored_of (Some d) = stored_in d

abbrev pub saved_of : Result Seen CommandError → Option Seen
saved_of (Ok s) = Some s
saved_of (Err e) = None

abbrev pub stored_by : Group → ℕ → Deed → Option Seen
stored_by g i (Commands words input) = stored_of (due_of g i words input)
stored_by g i (Sits desk input) = saved_of (session_due g i desk input).ending

-- the messages that may be handed on: what a `send` prints, and what a session answers before it stores
abbrev pub printed_of : Option Command → Option Due → List (List ℕ)
printed_of c None = []
printed_of c (Some d) = messages_in c d

abbrev pub saved_with : Result Seen CommandError → List (List ℕ) → List (List ℕ)
saved_with (Ok s) messages = messages
saved_with (Err e) messages = []

abbrev pub replied_on : Result Seen CommandError → Desk → List ℕ → List (List ℕ)
replied_on (Ok s) desk input = replied_at s desk input
replied_on (Err e) desk input = []

abbrev pub written_by : Group → ℕ → Deed → List (List ℕ)
written_by g i (Commands words input) = printed_of (command_of words) (due_of g i words input)
written_by g i (Sits desk input) = saved_with (session_due g i desk input).ending (replied_on (replica_at g i) desk input)

-- what the member's session works on from then on. After a command there is no session
abbrev pub desk_after : Group → ℕ → Deed → Desk
desk_after g i (Commands words input) = empty_desk
desk_after g i (Sits desk input) = desk_on (replica_at g i) desk input

-- the group after it, if it is done
abbrev pub after_run : Bool → Group → ℕ → Deed → Group
after_run false g i deed = g
after_run true g i deed = record { files = files_with g.files i (stored_by g i deed); written = g.written ++ written_by g i deed }

-- ---- events

-- What a member does: it performs a command, by its words and its input; or begins a session, by its input up to its first store, or to where
-- it ends, be that at any byte; or its session, which has stored, goes on over its input up to its next store, or to where it ends.
pub data Action : Type 0 where
  Performs : (words : List (List ℕ)) → (input : List ℕ) → Action
  Begins : (input : List ℕ) → Action
  Resumes : (input : List ℕ) → Action

-- if this is what the member's session works on
abbrev pub deed_of : Desk → Action → Deed
deed_of desk (Performs words input) = Commands words input
deed_of desk (Begins input) = Sits empty_desk input
deed_of desk (Resumes input) = Sits desk input

-- A member's run over its own file. It is done if what it is to store was stored, and what a `send` is to print was printed. Else it left
-- the file as it was: a device failed, memory ran out, or the machine stopped before. A session is done as soon as its file is stored, so
-- it stands where that happens; until then its file belongs to it alone. One that stores several times is an event for each of its stores,
-- and others may stand between.
pub record Event : Type 0 where
  pub member : ℕ
  pub action : Action
  pub done : Bool

-- ---- which events there are

-- a session takes what may be handed on; of its other requests nothing is asked
abbrev pub IsWritten : Group → Request → Type 0
IsWritten g (Does (orders.Edit line)) = Unit {0}
IsWritten g (Does (orders.Change at n cs)) = Unit {0}
IsWritten g (Does orders.Undo) = Unit {0}
IsWritten g (Does orders.Back) = Unit {0}
IsWritten g (Does orders.Again) = Unit {0}
IsWritten g (Does orders.Close) = Unit {0}
IsWritten g (Does (orders.Point side at n)) = Unit {0}
IsWritten g (Does (orders.Place n)) = Unit {0}
IsWritten g (Does (orders.Spell at)) = Unit {0}
IsWritten g (Does (orders.Locate place)) = Unit {0}
IsWritten g (Does orders.Text) = Unit {0}
IsWritten g (Does (orders.Take len)) = Unit {0}
IsWritten g (Does (orders.Send to)) = Unit {0}
IsWritten g (Does (orders.SendTold to told)) = Unit {0}
IsWritten g (Does (orders.Tell on)) = Unit {0}
IsWritten g (Does orders.Stat) = Unit {0}
IsWritten g (Does orders.Costs) = Unit {0}
IsWritten g (Does (orders.Version n)) = Unit {0}
IsWritten g (Does orders.Store) = Unit {0}
IsWritten g (Does orders.Quit) = Unit {0}
IsWritten g (Does orders.Bad) = Unit {0}
IsWritten g (Takes message) = IsIn message g.written

-- which requests come doesn't depend on what is answered to them
abbrev pub unanswered : Unit {0} → Request → Answered (Unit {0})
unanswered u request = record { reply = []; state = u }

-- each message that is taken, up to the next order to store or to quit
abbrev pub AreWritten : Group → List ℕ → Type 0
AreWritten g input = holds unanswered (λ u request. IsWritten g request) tt input

-- what a run is given: messages that may be handed on, for whomever they are, and whether or not they were taken before; and a session
-- is given bytes
abbrev pub IsGiven : Group → Action → Type 0
IsGiven g (Performs words input) = command_of words ≡ Some (OnFile Take) → IsIn input g.written
IsGiven g (Begins input) = IsBytes input × AreWritten g input
IsGiven g (Resumes input) = IsBytes input × AreWritten g input

pub record IsOfGroup (g : Group) (i : ℕ) (action : Action) : Type 0 where
  pub member : i < length g.files
  pub given : IsGiven g action

-- nothing is asked of one that left all as it was
abbrev pub IsRun : Group → Event → Type 0
IsRun g e = IsTrue e.done → IsOfGroup g e.member e.action

-- ---- a session over any desk

-- what it works on goes back to nothing that the replica has dropped
pub record IsUsable (s : Seen) (desk : Desk) : Type 0 where
  pub whole : IsWhole s desk.entries desk.cursors
  pub texts : AreWhole desk.entries
  pub kept : AreKept s (desk.recorded).epoch (desk.recorded).names
  pub spelled : steps.IsWhole desk.recorded

-- over the file of a member, and given messages that may be handed on
pub record IsSession (g : Group) (i : ℕ) (desk : Desk) (input : List ℕ) : Type 0 where
  pub member : i < length g.files
  pub usable : IfOk (replica_at g i) (λ s. IsUsable s desk)
  pub bytes : IsBytes input
  pub written : AreWritten g input
