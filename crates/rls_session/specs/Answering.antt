-- The requests of an input, answered one after another by what was taken of it.
use Rattle.std.specs.Prelude.{◌≡◌, ◌<◌, ◌≤◌, ◌⊎◌, ◌+◌, ◌++◌, ℕ, suc, Bool, true, false, IsFalse, List, [], length, drop, Option, Some, None, IfSome}
use Rattle.std.specs.List.{position_or_len, before_first}
use Rattle.rls_ident.specs.declared.limits.TheConstants.{INPUT_BYTES}
use Rattle.rls_io.specs.Device.{Appends, Keeps}
use Rattle.rls_io.specs.declared.reading.ReadError.{ReadError}
use Rattle.rls_io.specs.declared.reading.ReadError.TheVariants as read
use Rattle.rls_report.specs.declared.failures.CommandError.TheVariants as command
use Rattle.rls_report.specs.declared.failures.Failure.{Failure}
use Rattle.rls_report.specs.declared.failures.Failure.TheVariants as failures
use Rattle.rls_report.specs.declared.failures.Fault.TheVariants as faults
use Rattle.rls_script.specs.Scripts.{is_line_feed}
use Rattle.rls_session.specs.declared.answering.AnswerError.{AnswerError}
use Rattle.rls_session.specs.declared.answering.AnswerError.TheVariants.{SourceFault, SinkFault, TooLarge, OutOfMemory}
use Rattle.rls_session.specs.declared.answering.Halt.{Halt}
use Rattle.rls_session.specs.declared.answering.Halt.TheVariants.{Store, End}
use Rattle.rls_session.specs.declared.orders.Order.{Order}
use Rattle.rls_session.specs.declared.orders.Order.TheVariants as orders
use Rattle.rls_session.specs.Courses.{Answered, Course, course}
use Rattle.rls_session.specs.Intake.{IntakeSeen, known_come, to_come}
use Rattle.rls_session.specs.Orders.{order_of}
use Rattle.rls_session.specs.Requests.{Request, line_size, cut_after}

-- why a session ends if its input isn't read on
abbrev pub of_read : ReadError → AnswerError
of_read read.Fault = SourceFault
of_read read.TooLarge = TooLarge
of_read read.OutOfMemory = OutOfMemory

-- how that is told
abbrev pub of_answer : AnswerError → Failure
of_answer SourceFault = failures.Fault faults.Source
of_answer SinkFault = failures.Fault faults.Sink
of_answer TooLarge = failures.Command command.TooLarge
of_answer OutOfMemory = failures.Fault faults.Memory

-- whether requests came to an order to store
abbrev pub is_store : Halt → Bool
is_store Store = true
is_store End = false

-- this was the answer
pub record IsAnswered {S : Type 0} (due : Answered S) (reply : List ℕ) (s : S) : Type 0 where
  pub reply_is : reply ≡ due.reply
  pub state_is : s ≡ due.state

-- all that belongs to an order is in what follows its line
abbrev pub HasAll : Order → List ℕ → Type 0
HasAll (orders.Take n) rest = n ≤ length rest
HasAll order rest = Unit {0}

-- n bytes of what was to come are used
pub record IsPast (bytes : List ℕ) (n : ℕ) (old new : IntakeSeen) (left : Option (List ℕ)) : Type 0 where
  pub rest : to_come new left ≡ Some (drop n bytes)
  pub used : new.used ≡ old.used + n

-- the order of the next line, which is used, and which ends within what a session goes through
pub record IsOrder (bytes : List ℕ) (order : Order) (old new : IntakeSeen) (left : Option (List ℕ)) : Type 0 where
  pub some : 0 < length bytes
  pub order_is : order ≡ order_of (before_first is_line_feed bytes)
  pub within : old.used + position_or_len is_line_feed bytes ≤ INPUT_BYTES
  -- unless the input has ended, its line feed is there
  pub fed : IsFalse new.ended → position_or_len is_line_feed bytes < length bytes
  pub past : IsPast bytes (line_size bytes) old new left

-- nothing is to come, and no more was taken than a session goes through
pub record IsOver (bytes : List ℕ) (old : IntakeSeen) : Type 0 where
  pub none : bytes ≡ []
  pub within : old.used ≤ INPUT_BYTES

abbrev pub IsNextOf : List ℕ → Option Order → IntakeSeen → IntakeSeen → Option (List ℕ) → Type 0
IsNextOf bytes None old new left = IsOver bytes old
IsNextOf bytes (Some order) old new left = IsOrder bytes order old new left

-- what comes next, if that is told
abbrev pub IsNext : Option (List ℕ) → Option Order → IntakeSeen → IntakeSeen → Option (List ℕ) → Type 0
IsNext come order old new left = IfSome come (λ bytes. IsNextOf bytes order old new left)

-- what follows an order's line is used as far as it belongs to the order, and the request is answered
pub record IsReplied {S : Type 0} (answer : Request → Answered S) (bytes : List ℕ) (order : Order) (reply : List ℕ) (s : S) (old new : IntakeSeen) (left : Option (List ℕ)) : Type 0 where
  pub answered : IsAnswered (answer (cut_after order bytes).request) reply s
  -- unless the input has ended, all that belongs to it is there
  pub whole : IsFalse new.ended → HasAll order bytes
  pub past : IsPast bytes (cut_after order bytes).size old new left

-- what is to come is as before
pub record IsUnused (old new : IntakeSeen) (come come_new : Option (List ℕ)) : Type 0 where
  pub same : Keeps come come_new
  pub used : new.used ≡ old.used

-- no whole line waits
abbrev pub HasNoLine : IntakeSeen → Type 0
HasNoLine a = position_or_len is_line_feed a.waiting ≡ length a.waiting

-- ---- how far the input is read

-- of these bytes no more than n were taken, and what one read may bring
abbrev pub IsNear : List ℕ → Option (List ℕ) → ℕ → Type 0
IsNear bytes left n = IfSome left (λ rest. length bytes ≤ length rest + n + 4096)

-- ---- what is answered before the input is read on

-- a part of an order that follows its line isn't there
abbrev pub LacksPart : Order → List ℕ → Type 0
LacksPart (orders.Take n) rest = length rest < n
LacksPart order rest = ⊥

-- these bytes are no whole request: they have no line feed, or a message isn't there to its end
abbrev pub IsOpen : List ℕ → Type 0
IsOpen bytes =
    (position_or_len is_line_feed bytes ≡ length bytes)
    ⊎ ((position_or_len is_line_feed bytes < length bytes) × LacksPart (order_of (before_first is_line_feed bytes)) (drop (line_size bytes) bytes))

-- The bytes that were taken of an input are requests, all of which are answered, and then no whole request. To an input, these are all
-- replies
pub record IsPrompt (replies : List ℕ → List ℕ) (given : List ℕ) (left old new : Option (List ℕ)) : Type 0 where
  pub front : List ℕ
  pub more : List ℕ
  pub rest : List ℕ
  pub given_is : given ≡ front ++ (more ++ rest)
  pub left_is : left ≡ Some rest
  pub unfinished : IsOpen more
  pub written : Appends old new (replies front)

-- ---- the end

-- the session came to an order to store, or to its end, here
pub record IsDone {S : Type 0} (c : Course S) (stores : Bool) (s : S) (old new : Option (List ℕ)) : Type 0 where
  pub state_is : c.state ≡ s
  pub stores_is : c.stores ≡ stores
  pub within : c.used ≤ INPUT_BYTES
  pub written : Appends old new c.replies

-- these bytes begin the input, up to the line feed of an order to store, and the same course comes whatever follows them
pub record IsFront {S : Type 0} (answer : S → Request → Answered S) (first : S) (given : List ℕ) : Type 0 where
  pub front : List ℕ
  pub given_is : given ≡ front ++ drop (suc (course answer first given).used) given
  pub size : length front ≡ suc (course answer first given).used
  pub same : (x : List ℕ) → course answer first (front ++ x) ≡ course answer first given

-- the order to store is used, with its line feed, and what follows is to come
pub record IsPaused {S : Type 0} (answer : S → Request → Answered S) (first : S) (given : List ℕ) (new : IntakeSeen) (left : Option (List ℕ)) : Type 0 where
  pub rest : known_come new left ≡ Some (drop (suc (course answer first given).used) given)
  -- unless the input has ended, the line feed is there
  pub fed : IsFalse new.ended → IsFront answer first given
