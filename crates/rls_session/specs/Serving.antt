-- How a session ends, in one relation: of its stages, and of the whole with its status.
-- Why: docs/DECISIONS.md, 122.
use Rattle.std.specs.Prelude.{◌≡◌, ◌≢◌, ◌<◌, ◌≤◌, ℕ, suc, Bool, true, IsTrue, IsFalse, List, [], ◌∷◌, length, drop, Option, Some, None, option_map, IfSome, IfErr, OnOk, Result, Ok, Err}
use Rattle.rls_io.specs.Device.{Keeps, Rose}
use Rattle.rls_io.specs.Device as device
use Rattle.rls_report.specs.declared.failures.Failure.{Failure}
use Rattle.rls_report.specs.declared.failures.Failure.TheVariants.{Fault}
use Rattle.rls_report.specs.declared.failures.Fault.TheVariants.{Keeper, Source, Sink}
use Rattle.rls_seen.specs.Seen.{Seen}
use Rattle.rls_stages.specs.KeptFile.{IsUsable, Stays, saved}
use Rattle.rls_session.specs.declared.answering.Halt.{Halt}
use Rattle.rls_session.specs.declared.answering.Halt.TheVariants.{Store, End}
use Rattle.rls_session.specs.Answering.{IsFront, IsNear, IsPrompt}
use Rattle.rls_session.specs.Answers.{Sitting, resumed, sitting_at}
use Rattle.rls_session.specs.Calls.{AreAllFilesOf, AreDue, Calls, HasSaved, HasServed, IsFileOf, Stores, tried}
use Rattle.rls_session.specs.Courses.{holds, replies_in, used_in}
use Rattle.rls_session.specs.Devices.{Devices}
use Rattle.rls_session.specs.Due.{due, due_from, due_of, found_in}
use Rattle.rls_session.specs.Endings.{Ends, EndsNear, EndsPromptly, IsDoneTo, IsSessionsOwn, IsSessionStatus, Leaves, OnSession, Saves}
use Rattle.rls_session.specs.Sent.{SendsBefore, SendsFrom, SendsMessages}
use Rattle.rls_session.specs.Seats.{course_at, respond, seated, session_by}
use Rattle.rls_session.specs.Sessions.{by_parts}

-- Storing this replica's file, and telling it, came to this end: by what is seen of the keeper, of its file and of its count of failed calls,
-- and of the output and of its count.
pub record SaveEnds {K : Type 0} (store : K → List ℕ → Bool → K → Type 0) (s : Seen) (r : Result (Unit {0}) Failure) (keeper_old keeper_new : K) (file new_file : Option (Option (List ℕ))) (faults new_faults : ℕ) (old new : Option (List ℕ)) (sink_faults new_sink_faults : ℕ) : Type 0 where
  pub saves : Saves r (saved s) file new_file old new
  pub calls : HasSaved store (IsFileOf (saved s)) r keeper_old keeper_new
  -- the file is as before if it couldn't be stored, where the keeper still tells it, and if the keeper wasn't called
  pub stays : IfErr r (λ f. f ≢ Fault Sink → Keeps new_file file)
  pub same : IfErr r (λ f. f ≢ Fault Sink → keeper_new ≡ keeper_old → new_file ≡ file)
  pub inner : r ≢ Err (Fault Source)
  pub keeper : r ≡ Err (Fault Keeper) → Rose faults new_faults
  pub uncounted : r ≢ Err (Fault Keeper) → new_faults ≡ faults
  pub output : r ≡ Err (Fault Sink) → Rose sink_faults new_sink_faults
  pub never_falls : sink_faults ≤ new_sink_faults
  pub own : IsSessionsOwn r

-- what the file is after these stores, if it was told before
abbrev pub file_after : List (List ℕ) → Option (Option (List ℕ)) → Option (Option (List ℕ))
file_after [] file = file
file_after (bytes ∷ files) file = file_after files (option_map (λ kept. Some bytes) file)

-- A session that stands at this sitting, and to which this is to come, of an input that has ended or not, came to this end: what it left of
-- the file and the output, which stores it made, and which device failed.
pub record StageEnds {K : Type 0} (store : K → List ℕ → Bool → K → Type 0) (d : Sitting Seen) (come : Option (List ℕ)) (ended : Bool) (r : Result (Unit {0}) Failure) (keeper_old keeper_new : K) (old new : Devices) : Type 0 where
  pub leaves : IfSome (due_from d come) (λ ds. Leaves r ds old.file new.file old.told new.told)
  pub calls : HasServed store (due_from d come) r keeper_old keeper_new
  -- the file is that of the last store, or as before. After a store that failed that is so where the keeper still tells it
  pub stays : Stays (file_after calls.stores.stored old.file) new.file
  pub kept : calls.stores.failed ≡ None → Keeps (file_after calls.stores.stored old.file) new.file
  -- a device that gives the end has failed, and the keeper only then
  pub keeper : r ≡ Err (Fault Keeper) → Rose old.keeper_faults new.keeper_faults
  pub uncounted : r ≢ Err (Fault Keeper) → new.keeper_faults ≡ old.keeper_faults
  pub input : r ≡ Err (Fault Source) → Rose old.input_faults new.input_faults × IsFalse ended
  pub output : r ≡ Err (Fault Sink) → Rose old.output_faults new.output_faults
  -- how far the input is read, and what is answered before it is read on
  pub near : IfSome come (λ given. IsNear given new.left (used_in (session_by by_parts d given)))
  pub prompt : r ≡ Err (Fault Source) → IfSome come (λ given. IsPrompt (λ front. replies_in (session_by by_parts d front)) given new.left old.told new.told)
  -- what is answered to a request for a message is one: of a session that is done to each, and else to each before a store that was done
  pub messages : OnOk r (IfSome come (SendsMessages d))
  pub sent : IfSome come (SendsBefore (length calls.stores.stored) d)
  -- no other failure ends it
  pub own : IsSessionsOwn r

-- A session that stood at a sitting, before an input, stored what it was to store first, answered `saved`, and stands at another sitting now.
pub record GoesOn (d : Sitting Seen) (given : List ℕ) (next : Sitting Seen) (come : Option (List ℕ)) (ended : Bool) (bytes : List ℕ) (old new : Devices) : Type 0 where
  pub stores : (course_at by_parts d given).stores ≡ true
  pub next_is : next ≡ resumed by_parts (course_at by_parts d given).state
  pub come_is : come ≡ Some (drop (suc (course_at by_parts d given).used) given)
  pub file : IsFileOf (due_of (course_at by_parts d given)).ending bytes
  pub done : IsDoneTo (due_of (course_at by_parts d given)) old.file new.file old.told new.told
  pub sent : holds (respond by_parts) SendsFrom (seated d) given
  pub fed : IsFalse ended → IsFront (respond by_parts) (seated d) given

-- The same, if the input is told: the keeper was called once, to store these bytes.
pub record HasGoneOn {K : Type 0} (store : K → List ℕ → Bool → K → Type 0) (d : Sitting Seen) (come : Option (List ℕ)) (ended : Bool) (next : Sitting Seen) (next_come : Option (List ℕ)) (next_ended : Bool) (keeper_old keeper_new : K) (old new : Devices) : Type 0 where
  pub bytes : List ℕ
  pub call : store keeper_old bytes true keeper_new
  pub file : device.Stores old.file new.file bytes
  pub uncounted : new.keeper_faults ≡ old.keeper_faults
  pub input : old.input_faults ≤ new.input_faults
  pub output : old.output_faults ≤ new.output_faults
  pub stays_ended : IsTrue ended → IsTrue next_ended
  pub on : IfSome come (λ given. GoesOn d given next next_come next_ended bytes old new)

-- A stretch of a session ended it, or stored its file and goes on.
abbrev pub EndsOrGoesOn : {K : Type 0} → (K → List ℕ → Bool → K → Type 0) → Sitting Seen → Option (List ℕ) → Bool → Sitting Seen → Option (List ℕ) → Bool → Result Halt Failure → K → K → Devices → Devices → Type 0
EndsOrGoesOn store d come ended next next_come next_ended (Ok End) keeper_old keeper_new old new = StageEnds store d come ended (Ok tt) keeper_old keeper_new old new
EndsOrGoesOn store d come ended next next_come next_ended (Ok Store) keeper_old keeper_new old new = HasGoneOn store d come ended next next_come next_ended keeper_old keeper_new old new
EndsOrGoesOn store d come ended next next_come next_ended (Err f) keeper_old keeper_new old new = StageEnds store d come ended (Err f) keeper_old keeper_new old new

-- A session ended with the status n. Its devices were seen as old before it and are seen as new after it.
pub record SessionEnds {K : Type 0} (load : K → Bool → K → Type 0) (store : K → List ℕ → Bool → K → Type 0) (untouched : Type 0) (n : ℕ) (keeper_old keeper_new : K) (old new : Devices) : Type 0 where
  -- Its stores: the keeper is called to load before all else, and then for these alone. They are of the files that are called for, in order.
  pub stores : Stores
  pub calls : Calls load store stores untouched n keeper_old keeper_new
  pub files : AreDue (due old.file old.left) (tried stores)
  pub some : n ≡ 0 → 0 < length stores.stored
  pub all : n ≡ 0 → IfSome (due old.file old.left) (λ ds. AreAllFilesOf ds stores.stored)
  -- what it leaves, given what is called for
  pub ends : IfSome (due old.file old.left) (λ ds. Ends ds n old.file new.file old.told new.told)
  -- The file is that of the last store, or as it was. After a store that failed that is known only if the keeper tells the file.
  pub stays : Stays (file_after stores.stored old.file) new.file
  pub kept : stores.failed ≡ None → Keeps (file_after stores.stored old.file) new.file
  -- What is answered to a request for a message is one, so that other members can take it: with the status 0 each, and whatever the status
  -- each that was answered before a store that was done.
  pub messages : n ≡ 0 → OnSession old.file old.left (λ s. SendsMessages (sitting_at s))
  pub sent : OnSession old.file old.left (λ s. SendsBefore (length stores.stored) (sitting_at s))
  -- the device that gives the status has failed, and the keeper only then
  pub keeper : n ≡ 7 → Rose old.keeper_faults new.keeper_faults
  pub uncounted : n ≢ 7 → new.keeper_faults ≡ old.keeper_faults
  pub input : n ≡ 8 → IfSome old.file IsUsable × Rose old.input_faults new.input_faults
  pub output : n ≡ 9 → Rose old.output_faults new.output_faults
  pub no_other : IsSessionStatus n
  -- without a replica neither the input is read nor anything written
  pub unread : IfSome old.file (λ kept. (IsUsable kept → ⊥) → untouched)
  -- of the input no more is taken than is used and one read brings, and each whole request is answered before a read
  pub near : EndsNear (found_in old.file) old.left new.left
  pub prompt : n ≡ 8 → EndsPromptly (found_in old.file) old.left new.left old.told new.told
