-- How a session ends, given what it calls for.
use Rattle.std.specs.Prelude.{◌≡◌, ◌≢◌, ◌<◌, ◌⊎◌, ◌++◌, ℕ, List, [], ◌∷◌, length, take, Option, Some, IfSome, IfOk, IsErr, Result, Ok, Err}
use Rattle.rls_ident.specs.declared.limits.TheConstants.{INPUT_BYTES, FILE_BYTES}
use Rattle.rls_io.specs.Device.{Appends, IsCutShort, Keeps, Stores}
use Rattle.rls_model.specs.Parts.{parts}
use Rattle.rls_model.specs.Receiving.{State}
use Rattle.rls_seen.specs.Seen.{Seen}
use Rattle.rls_file.specs.Files.{file_bytes}
use Rattle.rls_report.specs.declared.failures.CommandError.{CommandError}
use Rattle.rls_report.specs.declared.failures.Failure.{Failure}
use Rattle.rls_report.specs.declared.failures.Failure.TheVariants.{NoCommand, Command, Fault}
use Rattle.rls_report.specs.declared.failures.Fault.TheVariants.{Sink}
use Rattle.rls_stages.specs.Endings.{EndsWith, IsFailureStatus, IsFault, IsPart, failure_line_at}
use Rattle.rls_stages.specs.Errors.{IsOfFile, GivesError}
use Rattle.rls_stages.specs.KeptFile.{IsFileFor, IsReadBack, StandsIn, Stays, bytes_over}
use Rattle.rls_session.specs.Answering.{IsNear, IsPrompt}
use Rattle.rls_session.specs.Answers.{Sitting}
use Rattle.rls_session.specs.Courses.{Course, replies_in, used_in}
use Rattle.rls_session.specs.Due.{Due, ending_status, found_in}
use Rattle.rls_session.specs.Replies.{saved_text}
use Rattle.rls_session.specs.Sessions.{session}

-- ---- storing

-- the file of the replica that is called for is kept, and is read back
abbrev pub IsKept : Result Seen CommandError → Option (Option (List ℕ)) → Option (Option (List ℕ)) → Type 0
IsKept (Ok s) old new = Stores old new (bytes_over s) × IsReadBack s
IsKept (Err e) old new = ⊥

-- the file is stored, and that is told; or of the telling at least one byte isn't written; or neither is done
abbrev pub Saves : Result (Unit {0}) Failure → Result Seen CommandError → Option (Option (List ℕ)) → Option (Option (List ℕ)) → Option (List ℕ) → Option (List ℕ) → Type 0
Saves (Ok u) r file new_file old new = IsKept r file new_file × Appends old new saved_text
Saves (Err (Fault Sink)) r file new_file old new = IsKept r file new_file × IsCutShort old new saved_text
Saves (Err f) r file new_file old new = GivesError f r × (new ≡ old)

-- ---- what a session leaves

-- the output failed before the file was stored: of the replies at least one byte is missing
abbrev pub FailsBefore : Due → Option (Option (List ℕ)) → Option (Option (List ℕ)) → Option (List ℕ) → Option (List ℕ) → Type 0
FailsBefore d file new_file old new = Keeps file new_file × IsCutShort old new d.replies

-- it failed after that: all replies are there, and of `saved` at least one byte is missing
abbrev pub FailsAfter : Due → Option (Option (List ℕ)) → Option (Option (List ℕ)) → Option (List ℕ) → Option (List ℕ) → Type 0
FailsAfter d file new_file old new = IsKept d.ending file new_file × ((n : ℕ) × (n < length saved_text) × Appends old new (d.replies ++ take n saved_text))

-- the output failed. Where it is told, it shows which of the two it was (`ByReplies`)
abbrev pub FailsAt : Due → Option (Option (List ℕ)) → Option (Option (List ℕ)) → Option (List ℕ) → Option (List ℕ) → Type 0
FailsAt d file new_file old new = FailsBefore d file new_file old new ⊎ FailsAfter d file new_file old new

-- behind what an output had, it has all of these bytes now, and perhaps more
abbrev pub HasAllOf : List ℕ → Option (List ℕ) → List ℕ → Type 0
HasAllOf output new bytes = (more : List ℕ) × (new ≡ Some (output ++ (bytes ++ more)))

-- where the output is told: the one holds if all of these replies are in it, and the other if not
abbrev pub ByReplies : List ℕ → Option (List ℕ) → Option (List ℕ) → Type 0 → Type 0 → Type 0
ByReplies replies old new Stored Unstored = IfSome old (λ output. (HasAllOf output new replies → Stored) × ((HasAllOf output new replies → ⊥) → Unstored))

-- all is written and stored; or the output failed; or the session ended before, and the file is as it was, where it is told
abbrev pub LeavesIn : Result (Unit {0}) Failure → Due → Option (Option (List ℕ)) → Option (Option (List ℕ)) → Option (List ℕ) → Option (List ℕ) → Type 0
LeavesIn (Ok u) d file new_file old new = IsKept d.ending file new_file × Appends old new (d.replies ++ saved_text)
LeavesIn (Err (Fault Sink)) d file new_file old new = FailsAt d file new_file old new
LeavesIn (Err f) d file new_file old new = GivesError f d.ending × IsPart old new d.replies × Stays file new_file

-- what is called for up to a store is done
pub record IsDoneTo (d : Due) (file new_file : Option (Option (List ℕ))) (old new : Option (List ℕ)) : Type 0 where
  pub stored : IsKept d.ending file new_file
  pub written : Appends old new (d.replies ++ saved_text)

-- a session that calls for this up to a store, and for these after it, ended before that store was told, or went on
abbrev pub LeavesOn : Result (Unit {0}) Failure → Due → List Due → Option (Option (List ℕ)) → Option (Option (List ℕ)) → Option (List ℕ) → Option (List ℕ) → Type 0
LeavesOn r d [] file new_file old new = LeavesIn r d file new_file old new
LeavesOn r d (e ∷ ds) file new_file old new =
    (IsErr r × LeavesIn r d file new_file old new) ⊎ ((mid_file : Option (Option (List ℕ))) × (mid : Option (List ℕ)) × IsDoneTo d file mid_file old mid × LeavesOn r e ds mid_file new_file mid new)

-- what a session leaves that calls for these, one after another
abbrev pub Leaves : Result (Unit {0}) Failure → List Due → Option (Option (List ℕ)) → Option (Option (List ℕ)) → Option (List ℕ) → Option (List ℕ) → Type 0
Leaves r [] file new_file old new = ⊥
Leaves r (d ∷ ds) file new_file old new = LeavesOn r d ds file new_file old new

-- a session that calls for this up to its next store ended before that was told, or with it, with this status
pub record EndsIn (d : Due) (n : ℕ) (file new_file : Option (Option (List ℕ))) (old new : Option (List ℕ)) : Type 0 where
  -- the status that is called for, unless a device failed or memory ran out
  pub status : (n ≡ ending_status d.ending) ⊎ IsFault n
  -- all replies, and `saved`, and the file of the replica after them
  pub written : n ≡ 0 → Appends old new (d.replies ++ saved_text)
  pub stored : n ≡ 0 → IsKept d.ending file new_file
  -- a part of the replies, from the front, and the file as it was, unless the output failed
  pub part : n ≢ 0 → n ≢ 9 → IsPart old new d.replies
  pub stays : n ≢ 0 → n ≢ 9 → Stays file new_file
  pub failing : n ≡ 9 → FailsAt d file new_file old new
  -- so then the file is stored if all replies are in the output, and is as before if not
  pub by_replies : n ≡ 9 → ByReplies d.replies old new (IsKept d.ending file new_file) (Keeps file new_file)

abbrev pub EndsOn : Due → List Due → ℕ → Option (Option (List ℕ)) → Option (Option (List ℕ)) → Option (List ℕ) → Option (List ℕ) → Type 0
EndsOn d [] n file new_file old new = EndsIn d n file new_file old new
EndsOn d (e ∷ ds) n file new_file old new =
    ((n ≢ 0) × EndsIn d n file new_file old new) ⊎ ((mid_file : Option (Option (List ℕ))) × (mid : Option (List ℕ)) × IsDoneTo d file mid_file old mid × EndsOn e ds n mid_file new_file mid new)

-- a session that calls for these, one after another, ended so with this status: in the first of them, or that is done and it went on
abbrev pub Ends : List Due → ℕ → Option (Option (List ℕ)) → Option (Option (List ℕ)) → Option (List ℕ) → Option (List ℕ) → Type 0
Ends [] n file new_file old new = ⊥
Ends (d ∷ ds) n file new_file old new = EndsOn d ds n file new_file old new

-- the status of an end
abbrev pub IsStatusOf : Result (Unit {0}) Failure → ℕ → Type 0
IsStatusOf (Ok u) n = n ≡ 0
IsStatusOf (Err f) n = IsFailureStatus f n

-- a failure that a session may end with: of a device, of memory, or of what it reads
abbrev pub IsSessionsOwn : Result (Unit {0}) Failure → Type 0
IsSessionsOwn (Ok u) = Unit {0}
IsSessionsOwn (Err NoCommand) = ⊥
IsSessionsOwn (Err (Command e)) = IsOfFile e
IsSessionsOwn (Err (Fault f)) = Unit {0}

-- the statuses of a session
abbrev pub IsSessionStatus : ℕ → Type 0
IsSessionStatus n = (n ≡ 0) ⊎ (n ≡ 2) ⊎ (n ≡ 3) ⊎ (n ≡ 11) ⊎ IsFault n

-- what is written to the errors with this status
abbrev pub line_of : Result (Unit {0}) Failure → ℕ → List ℕ
line_of (Ok u) n = []
line_of (Err f) n = failure_line_at f n

-- ---- if the kept file stands for a history and what waits beside it

-- the kept file is too long, or the input before it ends, quits or stores, or the file that is to be stored
abbrev pub IsTooLong : List ℕ → Course (Sitting State) → Type 0
IsTooLong bytes c = (FILE_BYTES < length bytes) ⊎ (INPUT_BYTES < c.used) ⊎ (FILE_BYTES < length (file_bytes (parts (c.state).state)))

-- a session whose kept file has these bytes ended in this course, or with the store after it
pub record ServesIn (n : ℕ) (bytes : List ℕ) (c : Course (Sitting State)) (new_file : Option (Option (List ℕ))) (old new : Option (List ℕ)) : Type 0 where
  pub status : EndsWith n 0 (IsTooLong bytes c)
  pub stored : n ≡ 0 → StandsIn new_file (c.state).state
  pub written : n ≡ 0 → Appends old new (c.replies ++ saved_text)
  pub part : IsPart old new (c.replies ++ saved_text)
  -- if the output failed
  pub by_replies : n ≡ 9 → ByReplies c.replies old new (StandsIn new_file (c.state).state) (new_file ≡ Some (Some bytes))

-- It ended so in the first of these courses, or stored the file that stands for the state after that, answered `saved` and went on.
abbrev pub ServesOn : ℕ → List ℕ → Course (Sitting State) → List (Course (Sitting State)) → Option (Option (List ℕ)) → Option (List ℕ) → Option (List ℕ) → Type 0
ServesOn n bytes c [] new_file old new = ServesIn n bytes c new_file old new
ServesOn n bytes c (d ∷ cs) new_file old new =
    ((n ≢ 0) × ServesIn n bytes c new_file old new)
    ⊎ ((stored : List ℕ) × (mid : Option (List ℕ)) × IsFileFor stored (c.state).state × Appends old mid (c.replies ++ saved_text) × ServesOn n stored d cs new_file mid new)

-- a session over these bytes of a file, with these courses, ends so
abbrev pub Serves : ℕ → List ℕ → List (Course (Sitting State)) → Option (Option (List ℕ)) → Option (List ℕ) → Option (List ℕ) → Type 0
Serves n bytes [] new_file old new = ⊥
Serves n bytes (c ∷ cs) new_file old new = ServesOn n bytes c cs new_file old new

-- ---- how far the input is read and answered

-- what holds of the replica that was found, and of the input, if both are told
abbrev pub OnFound : Option (Result Seen CommandError) → Option (List ℕ) → (Seen → List ℕ → Type 0) → Type 0
OnFound found left P = IfSome found (λ r. IfOk r (λ s. IfSome left (λ given. P s given)))

-- of the replica that the kept file says, and of the input
abbrev pub OnSession : Option (Option (List ℕ)) → Option (List ℕ) → (Seen → List ℕ → Type 0) → Type 0
OnSession file left P = OnFound (found_in file) left P

-- of the input no more is taken than the session may use, up to the end of the order to quit, and what one read may bring
abbrev pub EndsNear : Option (Result Seen CommandError) → Option (List ℕ) → Option (List ℕ) → Type 0
EndsNear found left new_left = OnFound found left (λ s given. IsNear given new_left (used_in (session s given)))

-- the replies to all requests that are whole in what was taken of the input are written, and nothing more
abbrev pub EndsPromptly : Option (Result Seen CommandError) → Option (List ℕ) → Option (List ℕ) → Option (List ℕ) → Option (List ℕ) → Type 0
EndsPromptly found left new_left old new = OnFound found left (λ s given. IsPrompt (λ front. replies_in (session s front)) given new_left old new)
