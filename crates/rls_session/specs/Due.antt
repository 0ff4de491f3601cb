-- What a session calls for, by the kept file and the input, read over what the replica consists of that the file says.
use Rattle.std.specs.Prelude.{ℕ, List, [], ◌∷◌, nat_lt, Option, Some, None, option_map, map, Result, Ok, Err, if◌then◌else◌}
use Rattle.rls_ident.specs.declared.limits.TheConstants.{INPUT_BYTES}
use Rattle.rls_report.specs.declared.failures.CommandError.{CommandError}
use Rattle.rls_report.specs.declared.failures.CommandError.TheVariants.{TooLarge}
use Rattle.rls_report.specs.Failures.{error_line, error_status}
use Rattle.rls_seen.specs.Seen.{Seen}
use Rattle.rls_stages.specs.Endings.{own_line, or_else}
use Rattle.rls_stages.specs.KeptFile.{loaded, replica_in, saved}
use Rattle.rls_session.specs.Answers.{Sitting, sitting_at}
use Rattle.rls_session.specs.Courses.{Course}
use Rattle.rls_session.specs.Seats.{session_by}
use Rattle.rls_session.specs.Sessions.{by_parts}

-- up to a store: the replies to all requests, and the replica whose file is stored then, or why none is
pub record Due : Type 0 where
  pub replies : List ℕ
  pub ending : Result Seen CommandError

-- after this course. An input is too long if it comes neither to its end nor to an order to store or to quit within the limit, which
-- counts from the last store
abbrev pub due_of : Course (Sitting Seen) → Due
due_of c = record { replies = c.replies; ending = if nat_lt INPUT_BYTES c.used then Err TooLarge else saved (c.state).state }

-- nothing is answered
abbrev pub stops : CommandError → Due
stops e = record { replies = []; ending = Err e }

-- the replica that the kept file says, or why there is none, if the file is told
abbrev pub found_in : Option (Option (List ℕ)) → Option (Result Seen CommandError)
found_in file = option_map (λ kept. replica_in (loaded kept)) file

-- from this sitting on: what is called for up to each store, in order. The session comes to one of them only if all before it are stored
abbrev pub due_from : Sitting Seen → Option (List ℕ) → Option (List Due)
due_from d left = option_map (λ input. map due_of (session_by by_parts d input)) left

-- at that replica, before the input is read
abbrev pub due_on : Option (Result Seen CommandError) → Option (List ℕ) → Option (List Due)
due_on None left = None
due_on (Some (Ok s)) left = due_from (sitting_at s) left
due_on (Some (Err e)) left = Some (stops e ∷ [])

-- if the kept file is told, and the input or that it isn't read
abbrev pub due : Option (Option (List ℕ)) → Option (List ℕ) → Option (List Due)
due file left = due_on (found_in file) left

-- ---- what is seen of it

abbrev pub ending_status : Result Seen CommandError → ℕ
ending_status (Ok s) = 0
ending_status (Err e) = error_status e

-- of the one that isn't stored, if there is one
abbrev pub line_or : Result Seen CommandError → List ℕ → List ℕ
line_or (Ok s) after = after
line_or (Err e) after = error_line e

abbrev pub dues_line : List Due → List ℕ
dues_line [] = []
dues_line (d ∷ ds) = line_or d.ending (dues_line ds)

-- what is written to the errors at a status, if it is told
abbrev pub line_at : Option (List Due) → ℕ → Option (List ℕ)
line_at ds n = or_else (own_line n) (option_map dues_line ds)
