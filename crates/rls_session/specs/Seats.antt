-- What a session answers to its editor, whose changes become operations when another request needs them.
use Rattle.std.specs.Prelude.{◌≡◌, ℕ, ◌+◌, ◌==◌, ◌&&◌, Bool, true, false, List, [], ◌∷◌, length, map, nat_lt, Option, Some, None, if◌then◌else◌}
use Rattle.rls_ident.specs.declared.limits.TheConstants.{GREATEST_NUMBER}
use Rattle.rls_ident.specs.Identifiers.{last_of}
use Rattle.rls_ident.specs.Tuples.{seq_of}
use Rattle.rls_ops.specs.declared.op.Op.{Op}
use Rattle.rls_ops.specs.declared.op.Body.{Body}
use Rattle.rls_ops.specs.declared.op.Body.TheVariants as bodies
use Rattle.rls_model.specs.declared.edit.Edit.{Edit}
use Rattle.rls_model.specs.declared.edit.Edit.TheVariants.{Insert, Delete}
use Rattle.rls_model.specs.declared.edit.EditError.{EditError}
use Rattle.rls_model.specs.declared.edit.EditError.TheVariants.{NumbersSpent}
use Rattle.rls_model.specs.EditParts.{or_fault}
use Rattle.rls_stages.specs.Lines.{line_fault}
use Rattle.rls_session.specs.declared.draft.Draft.{Draft}
use Rattle.rls_session.specs.declared.orders.Order.TheVariants as orders
use Rattle.rls_session.specs.Answers.{Kind, Sitting, answer, made_sitting, resumed, sitting_at, with_state}
use Rattle.rls_session.specs.Courses.{Answered, Course, Stretch, course, courses, stretches}
use Rattle.rls_session.specs.Drafts.{draft_of, is_none, joins, merged, no_draft, shown_by}
use Rattle.rls_session.specs.Replies.{noted_text, refused_text}
use Rattle.rls_session.specs.Requests.{Request, Does}

-- a sitting, and what its editor changed and is no operation yet
pub record Seat (X : Type 0) : Type 0 where
  pub sitting : Sitting X
  pub draft : Draft

abbrev pub seat_of : {X : Type 0} → Sitting X → Draft → Seat X
seat_of d p = record { sitting = d; draft = p }

-- nothing is drafted
abbrev pub seated : {X : Type 0} → Sitting X → Seat X
seated d = seat_of d no_draft

-- this is answered, and this is the seat after it
abbrev pub says_at : {X : Type 0} → List ℕ → Seat X → Answered (Seat X)
says_at reply b = record { reply = reply; state = b }

-- what is shown: the text with the draft in it
abbrev pub shown : {X : Type 0} → Kind X → Seat X → List ℕ
shown K b = shown_by b.draft (K.text (b.sitting).state)

-- ---- where a text goes that replaces characters: before them, or behind them

-- how many tuples the first identifier of an insertion has, if it begins no stem: one that does has the operation's own number in its last tuple
abbrev pub tuples_in : ℕ → Body → Option ℕ
tuples_in seq (bodies.Insert first text) = if seq_of (last_of first) == seq then None else Some (length first)
tuples_in seq (bodies.Delete targets) = None
tuples_in seq (bodies.Rename former) = None
tuples_in seq bodies.Leave = None

-- if it has no fault
abbrev pub tuples_by : Option EditError → Op → Option ℕ
tuples_by None o = tuples_in o.seq o.body
tuples_by (Some e) o = None

abbrev pub tuples_at : {X : Type 0} → Kind X → X → ℕ → List ℕ → Option ℕ
tuples_at K s at cs = tuples_by (K.fault s (Insert at cs)) (K.made s (Insert at cs))

-- it is the first of two places, if the insertion goes on with a stem there alone, or at both and has fewer tuples there
abbrev pub is_before : Option ℕ → Option ℕ → Bool
is_before None behind = false
is_before (Some m) None = true
is_before (Some m) (Some n) = nat_lt m n

abbrev pub goes_before : {X : Type 0} → Kind X → X → Draft → Bool
goes_before K s p = is_before (tuples_at K s p.at p.text) (tuples_at K s (p.at + p.count) p.text)

-- ---- the edits that a draft means

-- of a draft that replaces characters: the text is put before them, or not; then they are taken out
abbrev pub insertion_by : Bool → Draft → Edit
insertion_by true p = Insert p.at p.text
insertion_by false p = Insert (p.at + p.count) p.text

abbrev pub deletion_by : Bool → Draft → Edit
deletion_by true p = Delete (p.at + length p.text) p.count
deletion_by false p = Delete p.at p.count

abbrev pub replacing : Bool → Draft → List Edit
replacing before p = insertion_by before p ∷ deletion_by before p ∷ []

-- in order
abbrev pub plan : {X : Type 0} → Kind X → X → Draft → List Edit
plan K s p =
    if p.count == 0 then (if length p.text == 0 then [] else Insert p.at p.text ∷ [])
    else if length p.text == 0 then Delete p.at p.count ∷ []
    else replacing (goes_before K s p) p

-- the first fault of both, by what is there before them. They need two numbers
abbrev pub number_fault : {X : Type 0} → Kind X → X → Option EditError
number_fault K s = if nat_lt (K.number s) GREATEST_NUMBER then None else Some NumbersSpent

abbrev pub insertion_fault : {X : Type 0} → Kind X → X → Draft → Option EditError
insertion_fault K s p = if length p.text == 0 then None else or_fault (K.fault s (insertion_by (goes_before K s p) p)) (number_fault K s)

-- the first fault of a change's edits
abbrev pub draft_fault : {X : Type 0} → Kind X → X → Draft → Option EditError
draft_fault K s p =
    if p.count == 0 then K.fault s (Insert p.at p.text)
    else or_fault (K.fault s (Delete p.at p.count)) (insertion_fault K s p)

-- of those that a draft means, which may be none
abbrev pub making_fault : {X : Type 0} → Kind X → X → Draft → Option EditError
making_fault K s p = if is_none p then None else draft_fault K s p

-- they have none
abbrev pub IsDrafted : {X : Type 0} → Kind X → Seat X → Type 0
IsDrafted K b = making_fault K (b.sitting).state b.draft ≡ None

-- the sitting after these edits
abbrev pub made_each : {X : Type 0} → Kind X → Sitting X → List Edit → Sitting X
made_each K d [] = d
made_each K d (edit ∷ edits) = made_each K (made_sitting K d edit) edits

-- and after what waited for their operations is released, as after the edit of a line. In a group nothing waits for them
abbrev pub at_rest : {X : Type 0} → Kind X → Sitting X → Sitting X
at_rest K d = with_state d (K.released d.state)

abbrev pub made_all : {X : Type 0} → Kind X → Sitting X → List Edit → Sitting X
made_all K d [] = d
made_all K d (edit ∷ edits) = at_rest K (made_each K d (edit ∷ edits))

-- after the draft is made
abbrev pub at_work : {X : Type 0} → Kind X → Seat X → Sitting X
at_work K b = made_all K b.sitting (plan K (b.sitting).state b.draft)

-- ---- changes

abbrev pub has_none : Option EditError → Bool
has_none None = true
has_none (Some e) = false

-- the change goes on with the draft, and the edits of both have no fault
abbrev pub goes_with : {X : Type 0} → Kind X → X → Draft → Draft → Bool
goes_with K s p c = joins (length (K.text s)) p c && has_none (making_fault K s (merged p c))

-- the change is the draft, unless it has a fault
abbrev pub begun_draft : {X : Type 0} → Sitting X → Draft → Option EditError → Answered (Seat X)
begun_draft d c None = says_at noted_text (seat_of d c)
begun_draft d c (Some e) = says_at (refused_text (line_fault e)) (seated d)

-- where the draft was made
abbrev pub begun_at : {X : Type 0} → Kind X → Sitting X → Draft → Answered (Seat X)
begun_at K d c = begun_draft d c (draft_fault K d.state c)

-- it goes on with the draft, or that is made and this is the next
abbrev pub changed : {X : Type 0} → Kind X → Seat X → Draft → Answered (Seat X)
changed K b c = if goes_with K (b.sitting).state b.draft c then says_at noted_text (seat_of b.sitting (merged b.draft c)) else begun_at K (at_work K b) c

-- ---- all requests

-- the draft is made, and then the request is answered
abbrev pub worked : {X : Type 0} → Kind X → Seat X → Request → Answered (Seat X)
worked K b request = let a = answer K (at_work K b) request in says_at a.reply (seated a.state)

abbrev pub respond : {X : Type 0} → Kind X → Seat X → Request → Answered (Seat X)
respond K b (Does (orders.Change at n cs)) = changed K b (draft_of at n cs)
respond K b request = worked K b request

-- ---- the session

-- it is stored, and goes on, with the draft made
abbrev pub resumed_seat : {X : Type 0} → Kind X → Seat X → Seat X
resumed_seat K b = seated (resumed K (at_work K b))

-- a course ends with the draft made
abbrev pub closed : {X : Type 0} → Kind X → Course (Seat X) → Course (Sitting X)
closed K c = record { replies = c.replies; state = at_work K c.state; used = c.used; stores = c.stores }

-- up to the next store or the end, from this sitting over this input
abbrev pub course_at : {X : Type 0} → Kind X → Sitting X → List ℕ → Course (Sitting X)
course_at K d input = closed K (course (respond K) (seated d) input)

-- from store to store
abbrev pub stretches_by : {X : Type 0} → Kind X → Sitting X → List ℕ → List (Stretch (Seat X))
stretches_by K d input = stretches (respond K) (resumed_seat K) (seated d) input

abbrev pub session_by : {X : Type 0} → Kind X → Sitting X → List ℕ → List (Course (Sitting X))
session_by K d input = map (closed K) (courses (respond K) (resumed_seat K) (seated d) input)

-- from this state
abbrev pub session_from : {X : Type 0} → Kind X → X → List ℕ → List (Course (Sitting X))
session_from K s input = session_by K (sitting_at s) input
