-- A machine receives, releases, acknowledges and edits, whatever its states are. What comes of messages and of lines of edits, step by step.
use Rattle.std.specs.Prelude.{ℕ, zero, suc, ◌+◌, ◌-◌, ◌<◌, ◌^◌, Bool, true, List, [], ◌∷◌, ◌++◌, length, nat_lt, Option, Some, None, Result, Ok, Err, if◌then◌else◌}
use Rattle.rls_ops.specs.declared.op.Op.{Op}
use Rattle.rls_model.specs.declared.edit.Edit.{Edit}
use Rattle.rls_model.specs.declared.edit.EditError.{EditError}
use Rattle.rls_model.specs.declared.receipt.Taken.{Taken}
use Rattle.rls_model.specs.Answers.{Reason, Answer, Applies, Repeats, Waits, Refuses, Released}

-- the steps of a machine with these states
pub record Machine (X : Type 0) : Type 0 where
  -- the answer to an operation that arrives, and the state after it
  pub answer : X → Op → Answer
  pub after_receive : X → Op → X
  -- the operations that wait
  pub waiting : X → List Op
  -- what is released next, if one of them is ready, and the state after it
  pub next_release : X → Option Released
  pub after_release : X → X
  -- the state after an acknowledgement, of a member and its vector
  pub after_acknowledge : X → ℕ → List ℕ → X
  -- why an edit is refused, if it is, and the state after an edit that isn't
  pub edit_fault : X → Edit → Option EditError
  pub after_edit : X → Edit → X

-- ---- a stage on the way

-- how many more steps are taken before memory ends; nothing where it doesn't
abbrev pub Limit : Type 0
Limit = Option ℕ

-- one more step is taken
abbrev pub has_room : Limit → Bool
has_room None = true
has_room (Some n) = nat_lt 0 n

-- what is left after it
abbrev pub one_less : Limit → Limit
one_less None = None
one_less (Some n) = Some (n - 1)

-- the state that was reached, how many more steps are taken, and what was counted so far. The refusals have author and number
pub record Stage (X : Type 0) : Type 0 where
  pub state : X
  pub limit : Limit
  pub counts : Taken

-- nothing is counted yet
abbrev pub no_counts : Taken
no_counts = record { applied = 0; released = 0; repeated = 0; held = 0; refused = [] }

-- nothing is done yet
abbrev pub started : {X : Type 0} → Limit → X → Stage X
started limit s = record { state = s; limit = limit; counts = no_counts }

-- the state after one more step
abbrev pub moved : {X : Type 0} → Stage X → X → Stage X
moved p s = record p { state = s; limit = one_less p.limit }

-- ---- counting

-- one more of each may be counted
pub record HasRoom (t : Taken) : Type 0 where
  pub applied : t.applied < 2 ^ 64 - 1
  pub repeated : t.repeated < 2 ^ 64 - 1
  pub held : t.held < 2 ^ 64 - 1

-- the operation of this author and number arrived and was answered so
abbrev pub with_receipt : Taken → ℕ → ℕ → Answer → Taken
with_receipt t a q Applies = record t { applied = t.applied + 1 }
with_receipt t a q Repeats = record t { repeated = t.repeated + 1 }
with_receipt t a q Waits = record t { held = t.held + 1 }
with_receipt t a q (Refuses r) = record t { refused = t.refused ++ (a, q, r) ∷ [] }

-- the one of this author and number waited and was released, and refused for this reason, if any
abbrev pub with_reason : Taken → ℕ → ℕ → Option Reason → Taken
with_reason t a q None = record t { released = t.released + 1 }
with_reason t a q (Some r) = record t { refused = t.refused ++ (a, q, r) ∷ [] }

-- a stage where this is counted too
abbrev pub with_answer : {X : Type 0} → Stage X → Op → Answer → Stage X
with_answer p o a = record p { counts = with_receipt p.counts o.author o.seq a }

abbrev pub with_refusal : {X : Type 0} → Stage X → ℕ → ℕ → Option Reason → Stage X
with_refusal p a q r = record p { counts = with_reason p.counts a q r }

-- ---- one step after another

-- a step: one operation is received
abbrev pub receive_on : {X : Type 0} → Machine X → Stage X → Op → Stage X
receive_on M p o = if has_room p.limit then with_answer (moved p (M.after_receive p.state o)) o (M.answer p.state o) else p

-- this is released, if anything is
abbrev pub with_release_on : {X : Type 0} → Machine X → Stage X → Option Released → Stage X
with_release_on M p None = p
with_release_on M p (Some r) = with_refusal (moved p (M.after_release p.state)) r.author r.seq r.refusal

-- a step: the first ready operation is released
abbrev pub release_on : {X : Type 0} → Machine X → Stage X → Stage X
release_on M p = if has_room p.limit then with_release_on M p (M.next_release p.state) else p

-- n such steps
abbrev pub releases_on : {X : Type 0} → Machine X → ℕ → Stage X → Stage X
releases_on M zero p = p
releases_on M (suc n) p = releases_on M n (release_on M p)

-- releases until none is ready: each takes one operation out, so there are at most as many as wait
abbrev pub release_all_on : {X : Type 0} → Machine X → Stage X → Stage X
release_all_on M p = releases_on M (length (M.waiting p.state)) p

-- a step: an acknowledgement is noted
abbrev pub acknowledge_on : {X : Type 0} → Machine X → Stage X → ℕ → List ℕ → Stage X
acknowledge_on M p a v = if has_room p.limit then moved p (M.after_acknowledge p.state a v) else p

-- a step: an edit is made
abbrev pub edit_on : {X : Type 0} → Machine X → Stage X → Edit → Stage X
edit_on M p edit = if has_room p.limit then moved p (M.after_edit p.state edit) else p

-- each operation in turn is received, and what it makes ready is released
abbrev pub take_on : {X : Type 0} → Machine X → Stage X → List Op → Stage X
take_on M p [] = p
take_on M p (o ∷ os) = take_on M (release_all_on M (receive_on M p o)) os

-- ---- line by line

-- what becomes of lines: all steps, or the number and the fault of the first refused line
pub data Run (X F : Type 0) : Type 0 where
  Done : (stage : Stage X) → Run X F
  Stopped : (line : ℕ) → (fault : F) → Run X F

-- the rest after an edit, or the fault of the line with this number
abbrev pub go_on : {X F : Type 0} → ℕ → Result Edit F → (Edit → Run X F) → Run X F
go_on line (Ok edit) rest = rest edit
go_on line (Err fault) rest = Stopped line fault

-- the lines from this number on, each read as an edit at the state before it, and made with what it makes ready
abbrev pub run_on : {X L F : Type 0} → Machine X → (X → L → Result Edit F) → ℕ → Stage X → List L → Run X F
run_on M reads line p [] = Done p
run_on M reads line p (l ∷ ls) = go_on line (reads p.state l) (λ edit. run_on M reads (suc line) (release_all_on M (edit_on M p edit)) ls)

-- the edit, unless it has this fault
abbrev pub unless_fault : {F : Type 0} → Option F → Edit → Result Edit F
unless_fault None edit = Ok edit
unless_fault (Some fault) edit = Err fault

-- an edit is refused for its own fault
abbrev pub read_edit_on : {X : Type 0} → Machine X → X → Edit → Result Edit EditError
read_edit_on M s edit = unless_fault (M.edit_fault s edit) edit
