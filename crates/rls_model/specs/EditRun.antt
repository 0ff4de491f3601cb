-- Edits, one after another.
use Rattle.std.specs.Prelude.{ℕ, List, None, Result}
use Rattle.rls_model.specs.declared.edit.Edit.{Edit}
use Rattle.rls_model.specs.declared.edit.EditError.{EditError}
use Rattle.rls_model.specs.Receiving.{State}
pub use Rattle.rls_model.specs.Machine.{Run, Done, Stopped, go_on, unless_fault}
use Rattle.rls_model.specs.Machine.{edit_on, run_on, read_edit_on}
use Rattle.rls_model.specs.Taking.{Limit, Progress, by_history, started, with_releases}

-- a step: the edit's operation is made and accepted
abbrev pub edit_step : Progress → Edit → Progress
edit_step p edit = edit_on by_history p edit

-- the edit, and what it makes ready, in at most this many steps
unfoldable pub edit_within : Limit → State → Edit → Progress
edit_within limit s edit = with_releases (edit_step (started limit s) edit)

-- ---- line by line

-- the lines from this number on, each read as an edit at the state before it
abbrev pub run_from : {L F : Type 0} → (State → L → Result Edit F) → ℕ → Progress → List L → Run State F
run_from reads line p ls = run_on by_history reads line p ls

-- all lines, counted from 1
unfoldable pub run_lines : {L F : Type 0} → (State → L → Result Edit F) → State → List L → Run State F
run_lines reads s lines = run_from reads 1 (started None s) lines

-- an edit is refused for its own fault
abbrev pub read_edit : State → Edit → Result Edit EditError
read_edit s edit = read_edit_on by_history s edit

-- edits, as lines of their own
abbrev pub run_edits : State → List Edit → Run State EditError
run_edits s edits = run_lines read_edit s edits
