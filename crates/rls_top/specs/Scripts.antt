-- The lines of a script, one after another, read over what a replica consists of, and over a history.
use Rattle.std.specs.Prelude.{List, [], ◌∷◌, None, Result}
use Rattle.rls_model.specs.declared.edit.Edit.{Edit}
use Rattle.rls_model.specs.declared.edit.Edit.TheVariants as edits
use Rattle.rls_model.specs.EditRun as histories
use Rattle.rls_model.specs.Machine.{Run, run_on, started}
use Rattle.rls_model.specs.Receiving.{State}
use Rattle.rls_report.specs.declared.failures.LineFault.{LineFault}
use Rattle.rls_script.specs.declared.lines.Line.{Line}
use Rattle.rls_seen.specs.Messages.{by_parts}
use Rattle.rls_seen.specs.Seen.{Seen}
use Rattle.rls_stages.specs.Lines.{allowed, allowed_by, fault_in, line_by, read_line, text_in}

-- ---- over what a replica consists of

-- all lines, counted from 1
unfoldable pub run_lines : {L F : Type 0} → (Seen → L → Result Edit F) → Seen → List L → Run Seen F
run_lines reads s lines = run_on by_parts reads 1 (started None s) lines

-- all lines of a script, one after another
abbrev pub run_script : Seen → List Line → Run Seen LineFault
run_script s lines = run_lines read_line s lines

-- one leave
abbrev pub run_leave : Seen → Run Seen LineFault
run_leave s = run_lines allowed s (edits.Leave ∷ [])

-- ---- over a history

abbrev pub script_in : State → List Line → Run State LineFault
script_in t lines = histories.run_lines (line_by fault_in text_in) t lines

abbrev pub leave_in : State → Run State LineFault
leave_in t = histories.run_lines (allowed_by fault_in) t (edits.Leave ∷ [])
