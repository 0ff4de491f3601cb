use Rattle.std.proofs.Common.{◌∙◌, ℕ, length, ap, sym, subst}
use Rattle.std.proofs.lemmas.Result.{err_from_is_err_and}
use Rattle.rls_report.specs.declared.failures.LineFault.{LineFault}
use Rattle.rls_script.specs.Scripts.{script_of}
use Rattle.rls_top.specs.Due.{due_of_run}
use Rattle.rls_top.specs.Scripts.{run_script}
use Rattle.rls_model.specs.Machine.{Run}
use Rattle.rls_seen.specs.Seen.{Seen}
use Rattle.rls_stages.specs.Errors.{of_work}
use Rattle.rls_top.specs.Stages.{IsDue}
use Rattle.rls_replica.specs.Steps.{course}
use Rattle.rls_stages.specs.Lines.{read_line}
use Rattle.rls_top.proofs.Scripts.{lines_read_well, lines_writable, script_fits}
use Rattle.rls_top.proofs.editing.edit.Goals as goal

pub returns-in_err-taken-in-Ok : goal.returns-in_err-taken-in-Ok
returns-in_err-taken-in-Ok c =
    let p = err_from_is_err_and c.from_residual.result c.from_residual.ensures.1 in
    record { due = rw (p.1, p.2, ap script_of (sym c.deref.ensures.value) ∙ c.in-Ok.ensures.parsed) (c.in_err-taken-in-Ok.ensures.refused (length c.in-Ok.lines)); stored = rw p.1 tt }

pub returns-in_ok-taken-in-Ok : goal.returns-in_ok-taken-in-Ok
returns-in_ok-taken-in-Ok c =
    let run = run_script c.args.replica.now c.in-Ok.lines in
    let made = subst (λ (r : Run Seen LineFault). IsDue of_work c.report_edits.result (due_of_run c.len-edits.result r)) (sym c.in_ok-taken-in-Ok.ensures.run) c.report_edits.ensures.due in
    record { due = rw (ap script_of (sym c.deref.ensures.value) ∙ c.in-Ok.ensures.parsed) (subst (λ (n : ℕ). IsDue of_work c.report_edits.result (due_of_run n run)) c.len-edits.ensures.len made); stored = c.report_edits.ensures.stored }

-- what the lines made may be written
pub report_edits-requires : goal.report_edits-requires
report_edits-requires c =
    let lines = c.in-Ok.lines in
    record { writable = (lines_writable read_line c.args.replica.now lines (course c.perform_lines.new.replica c.in_ok-taken-in-Ok.taken) (lines_read_well lines (script_fits c.deref.result.now lines c.in-Ok.ensures.parsed)) c.requires.sane c.requires.writable c.in_ok-taken-in-Ok.ensures.run).1 }
