use Rattle.std.proofs.Common.{[], ◌∷◌, sym, subst, ap}
use Rattle.rls_stages.specs.declared.errors.WorkError.{WorkError}
use Rattle.rls_model.specs.declared.edit.Edit.TheVariants as edits
use Rattle.rls_top.specs.Due.{Due, due_of_run}
use Rattle.rls_stages.specs.Lines.{allowed}
use Rattle.rls_stages.specs.Errors.{of_work}
use Rattle.rls_top.specs.Scripts.{run_leave}
use Rattle.rls_top.specs.Stages.{EndsAs, IsDue}
use Rattle.rls_top.proofs.Runs.{leave_done, leave_stops}
use Rattle.rls_replica.specs.Steps.{course}
use Rattle.rls_top.proofs.Scripts.{leave_reads_well, lines_writable}
use Rattle.rls_top.proofs.editing.leave.Goals as goal

pub returns-in-Err : goal.returns-in-Err
returns-in-Err c = record {
  due = subst (λ (e : WorkError). EndsAs (of_work e) (due_of_run 1 (run_leave c.args.replica.now))) (sym c.at_line.ensures.error)
      (leave_stops allowed c.args.replica.now edits.Leave c.in-Err.error c.in-Err.ensures.refused);
  stored = tt;
}

pub returns : goal.returns
returns c =
    let run = leave_done allowed c.args.replica.now c.perform_edit.new.replica c.release_all.new.self c.new-taken.result c.release_all.new.taken edits.Leave
    c.new-taken.ensures.nothing c.in-Ok.ensures.made c.in-Ok-release_all.ensures.ok in
    record { due = subst (λ (d : Due). IsDue of_work c.report_edits.result d) (sym (ap (due_of_run 1) run)) c.report_edits.ensures.due; stored = c.report_edits.ensures.stored }

-- what the edit made may be written
pub report_edits-requires : goal.report_edits-requires
report_edits-requires c =
    let run = leave_done allowed c.args.replica.now c.perform_edit.new.replica c.release_all.new.self c.new-taken.result c.release_all.new.taken edits.Leave
    c.new-taken.ensures.nothing c.in-Ok.ensures.made c.in-Ok-release_all.ensures.ok in
    record { writable = (lines_writable allowed c.args.replica.now (edits.Leave ∷ []) (course c.release_all.new.self c.release_all.new.taken) leave_reads_well c.requires.sane c.requires.writable run).1 }
