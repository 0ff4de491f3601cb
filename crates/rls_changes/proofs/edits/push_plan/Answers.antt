use Rattle.rls_changes.proofs.Errors.{dropped_as}
use Rattle.rls_changes.proofs.edits.push_plan.Goals as goal

pub returns-in-Err-Dropped-clause-dropped : goal.returns-in-Err-Dropped-clause-dropped
returns-in-Err-Dropped-clause-dropped c = λ e. dropped_as c.in-Err-Dropped.field-0 c.in-Err-Dropped.epoch e _ c.in-Err-Dropped.field-0-is (c.in-Err-Dropped.ensures.dropped e)
