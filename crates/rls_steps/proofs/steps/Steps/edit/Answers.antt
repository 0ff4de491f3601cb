use Rattle.rls_steps.proofs.Errors.{dropped_from}
use Rattle.rls_steps.proofs.steps.Steps.edit.Goals as goal

pub returns-clause-dropped : goal.returns-clause-dropped
returns-clause-dropped c = λ e. dropped_from c.in-Err-accept_own.error c.past_error.result e _ (c.past_error.ensures.dropped e) (c.in-Err-accept_own.ensures.dropped e)
