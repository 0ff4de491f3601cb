use Rattle.rls_steps.proofs.Errors.{dropped_as}
use Rattle.rls_steps.proofs.steps.Steps.settle_for.Goals as goal

pub returns-in-Err-clause-dropped : goal.returns-in-Err-clause-dropped
returns-in-Err-clause-dropped c = λ e. dropped_as c.in-Err.error c.past_error.result e _ (c.past_error.ensures.dropped e) (c.in-Err.ensures.dropped e)
