use Rattle.std.proofs.Common.{refl}
use Rattle.rls_steps.proofs.Errors.{err_back}
use Rattle.rls_steps.proofs.steps.Steps.take_back.Goals as goal

pub returns-in_err-settle_for-clause-dropped : goal.returns-in_err-settle_for-clause-dropped
returns-in_err-settle_for-clause-dropped c = λ e h. let d = (c.in_err-settle_for.ensures.dropped e).0 (err_back c.from_residual.result c.in_err-settle_for.field-0.0 _ c.from_residual.ensures.1 h) in (d.0, d.1, refl, c.in_err-settle_for.ensures.stays, refl)
