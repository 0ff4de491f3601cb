use Rattle.std.proofs.Common.{rules}
use Rattle.rls_undo.proofs.Dropping.{plan_settled}
use Rattle.rls_undo.proofs.undo.Undo.catch_up.Goals as goal

pub returns-in-Ok-clause-plan : goal.returns-in-Ok-clause-plan
returns-in-Ok-clause-plan c = plan_settled c.args.replica.now c.args.self.now c.settle.new.self c.sane.ensures.sane c.is_behind.ensures.idents c.in-Ok.ensures.entries

pub returns-in-Err-clause-dropped : goal.returns-in-Err-clause-dropped
returns-in-Err-clause-dropped c = λ e. let d = c.in-Err.ensures.dropped e in (λ h. (search rules, d.0 h), λ h. d.1 h.1)
