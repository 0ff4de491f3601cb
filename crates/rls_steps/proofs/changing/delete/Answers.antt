use Rattle.std.proofs.Common.{◌∙◌, ap}
use Rattle.rls_seen.specs.Seen.{Seen}
use Rattle.rls_steps.proofs.Unchanged.{delete_epochs}
use Rattle.rls_steps.proofs.changing.delete.Goals as goal

pub returns-in-Ok-clause-epochs : goal.returns-in-Ok-clause-epochs
returns-in-Ok-clause-epochs c = ap (λ (s : Seen). s.epochs) c.in-Ok.ensures.after ∙ delete_epochs c.args.replica.now c.args.at c.args.count
