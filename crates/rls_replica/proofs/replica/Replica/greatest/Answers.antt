use Rattle.std.proofs.Common.{◌∙◌, ap}
use Rattle.rls_seen.specs.Seen.{greatest_over}
use Rattle.rls_seen.proofs.Alike.{greatest_alike}
use Rattle.rls_replica.proofs.replica.Replica.greatest.Goals as goal

pub returns-clause-stands : goal.returns-clause-stands
returns-clause-stands c = λ t h. c.greatest.ensures.greatest ∙ (ap greatest_over c.self.view_is ∙ greatest_alike c.args.self.now t h)
