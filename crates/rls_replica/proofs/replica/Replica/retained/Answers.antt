use Rattle.std.proofs.Common.{◌∙◌}
use Rattle.rls_seen.proofs.Keeping.{retained_alike}
use Rattle.rls_replica.proofs.replica.Replica.retained.Goals as goal

pub returns-clause-stands : goal.returns-clause-stands
returns-clause-stands c = λ t h. c.in_ok-retained.ensures.names ∙ retained_alike c.args.self.now t h
