use Rattle.std.proofs.Common.{◌∙◌, ap, length}
use Rattle.rls_seen.specs.Seen.{members}
use Rattle.rls_seen.proofs.Alike.{members_alike}
use Rattle.rls_replica.proofs.replica.Replica.members.Goals as goal

pub returns-clause-stands : goal.returns-clause-stands
returns-clause-stands c = λ t h. c.len.ensures.len ∙ (ap length c.mine.ensures.mine ∙ (ap members c.self.view_is ∙ members_alike c.args.self.now t h))
