use Rattle.std.proofs.Common.{◌∙◌, ap, arith}
use Rattle.rls_seen.specs.Messages.{message_beyond}
use Rattle.rls_seen.proofs.Sending.{told_alike}
use Rattle.rls_replica.proofs.replica.Replica.message_told.Goals as goal

pub returns-clause-message : goal.returns-clause-message
returns-clause-message c = c.in_ok-message_beyond.ensures.message ∙ ap (message_beyond c.args.self.now) c.in_ok-known.ensures.known

pub returns-clause-stands : goal.returns-clause-stands
returns-clause-stands c = λ t h. returns-clause-message c ∙ told_alike c.args.self.now t c.args.to c.args.told.now (omega (arith, c.if-to-members.false, c.members.ensures.members)) c.requires.counts h
