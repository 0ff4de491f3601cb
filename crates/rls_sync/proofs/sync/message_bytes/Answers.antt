use Rattle.std.proofs.Common.{◌∙◌, List, ap, arith, subst}
use Rattle.rls_codec.specs.CodecLaws.{IsMessage}
use Rattle.rls_ops.specs.Spelling.{message_bytes}
use Rattle.rls_seen.specs.Messages.{message_beyond}
use Rattle.rls_seen.proofs.Sending.{message_alike}
use Rattle.rls_sync.proofs.sync.message_bytes.Goals as goal

pub returns-clause-bytes : goal.returns-clause-bytes
returns-clause-bytes c = c.in_ok-spelled.ensures.bytes ∙ ap (λ v. message_bytes (message_beyond c.args.replica.now v)) c.in_ok-known.ensures.known

pub returns-clause-message : goal.returns-clause-message
returns-clause-message c = λ few. subst (λ v. IsMessage c.in_ok-spelled.field-0.items (message_beyond c.args.replica.now v)) c.in_ok-known.ensures.known (c.in_ok-spelled.ensures.message few)

pub returns-clause-stands : goal.returns-clause-stands
returns-clause-stands c = λ t h. returns-clause-bytes c ∙ ap message_bytes (message_alike c.args.replica.now t c.args.to (omega (arith, c.if-to-members.false, c.members.ensures.members)) h)
