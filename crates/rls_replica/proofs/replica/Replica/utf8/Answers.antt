use Rattle.std.proofs.Common.{◌∙◌, ap}
use Rattle.std.specs.Prelude.{encode_utf8_all}
use Rattle.rls_seen.specs.Seen.{text_over}
use Rattle.rls_seen.proofs.Keeping.{text_alike}
use Rattle.rls_replica.proofs.replica.Replica.utf8.Goals as goal

pub returns-clause-stands : goal.returns-clause-stands
returns-clause-stands c = λ t h. c.in_ok-text.ensures.utf8 ∙ ap encode_utf8_all (ap text_over c.self.view_is ∙ text_alike c.args.self.now t h)
