use Rattle.std.proofs.Common.{◌++◌, ap, ◌∙◌}
use Rattle.std.specs.Prelude.{encode_utf8_all}
use Rattle.rls_runs.proofs.text.Text.to_utf8.Goals as goal

pub returns : goal.returns
returns c = record { utf8 = c.in_ok-push_utf8.ensures.ok ∙ ap (λ b. b ++ encode_utf8_all c.args.self.now) c.in_ok-text.ensures.bytes }
