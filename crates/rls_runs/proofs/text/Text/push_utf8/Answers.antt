use Rattle.std.proofs.Common.{◌++◌, sym, ap, ◌∙◌, append_assoc}
use Rattle.std.specs.Prelude.{encode_utf8_all}
use Rattle.std.specs.String.{string_bytes}
use Rattle.std.proofs.lemmas.Str.{encodes-append}
use Rattle.rls_runs.proofs.text.Text.push_utf8.Goals as goal

pub returns : goal.returns
returns c =
    let front = c.as_slices.result.0.now in
    let back = c.as_slices.result.1.now in
    let old = string_bytes c.args.to.now in
    record { ok = c.in_ok-push_chars-2.ensures.ok ∙ ap (λ b. b ++ encode_utf8_all back) c.in_ok-push_chars.ensures.ok ∙ append_assoc old (encode_utf8_all front) (encode_utf8_all back) ∙ ap (λ b. old ++ b) (sym (encodes-append front back) ∙ ap encode_utf8_all c.as_slices.ensures.chars) }
