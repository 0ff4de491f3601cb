use Rattle.std.proofs.Common.{◌++◌, sym, ap, ◌∙◌, append_assoc}
use Rattle.std.specs.Prelude.{encode_utf8, encode_utf8_all, take}
use Rattle.std.specs.String.{string_bytes}
use Rattle.rls_runs.proofs.Texts.{encodes_more}
use Rattle.rls_runs.proofs.text.push_chars.Goals as goal

pub loop-c-preserved : goal.loop-c-preserved
loop-c-preserved c =
    let more = encodes_more c.args.chars.now c.loop-c.c-index c.c-item.result c.loop-c-test.true c.c-item.is in
    let so_far = ap (λ b. b ++ encode_utf8 c.c-item.result) c.loop-c.invariant in
    c.in_ok-push.ensures.bytes ∙ so_far ∙ append_assoc (string_bytes c.args.text.now) (encode_utf8_all (take c.loop-c.c-index c.args.chars.now)) (encode_utf8 c.c-item.result) ∙ ap (λ b. string_bytes c.args.text.now ++ b) (sym more)
