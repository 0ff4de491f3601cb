use Rattle.std.proofs.Common.{append_assoc, ◌∙◌, ap, sym, ◌++◌, take}
use Rattle.std.specs.Prelude.{encode_utf8, encode_utf8_all}
use Rattle.rls_runs.proofs.Texts.{encodes_more}
use Rattle.rls_codec.proofs.Appending.{front_append, front_then}
use Rattle.rls_codec.proofs.puts.put_each.Goals as goal

pub loop-c-preserved : goal.loop-c-preserved
loop-c-preserved c =
    let x = c.c-item.result in
    let start = c.args.out.now.items in
    let so_far = encode_utf8_all (take c.loop-c.c-index c.args.chars.now) in
    c.in_ok-put_char.ensures.ok
    ∙ ap (λ w. w ++ encode_utf8 x) c.loop-c.invariant
    ∙ append_assoc start so_far (encode_utf8 x)
    ∙ ap (λ w. start ++ w) (sym (encodes_more c.args.chars.now c.loop-c.c-index x c.loop-c-test.true c.c-item.is))

pub returns-in_err-put_char-clause-keeps : goal.returns-in_err-put_char-clause-keeps
returns-in_err-put_char-clause-keeps c =
    front_then c.args.out.now.items c.loop-c.out.items c.put_char.new.out.items (front_append c.args.out.now.items c.loop-c.out.items _ c.loop-c.invariant) c.put_char.ensures.keeps
