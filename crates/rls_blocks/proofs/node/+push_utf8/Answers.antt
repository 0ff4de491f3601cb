use Rattle.std.proofs.Common.{sym, ap, ◌∙◌, ◌++◌, append_assoc}
use Rattle.std.specs.Prelude.{encode_utf8_all}
use Rattle.std.specs.String.{string_bytes}
use Rattle.std.proofs.lemmas.Str.{encodes-append}
use Rattle.rls_runs.specs.Entries.{chars_in}
use Rattle.rls_blocks.specs.Trees.{entries_of}
use Rattle.rls_blocks.proofs.Parts.{node_chars}
use Rattle.rls_blocks.proofs.node.+push_utf8.Goals as goal

pub Node::push_utf8-returns : goal.Node::push_utf8-returns
Node::push_utf8-returns t c =
    let old = string_bytes c.args.to.now in
    let l = chars_in (entries_of c.self.inside.left.blocks) in
    let b = c.self.inside.block.1 in
    let r = chars_in (entries_of c.self.inside.right.blocks) in
    let all = node_chars c.self.inside.left.blocks c.self.inside.right.blocks c.self.inside.block c.args.self.now.blocks (ap (λ s. s.blocks) c.self.view_is) c.self.invariant.own_is in
    let spelled = encodes-append l (b ++ r) ∙ ap (λ cs. encode_utf8_all l ++ cs) (encodes-append b r) in
    record {
      ok = c.in_ok-push_utf8-3.ensures.ok
          ∙ ap (λ cs. cs ++ encode_utf8_all r) (c.in_ok-push_utf8-2.ensures.ok ∙ ap (λ cs. cs ++ encode_utf8_all c.text.result.now) c.in_ok-push_utf8.ensures.ok ∙ ap (λ cs. (old ++ encode_utf8_all l) ++ encode_utf8_all cs) c.text.ensures.text)
          ∙ append_assoc (old ++ encode_utf8_all l) (encode_utf8_all b) (encode_utf8_all r) ∙ append_assoc old (encode_utf8_all l) (encode_utf8_all b ++ encode_utf8_all r) ∙ ap (λ cs. old ++ cs) (sym (ap encode_utf8_all all ∙ spelled));
    }
