use Rattle.std.proofs.Common.{sym, ap, ◌∙◌, ◌++◌, append_assoc}
use Rattle.rls_runs.specs.Entries.{chars_in}
use Rattle.rls_blocks.specs.Trees.{entries_of}
use Rattle.rls_blocks.proofs.Parts.{node_chars}
use Rattle.rls_blocks.proofs.node.+push_text.Goals as goal

pub Node::push_text-returns : goal.Node::push_text-returns
Node::push_text-returns t c =
    let old = c.args.text.now in
    let l = chars_in (entries_of c.self.inside.left.blocks) in
    let b = c.self.inside.block.1 in
    let r = chars_in (entries_of c.self.inside.right.blocks) in
    let all = node_chars c.self.inside.left.blocks c.self.inside.right.blocks c.self.inside.block c.args.self.now.blocks (ap (λ s. s.blocks) c.self.view_is) c.self.invariant.own_is in
    record {
      ok = c.in_ok-push_text-2.ensures.ok
          ∙ ap (λ cs. cs ++ r) (c.in_ok-append.ensures.ok ∙ ap (λ cs. cs ++ c.text.result.now) c.in_ok-push_text.ensures.ok ∙ ap (λ cs. (old ++ l) ++ cs) c.text.ensures.text)
          ∙ append_assoc (old ++ l) b r ∙ append_assoc old l (b ++ r) ∙ ap (λ cs. old ++ cs) (sym all);
    }
