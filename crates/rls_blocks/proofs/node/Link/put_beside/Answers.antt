use Rattle.std.proofs.Common.{◌+◌, ◌-◌, [], ◌∷◌, ◌++◌, length, ap, ◌∙◌, arith, append_assoc}
use Rattle.rls_blocks.specs.Trees.{entries_of}
use Rattle.rls_blocks.specs.Edits.{part_of}
use Rattle.rls_blocks.proofs.OneMore.{put_after_block, put_within_block}
use Rattle.rls_blocks.proofs.node.Link.put_beside.Goals as goal

pub returns-then-near-len-clause-ok : goal.returns-then-near-len-clause-ok
returns-then-near-len-clause-ok c =
    let o = c.of-opened.result in
    let far = c.join-right.ensures.blocks ∙ ap (λ t. t.blocks ++ c.args.new ∷ o.right.blocks) c.empty.ensures.empty in
    c.join.ensures.blocks ∙ ap (λ bs. o.left.blocks ++ o.own ∷ bs) far
    ∙ put_after_block c.args.new o.own o.left.blocks o.right.blocks c.args.node.value.blocks c.args.i (c.args.i - o.front) c.of-opened.ensures.blocks o.left_are c.len-len.ensures.piece (omega (arith, o.front_is, ap (λ t. length (entries_of t.blocks)) c.of-opened.ensures.left, c.requires.behind)) (omega (arith, c.len-len.ensures.len))

pub returns-in-Ok-clause-ok : goal.returns-in-Ok-clause-ok
returns-in-Ok-clause-ok c =
    let o = c.of-opened.result in
    let near = c.args.i - o.front + 1 in
    let front = c.join-left.ensures.blocks ∙ ap (λ t. o.left.blocks ++ c.in-Ok.front ∷ t.blocks) c.empty-in-Ok.ensures.empty in
    let behind = c.join-right-in-Ok.ensures.blocks ∙ ap (λ t. t.blocks ++ c.in-Ok.back ∷ o.right.blocks) c.empty-in-Ok-2.ensures.empty in
    c.join-in-Ok.ensures.blocks ∙ ap (λ bs. bs ++ c.args.new ∷ c.join-right-in-Ok.result.blocks) front ∙ ap (λ bs. (o.left.blocks ++ c.in-Ok.front ∷ []) ++ c.args.new ∷ bs) behind
    ∙ append_assoc o.left.blocks (c.in-Ok.front ∷ []) (c.args.new ∷ c.in-Ok.back ∷ o.right.blocks)
    ∙ ap (λ x. o.left.blocks ++ x ∷ c.args.new ∷ c.in-Ok.back ∷ o.right.blocks) c.in-Ok.ensures.front
    ∙ ap (λ y. o.left.blocks ++ part_of 0 near o.own ∷ c.args.new ∷ y ∷ o.right.blocks) c.in-Ok.ensures.back
    ∙ put_within_block c.args.new o.own o.left.blocks o.right.blocks c.args.node.value.blocks c.args.i (c.args.i - o.front) c.of-opened.ensures.blocks o.left_are c.len-len.ensures.piece (omega (arith, o.front_is, ap (λ t. length (entries_of t.blocks)) c.of-opened.ensures.left, c.requires.behind))
    (omega (arith, c.if-near-len.false, c.len-len.ensures.len, o.front_is, ap (λ t. length (entries_of t.blocks)) c.of-opened.ensures.left, ap (λ b. length b.1) c.of-opened.ensures.own, c.requires.behind, c.requires.place))
