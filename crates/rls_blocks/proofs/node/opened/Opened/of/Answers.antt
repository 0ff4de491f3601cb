use Rattle.std.proofs.Common.{length, ap, ◌∙◌, arith}
use Rattle.rls_blocks.specs.Trees.{entries_of}
use Rattle.rls_blocks.proofs.Pieces.{node_length}
use Rattle.rls_blocks.proofs.node.opened.Opened.of.Goals as goal

pub returns-clause-chars : goal.returns-clause-chars
returns-clause-chars c =
    let all = ap (λ s. length (entries_of s.blocks)) (c.inner.view_is ∙ c.deref_mut-inner.ensures.value) in
    omega (arith, all, node_length c.inner.inside.left.blocks c.inner.inside.right.blocks c.inner.inside.block c.inner.invariant.own_is)

pub returns-clause-chars_fit : goal.returns-clause-chars_fit
returns-clause-chars_fit c =
    let all = ap (λ s. length (entries_of s.blocks)) (c.inner.view_is ∙ c.deref_mut-inner.ensures.value) in
    omega (arith, all, node_length c.inner.inside.left.blocks c.inner.inside.right.blocks c.inner.inside.block c.inner.invariant.own_is)
