use Rattle.std.proofs.Common.{length, ap, ◌∙◌, arith}
use Rattle.rls_blocks.specs.Trees.{Piece, entries_of}
use Rattle.rls_blocks.proofs.Pieces.{node_length, piece_some, count_most}
use Rattle.rls_blocks.proofs.Changed.{sound_of}
use Rattle.rls_blocks.proofs.node.opened.Opened.close.Goals as goal

pub overflow_add-inner-3 : goal.overflow_add-inner-3
overflow_add-inner-3 c =
    let own = ap (λ (b : Piece). length b.1) (ap (λ s. s.block) (c.inner.view_is ∙ c.deref_mut-inner.ensures.value) ∙ c.own.view_is) in
    omega (arith, own, piece_some c.inner.inside.block c.inner.invariant.own_is, count_most c.args.self.left.blocks c.args.self.left_are, count_most c.args.self.right.blocks c.args.self.right_are)

pub invariant_of-inner : goal.invariant_of-inner
invariant_of-inner c =
    let s = c.args.self in
    sound_of s.left s.right c.inner.inside.block _ _ _ _ _ c.inner.invariant.own_is s.left_are s.right_are s.left_low s.right_low s.left_not_higher s.right_not_higher s.front_is (omega arith) (omega arith) (omega arith) s.height_is

pub returns-clause-chars : goal.returns-clause-chars
returns-clause-chars c =
    let s = c.args.self in
    let own = ap (λ (b : Piece). length b.1) (ap (λ s. s.block) (c.inner.view_is ∙ c.deref_mut-inner.ensures.value) ∙ c.own.view_is) in
    let all = ap (λ bs. length (entries_of bs)) c.to.ensures.blocks in
    omega (arith, own, all, node_length s.left.blocks s.right.blocks c.inner.inside.block c.inner.invariant.own_is)
