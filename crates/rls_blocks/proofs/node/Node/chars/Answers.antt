use Rattle.std.proofs.Common.{arith, length, ap, subst}
use Rattle.rls_blocks.specs.Trees.{entries_of, ArePieces}
use Rattle.rls_blocks.proofs.Pieces.{node_length, are_append}
use Rattle.rls_blocks.proofs.node.Node.chars.Goals as goal

pub returns-clause-chars : goal.returns-clause-chars
returns-clause-chars c =
    let n = node_length c.self.inside.left.blocks c.self.inside.right.blocks c.self.inside.block c.self.invariant.own_is in
    let v = ap (λ s. length (entries_of s.blocks)) c.self.view_is in
    omega (arith, n, v)

pub returns-clause-pieces : goal.returns-clause-pieces
returns-clause-pieces c = subst (λ s. ArePieces s.blocks) c.self.view_is (are_append c.self.inside.left.blocks c.self.inside.block c.self.inside.right.blocks c.self.invariant.left_are c.self.invariant.own_is c.self.invariant.right_are)
