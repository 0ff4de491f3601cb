use Rattle.std.proofs.Common.{arith}
use Rattle.rls_blocks.proofs.Low.{low_is_small}
use Rattle.rls_blocks.proofs.node.Node.height.Goals as goal

pub returns-clause-small : goal.returns-clause-small
returns-clause-small c = low_is_small c.self.inside.height c.self.inside.blocks c.self.invariant.low (omega (arith, c.self.invariant.count_most))
