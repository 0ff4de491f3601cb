use Rattle.std.proofs.Common.{sym}
use Rattle.rls_epoch.proofs.Listed.{node_first, node_later}
use Rattle.rls_epoch.proofs.nodes.Nodes.node.Goals as goal

pub returns-then-number-eq0-clause-node : goal.returns-then-number-eq0-clause-node
returns-then-number-eq0-clause-node c = sym (node_first c.args.self.now.top c.args.self.now.placed c.count-count.ensures.laid c.args.number c.if-number-eq0.true)

pub returns-clause-node : goal.returns-clause-node
returns-clause-node c = sym (node_later c.args.self.now.top c.args.self.now.placed c.count-count.ensures.laid c.args.number c.at.result.now c.if-number-eq0.false c.requires.within c.at.ensures.node)
