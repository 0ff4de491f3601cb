use Rattle.rls_blocks.proofs.node.+change_at.Given as goal

abbrev pub decreases-Link::change_at : goal.decreases-Link::change_at
decreases-Link::change_at l = goal.size-Link::change_at l

abbrev pub decreases-Node::change_at : goal.decreases-Node::change_at
decreases-Node::change_at l = goal.size-Node::change_at l
