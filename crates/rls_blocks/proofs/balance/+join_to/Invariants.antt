use Rattle.rls_blocks.proofs.balance.+join_to.Given as goal

abbrev pub decreases-join_to : goal.decreases-join_to
decreases-join_to l = l.high.height
