use Rattle.rls_blocks.proofs.build.+tree_of_last.Given as goal

abbrev pub decreases-tree_of_last : goal.decreases-tree_of_last
decreases-tree_of_last l = l.count
