use Rattle.std.proofs.Common.{◌-◌}
use Rattle.rls_blocks.specs.Trees.{entries_of}
use Rattle.rls_tree.proofs.Rested.{Left}
use Rattle.rls_tree.proofs.tree.BlockTree.parts_without.Given as goal

-- the parts so far
abbrev pub invariant-loop-at : goal.invariant-loop-at
invariant-loop-at l = record { left : Left l.targets (entries_of l.self.blocks) l.start l.end l.parts.items l.at }

abbrev pub decreases-loop-at : goal.decreases-loop-at
decreases-loop-at l = l.end - l.at
