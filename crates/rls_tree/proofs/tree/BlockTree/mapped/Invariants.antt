use Rattle.std.proofs.Common.{◌-◌, ◌≤◌, length, take}
use Rattle.rls_runs.specs.Entries.{with_idents}
use Rattle.rls_blocks.specs.Trees.{entries_of}
use Rattle.rls_blocks.specs.Edits.{Shows}
use Rattle.rls_tree.proofs.tree.BlockTree.mapped.Given as goal

abbrev pub invariant-loop-at : goal.invariant-loop-at
invariant-loop-at g l = record {
  within : l.at ≤ length (entries_of l.self.blocks);
  shows : Shows (with_idents (g.F.RunMap.image l.map) (take l.at (entries_of l.self.blocks))) l.blocks.items;
}

abbrev pub decreases-loop-at : goal.decreases-loop-at
decreases-loop-at g l = length (entries_of l.self.blocks) - l.at
