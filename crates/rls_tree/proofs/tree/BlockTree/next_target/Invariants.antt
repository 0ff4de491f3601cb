use Rattle.std.proofs.Common.{◌≤◌, ◌-◌, false, length}
use Rattle.rls_runs.specs.Entries.{idents_in}
use Rattle.rls_blocks.specs.Trees.{entries_of}
use Rattle.rls_tree.specs.Targets.{AreMembers}
use Rattle.rls_tree.proofs.tree.BlockTree.next_target.Given as goal

abbrev pub invariant-loop-i : goal.invariant-loop-i
invariant-loop-i l = record {
  order : l.at ≤ l.i;
  within : l.i ≤ length (entries_of l.self.blocks);
  none : AreMembers false l.targets (idents_in (entries_of l.self.blocks)) l.at l.i;
}

abbrev pub decreases-loop-i : goal.decreases-loop-i
decreases-loop-i l = length (entries_of l.self.blocks) - l.i
