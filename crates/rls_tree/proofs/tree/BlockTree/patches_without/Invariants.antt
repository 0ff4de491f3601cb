use Rattle.std.proofs.Common.{◌+◌, ◌-◌, ◌≤◌, true, false, length}
use Rattle.std.specs.Prelude.{reverse}
use Rattle.rls_runs.specs.Entries.{idents_in}
use Rattle.rls_blocks.specs.Trees.{entries_of}
use Rattle.rls_tree.specs.Targets.{AreMembers}
use Rattle.rls_tree.proofs.Planned.{end_of}
use Rattle.rls_tree.proofs.Kept.{Kept}
use Rattle.rls_tree.proofs.tree.BlockTree.patches_without.Given as goal

-- the patches so far, and the next target
abbrev pub invariant-loop-i : goal.invariant-loop-i
invariant-loop-i l = record {
  kept : Kept l.targets l.self.blocks (reverse l.patches.items) (end_of (reverse l.patches.items));
  order : end_of (reverse l.patches.items) ≤ l.i;
  within : l.i ≤ length (entries_of l.self.blocks);
  none : AreMembers false l.targets (idents_in (entries_of l.self.blocks)) (end_of (reverse l.patches.items)) l.i;
  there : AreMembers true l.targets (idents_in (entries_of l.self.blocks)) l.i (l.i + 1);
}

abbrev pub decreases-loop-i : goal.decreases-loop-i
decreases-loop-i l = length (entries_of l.self.blocks) - end_of (reverse l.patches.items)
