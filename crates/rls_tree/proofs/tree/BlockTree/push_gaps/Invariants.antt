use Rattle.std.proofs.Common.{◌-◌, ◌≤◌, ◌++◌, drop}
use Rattle.rls_runs.specs.Entries.{Entries}
use Rattle.rls_blocks.specs.Trees.{entries_of, piece_entries}
use Rattle.rls_tree.specs.Gaps.{Leaves}
use Rattle.rls_tree.proofs.tree.BlockTree.push_gaps.Given as goal

abbrev pub invariant-loop-done : goal.invariant-loop-done
invariant-loop-done l = record {
  within : l.done ≤ l.run.1;
  leaves : (more all : Entries) → Leaves (entries_of l.self.blocks) l.fn.gaps.items (piece_entries (l.run, l.text) ++ more) all → Leaves (entries_of l.self.blocks) l.gaps.items (drop l.done (piece_entries (l.run, l.text)) ++ more) all;
}

abbrev pub decreases-loop-done : goal.decreases-loop-done
decreases-loop-done l = l.run.1 - l.done
