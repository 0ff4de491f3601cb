use Rattle.std.proofs.Common.{◌≡◌, ◌-◌, ◌<◌, ◌≤◌, None, true, length, take, drop}
use Rattle.rls_runs.specs.Entries.{without_all}
use Rattle.rls_blocks.specs.Trees.{entries_of, runs_in}
use Rattle.rls_blocks.specs.Edits.{are_loose}
use Rattle.rls_tree.proofs.tree.BlockTree.patch_from.Given as goal

-- the blocks have what stays of the characters up to the place
abbrev pub invariant-loop-blocks : goal.invariant-loop-blocks
invariant-loop-blocks l = record {
  order : l.from < l.at;
  within : l.at ≤ length (entries_of l.self.blocks);
  entries : entries_of l.blocks.items ≡ without_all l.targets (take (l.at - l.from) (drop l.from (entries_of l.self.blocks)));
  loose : are_loose None (runs_in l.blocks.items) ≡ true;
}

abbrev pub decreases-loop-blocks : goal.decreases-loop-blocks
decreases-loop-blocks l = length (entries_of l.self.blocks) - l.at
