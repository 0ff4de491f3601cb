use Rattle.std.proofs.Common.{◌≡◌, ◌+◌, ◌-◌, ◌<◌, ◌≤◌, ◌++◌, None, true, length, drop}
use Rattle.rls_blocks.specs.Trees.{entries_of, runs_in}
use Rattle.rls_blocks.specs.Edits.{are_loose}
use Rattle.rls_tree.specs.Gaps.{AreGaps, filled}
use Rattle.rls_tree.proofs.tree.BlockTree.patch_with.Given as goal

-- the blocks have what is there up to the place, with what goes in
abbrev pub invariant-loop-gaps : goal.invariant-loop-gaps
invariant-loop-gaps l = record {
  order : l.from ≤ l.at;
  places : AreGaps l.at l.gaps.items (length (entries_of l.self.blocks));
  fewer : (length (entries_of l.self.blocks) - l.at) + length l.gaps.items < (length (entries_of l.self.blocks) - l.from) + length l.fn.gaps.items;
  entries : entries_of l.blocks.items ++ filled l.at l.gaps.items (entries_of l.self.blocks) (λ k. drop k (entries_of l.self.blocks)) ≡ filled l.from l.fn.gaps.items (entries_of l.self.blocks) (λ k. drop k (entries_of l.self.blocks));
  some : 0 < length (entries_of l.blocks.items);
  loose : are_loose None (runs_in l.blocks.items) ≡ true;
}

abbrev pub decreases-loop-gaps : goal.decreases-loop-gaps
decreases-loop-gaps l = (length (entries_of l.self.blocks) - l.at) + length l.gaps.items
