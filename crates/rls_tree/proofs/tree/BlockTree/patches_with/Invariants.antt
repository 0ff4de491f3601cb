use Rattle.std.proofs.Common.{◌+◌, ◌-◌, length, drop}
use Rattle.std.specs.Prelude.{reverse}
use Rattle.rls_blocks.specs.Trees.{entries_of}
use Rattle.rls_tree.specs.Gaps.{filled}
use Rattle.rls_tree.proofs.Planned.{end_of}
use Rattle.rls_tree.proofs.Grown.{Grown}
use Rattle.rls_tree.proofs.tree.BlockTree.patches_with.Given as goal

abbrev pub invariant-loop-gap : goal.invariant-loop-gap
invariant-loop-gap l = Grown (filled 0 l.fn.gaps.items (entries_of l.self.blocks) (λ k. drop k (entries_of l.self.blocks))) l.self.blocks l.gaps.items (reverse l.patches.items)

abbrev pub decreases-loop-gap : goal.decreases-loop-gap
decreases-loop-gap l = (length (entries_of l.self.blocks) - end_of (reverse l.patches.items)) + length l.gaps.items
