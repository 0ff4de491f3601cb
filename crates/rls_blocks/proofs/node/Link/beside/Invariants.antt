use Rattle.std.proofs.Common.{◌≡◌, ◌≤◌, length}
use Rattle.std.specs.Prelude.{None}
use Rattle.std.specs.Option.{option_copied, option_map, option_or}
use Rattle.rls_blocks.specs.Trees.{entries_of}
use Rattle.rls_blocks.specs.Edits.{located}
use Rattle.rls_blocks.specs.Beside.{first_place, last_place, located_before}
use Rattle.rls_blocks.proofs.node.Link.beside.Given as goal

-- what stands beside the place in this part of the tree and the blocks on both sides of it stands beside it in the tree
abbrev pub invariant-loop-node : goal.invariant-loop-node
invariant-loop-node l = record {
  place : l.i ≤ length (entries_of l.link.blocks);
  before : located_before (option_map last_place (option_copied l.before)) l.link.blocks l.i ≡ located_before None l.fn.self.blocks l.fn.i;
  after : option_or (located l.link.blocks l.i) (option_map first_place (option_copied l.after)) ≡ located l.fn.self.blocks l.fn.i;
}

abbrev pub decreases-loop-node : goal.decreases-loop-node
decreases-loop-node l = length l.link.blocks
