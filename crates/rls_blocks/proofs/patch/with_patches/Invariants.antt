use Rattle.std.proofs.Common.{◌≡◌, ◌++◌, length}
use Rattle.std.specs.Prelude.{reverse}
use Rattle.rls_blocks.specs.Patches.{patched, ArePatches}
use Rattle.rls_blocks.proofs.patch.with_patches.Given as goal

-- the trees before and after come to all blocks
abbrev pub invariant-loop-patch : goal.invariant-loop-patch
invariant-loop-patch l = record {
  patches : ArePatches (reverse l.patches.items) l.front.blocks;
  blocks : patched (reverse l.patches.items) l.front.blocks ++ l.behind.blocks ≡ patched (reverse l.fn.patches.items) l.fn.link.blocks;
}

abbrev pub decreases-loop-patch : goal.decreases-loop-patch
decreases-loop-patch l = length l.patches.items
