use Rattle.std.proofs.Common.{length}
use Rattle.rls_blocks.proofs.split.+split.Given as goal

abbrev pub decreases-split : goal.decreases-split
decreases-split l = length l.link.blocks
