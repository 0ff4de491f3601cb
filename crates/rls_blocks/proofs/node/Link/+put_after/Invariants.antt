use Rattle.std.proofs.Common.{◌+◌, length}
use Rattle.rls_blocks.proofs.node.Link.+put_after.Given as goal

abbrev pub decreases-put_after : goal.decreases-put_after
decreases-put_after l = length l.self.now.blocks + length l.self.now.blocks + 1

abbrev pub decreases-put_left : goal.decreases-put_left
decreases-put_left l = length l.node.value.blocks + length l.node.value.blocks

abbrev pub decreases-put_right : goal.decreases-put_right
decreases-put_right l = length l.node.value.blocks + length l.node.value.blocks
