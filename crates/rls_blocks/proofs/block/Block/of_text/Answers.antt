use Rattle.std.proofs.Common.{length, arith}
use Rattle.rls_runs.proofs.RunEnds.{run_short}
use Rattle.rls_blocks.proofs.block.Block.of_text.Goals as goal

pub overflow_cast-len : goal.overflow_cast-len
overflow_cast-len c = omega (arith, run_short (c.args.first.now, length c.args.text.now) c.requires.piece.sound, c.len-len.ensures.len)
