use Rattle.std.proofs.Common.{◌+◌, length, arith}
use Rattle.rls_runs.proofs.RunEnds.{run_short}
use Rattle.rls_blocks.proofs.block.Block.lengthen.Goals as goal

pub overflow_cast-more : goal.overflow_cast-more
overflow_cast-more c = omega (arith, run_short (c.args.self.now.0.0, c.args.self.now.0.1 + length c.args.text.now) c.requires.fits, c.len-more.ensures.len)
