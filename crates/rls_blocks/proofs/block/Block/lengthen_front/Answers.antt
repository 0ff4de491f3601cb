use Rattle.std.proofs.Common.{arith}
use Rattle.rls_runs.proofs.RunEnds.{run_short}
use Rattle.rls_blocks.specs.Edits.{lengthened_front}
use Rattle.rls_blocks.proofs.block.Block.lengthen_front.Goals as goal

pub overflow_cast-more : goal.overflow_cast-more
overflow_cast-more c = omega (arith, run_short (lengthened_front c.args.text.now c.args.self.now).0 c.requires.fits, c.len-more.ensures.len)
