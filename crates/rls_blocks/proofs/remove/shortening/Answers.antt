use Rattle.std.proofs.Common.{arith}
use Rattle.rls_blocks.proofs.Changed.{front_stays, back_stays}
use Rattle.rls_blocks.proofs.remove.shortening.Goals as goal

pub returns-then-count-rest-clause-shows : goal.returns-then-count-rest-clause-shows
returns-then-count-rest-clause-shows c =
    back_stays c.args.link.now.blocks c.locate-at.result.0.now c.locate-at.result.1 c.args.i c.args.count c.chars-chars.ensures.pieces c.locate-at.ensures.located (omega arith) c.requires.apart (omega arith) c.requires.some (omega arith)

pub returns-then-count-rest-2-clause-shows : goal.returns-then-count-rest-2-clause-shows
returns-then-count-rest-2-clause-shows c =
    front_stays c.args.link.now.blocks c.locate-at.result.0.now c.locate-at.result.1 c.args.i c.args.count c.chars-chars.ensures.pieces c.locate-at.ensures.located (omega arith) c.requires.apart (omega arith) (omega arith) (omega arith)
