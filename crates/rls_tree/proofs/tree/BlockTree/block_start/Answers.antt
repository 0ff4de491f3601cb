use Rattle.rls_tree.proofs.Starts.{begins}
use Rattle.rls_tree.proofs.tree.BlockTree.block_start.Goals as goal

pub overflow_sub-result : goal.overflow_sub-result
overflow_sub-result c = (begins c.args.self.now.blocks c.args.i c.locate-at.result.1 c.locate-at.result.0.now c.chars-chars.ensures.pieces c.requires.place c.locate-at.ensures.located).within

pub returns-clause-between : goal.returns-clause-between
returns-clause-between c = (begins c.args.self.now.blocks c.args.i c.locate-at.result.1 c.locate-at.result.0.now c.chars-chars.ensures.pieces c.requires.place c.locate-at.ensures.located).between

pub returns-clause-last : goal.returns-clause-last
returns-clause-last c = (begins c.args.self.now.blocks c.args.i c.locate-at.result.1 c.locate-at.result.0.now c.chars-chars.ensures.pieces c.requires.place c.locate-at.ensures.located).last
