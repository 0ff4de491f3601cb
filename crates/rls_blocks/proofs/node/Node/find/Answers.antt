use Rattle.rls_runs.specs.Runs.{idents_of}
use Rattle.rls_runs.proofs.Fronts.{above_none, below_none}
use Rattle.rls_blocks.specs.Trees.{runs_in}
use Rattle.rls_blocks.proofs.node.Node.find.Goals as goal

pub find_within-requires-clause-low : goal.find_within-requires-clause-low
find_within-requires-clause-low c = above_none c.args.id.now (idents_of (runs_in c.args.self.now.blocks))

pub find_within-requires-clause-high : goal.find_within-requires-clause-high
find_within-requires-clause-high c = below_none c.args.id.now (idents_of (runs_in c.args.self.now.blocks))
