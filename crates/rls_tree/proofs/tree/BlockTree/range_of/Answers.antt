use Rattle.rls_runs.proofs.RunsOf.{some_runs}
use Rattle.rls_tree.proofs.tree.BlockTree.range_of.Goals as goal

pub run-requires : goal.run-requires
run-requires c = record { place = some_runs c.args.targets.now c.requires.some }
