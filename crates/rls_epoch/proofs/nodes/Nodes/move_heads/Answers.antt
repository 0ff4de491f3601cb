use Rattle.rls_epoch.specs.declared.ways.Step.TheVariants.{Back}
use Rattle.std.proofs.Common.{length}
use Rattle.rls_epoch.proofs.Turning.{within_at}
use Rattle.rls_epoch.proofs.nodes.Nodes.move_heads.Goals as goal

pub move_head-requires : goal.move_head-requires
move_head-requires c = record { within = within_at (length c.args.self.now.placed) c.args.steps.now c.loop-count.count (Back 0) c.requires.within c.loop-count-test.true }
