use Rattle.std.proofs.Common.{◌∙◌}
use Rattle.rls_replica.proofs.GivenPieces.{held_more}
use Rattle.rls_replica.proofs.restoring.held.Goals as goal

pub loop-op-preserved : goal.loop-op-preserved
loop-op-preserved c =
    held_more c.args.ops.now c.loop-op.held c.put.new.self c.loop-op.op-index c.op-item.result c.in_ok-copy.field-0 c.requires.order c.loop-op-test.true c.loop-op.invariant (c.in_ok-copy.ensures.copy ∙ c.op-item.is) c.in_ok-put.ensures.after
