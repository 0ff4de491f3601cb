use Rattle.std.proofs.Common.{arith}
use Rattle.rls_epoch.proofs.Jumping.{above_again}
use Rattle.rls_epoch.proofs.nodes.Nodes.climb_both.Goals as goal

pub returns-clause-left : goal.returns-clause-left
returns-clause-left c =
    let x = c.siblings_above-x in
    above_again _ _ c.count-count.ensures.laid c.args.a x.result.0 c.climb_to-left.result c.climbed.result c.climb_to-left.ensures.above x.ensures.left x.ensures.some (omega (arith, x.ensures.within, c.climb_to-left.ensures.within))
    (rw c.starting_at.ensures.start at c.climbed.ensures.at) (rw c.starting_at.ensures.start at c.climbed.ensures.below)

pub returns-clause-right : goal.returns-clause-right
returns-clause-right c =
    let x = c.siblings_above-x in
    above_again _ _ c.count-count.ensures.laid c.args.b x.result.1 c.climb_to-right.result c.climbed-2.result c.climb_to-right.ensures.above x.ensures.right x.ensures.other_some (omega (arith, x.ensures.other_within, c.climb_to-right.ensures.within))
    (rw c.starting_at-2.ensures.start at c.climbed-2.ensures.at) (rw c.starting_at-2.ensures.start at c.climbed-2.ensures.below)
