use Rattle.std.proofs.Common.{◌≡◌, ◌-◌, ◌<◌, ◌≤◌, length, arith}
use Rattle.rls_epoch.specs.Links.{up_at}
use Rattle.rls_epoch.proofs.Jumping.{child_some, parent_up}
use Rattle.rls_epoch.proofs.Meeting.{above_more}
use Rattle.rls_epoch.proofs.nodes.Nodes.climb_to.Goals as goal

pub climbed-requires-clause-some : goal.climbed-requires-clause-some
climbed-requires-clause-some c =
    rw c.starting_at-2.ensures.start (child_some c.args.self.now.top c.args.self.now.placed c.count-count.ensures.laid c.ancestor.result c.args.depth c.ancestor.ensures.depth)

module _ (c : goal.After-climbed) where
  some : 0 < c.ancestor.result
  some = child_some _ _ c.count-count.ensures.laid c.ancestor.result c.args.depth c.ancestor.ensures.depth

  within : c.ancestor.result ≤ length c.args.self.now.placed
  within = omega (arith, c.ancestor.ensures.within, c.requires.within)

  up : c.climbed.result.at ≡ up_at c.args.self.now.placed (c.ancestor.result - 1)
  up = rw c.starting_at-2.ensures.start at c.climbed.ensures.at

pub returns-clause-depth : goal.returns-clause-depth
returns-clause-depth c = λ h.
    let d = (parent_up _ _ c.count-count.ensures.laid c.ancestor.result (some c) (within c)).1 in
    rw (up c) (omega (arith, d, c.ancestor.ensures.depth))

pub returns-clause-above : goal.returns-clause-above
returns-clause-above c =
    above_more _ _ c.count-count.ensures.laid c.args.number c.ancestor.result c.climbed.result (some c) (within c) (up c) (rw c.starting_at-2.ensures.start at c.climbed.ensures.below) c.ancestor.ensures.above

pub returns-clause-within : goal.returns-clause-within
returns-clause-within c =
    let u = (parent_up _ _ c.count-count.ensures.laid c.ancestor.result (some c) (within c)).2 in
    rw (up c) (omega (arith, u, within c))
