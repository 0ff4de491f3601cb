use Rattle.std.proofs.Common.{arith}
use Rattle.rls_epoch.proofs.Jumping.{depth_right}
use Rattle.rls_epoch.proofs.nodes.Nodes.depth.Goals as goal

pub returns-clause-depth : goal.returns-clause-depth
returns-clause-depth c =
    let w = rw (← c.self.view_is) at c.requires.within in
    let q = c.self.invariant.2 in
    rw (c.depth_of.ensures.depth, c.deref.ensures.value, ← c.self.view_is) (depth_right c.self.inside.top c.self.inside.list.items c.self.invariant.0 c.self.inside.jumps.items c.self.invariant.3 c.args.number (omega (arith, w, q)))
