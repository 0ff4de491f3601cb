use Rattle.std.proofs.Common.{arith}
use Rattle.rls_epoch.proofs.Jumping.{up_again, up_self}
use Rattle.rls_epoch.proofs.nodes.Nodes.ancestor.Goals as goal

pub loop-at-init : goal.loop-at-init
loop-at-init c = record { within = omega arith; deep = c.requires.deep; above = up_self c.args.self.now.top c.args.self.now.placed c.args.number }

pub loop-at-preserved : goal.loop-at-preserved
loop-at-preserved c =
    let i = c.loop-at.invariant in
    record {
      within = omega arith;
      deep = c.further_up-at.ensures.deep;
      above = up_again c.args.self.now.top c.args.self.now.placed c.args.number c.loop-at.at c.further_up-at.result i.above c.further_up-at.ensures.above;
    }
