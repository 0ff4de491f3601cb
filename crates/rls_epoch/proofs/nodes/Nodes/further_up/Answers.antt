use Rattle.std.proofs.Common.{arith}
use Rattle.rls_epoch.proofs.Jumping.{parent_up}
use Rattle.rls_epoch.proofs.nodes.Nodes.further_up.Goals as goal

pub returns-else-depth : goal.returns-else-depth
returns-else-depth c =
    let x = parent_up c.args.self.now.top c.args.self.now.placed c.count.ensures.laid c.args.number (omega arith) c.requires.within in
    let d = x.1 in
    let r = c.requires.deeper in
    rw c.up_of.ensures.up record { lesser = x.2; deep = omega (arith, d, r); above = x.0 }
