use Rattle.std.proofs.Common.{length, ap, arith}
use Rattle.rls_steps.proofs.names.Names.len.Goals as goal

pub returns : goal.returns
returns c =
    let count = c.self.invariant.count in
    let view = ap length c.self.view_is in
    record { len = omega (arith, count, view) }
