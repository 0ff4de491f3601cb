use Rattle.std.proofs.Common.{arith}
use Rattle.rls_ops.proofs.Sizes.{ops_within}
use Rattle.rls_fields.proofs.write_ops.put_waiting.Goals as goal

pub overflow_cast-len : goal.overflow_cast-len
overflow_cast-len c = omega (arith, ops_within c.args.held.now, c.requires.small, c.len.ensures.len)
