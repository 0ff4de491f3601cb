use Rattle.std.proofs.Common.{arith}
use Rattle.rls_codec.proofs.Within.{op}
use Rattle.rls_codec.proofs.reading.placed_op.Goals as goal

pub overflow_sub-result : goal.overflow_sub-result
overflow_sub-result c = omega (arith, (op c.args.members).rest c.split_at.result.1.now c.in-Ok.op c.in-Ok.after.now c.in-Ok.ensures.read, c.split_at.ensures.back_len)

pub overflow_sub-result-in-Err-Fault : goal.overflow_sub-result-in-Err-Fault
overflow_sub-result-in-Err-Fault c =
    let e = rw c.in-Err-Fault.field-0-is at c.in-Err-Fault.ensures.read in
    omega (arith, (op c.args.members).left c.split_at.result.1.now c.in-Err-Fault.left e, c.split_at.ensures.back_len)
