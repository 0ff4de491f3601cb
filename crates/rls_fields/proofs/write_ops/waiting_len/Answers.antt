use Rattle.std.proofs.Common.{sum_by, ap, arith}
use Rattle.rls_ops.specs.Sizes.{op_size}
use Rattle.rls_fields.proofs.Puts.{sum_next}
use Rattle.rls_fields.proofs.write_ops.waiting_len.Goals as goal

pub loop-op-preserved : goal.loop-op-preserved
loop-op-preserved c =
    let more = sum_next op_size c.in-Some.op.now c.next.new.self c.loop-op.op-iterator c.in-Some.ensures.steps in
    record { size = omega (arith, more, c.encoded_len.ensures.size, c.saturating_add-total.ensures, c.loop-op.invariant.size); fits = omega (arith, c.saturating_add-total.ensures) }

pub returns : goal.returns
returns c =
    let none = ap (sum_by op_size) c.in-None.ensures.steps.0 in
    record { size = omega (arith, none, c.loop-op.invariant.size, c.loop-op.invariant.fits) }
