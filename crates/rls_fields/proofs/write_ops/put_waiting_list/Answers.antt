use Rattle.std.proofs.Common.{arith}
use Rattle.rls_ops.specs.Sizes.{op_size}
use Rattle.rls_ops.specs.Spelling.{op_bytes}
use Rattle.rls_codec.specs.Spelled.{IsSpelledIfFit}
use Rattle.rls_fields.proofs.Puts.{put_next, fit_next, sum_next}
use Rattle.rls_fields.proofs.write_ops.put_waiting_list.Goals as goal

pub put_op-requires : goal.put_op-requires
put_op-requires c = record { small = omega (arith, sum_next op_size c.in-Some.op.now c.next.new.self c.loop-op.op-iterator c.in-Some.ensures.steps, c.loop-op.invariant.small) }

pub loop-op-preserved : goal.loop-op-preserved
loop-op-preserved c =
    let o = c.in-Some.op.now in
    let rest = c.next.new.self in
    let all = c.loop-op.op-iterator in
    let step = c.in-Some.ensures.steps in
    record {
      bytes = put_next op_bytes o rest all c.loop-op.out.items c.put_op.new.out.items _ step c.in_ok-put_op.ensures.ok c.loop-op.invariant.bytes;
      fits = fit_next IsSpelledIfFit o rest all step c.in_ok-put_op.ensures.fits c.loop-op.invariant.fits;
      small = omega (arith, sum_next op_size o rest all step, c.loop-op.invariant.small);
    }
