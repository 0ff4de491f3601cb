use Rattle.std.proofs.Common.{◌+◌, ◌-◌, ◌/◌, arith}
use Rattle.rls_parts.proofs.Placing.{place_most, behind_read, up_to_read}
use Rattle.rls_parts.proofs.line.place_of.Goals as goal

pub loop-low-init : goal.loop-low-init
loop-low-init c = let m = place_most c.args.reaches.now c.args.s0 in record { above = omega arith; below = m; within = omega arith }

pub loop-low-preserved-then-reaches-middle : goal.loop-low-preserved-then-reaches-middle
loop-low-preserved-then-reaches-middle c =
    let i = c.loop-low.invariant in
    let m = behind_read c.args.reaches.now (c.loop-low.low + (c.loop-low.high - c.loop-low.low) / 2) _ c.args.s0 c.requires.rising (omega arith) c.if-reaches-middle.true in
    record { above = omega arith; below = i.below; within = i.within }

pub loop-low-preserved : goal.loop-low-preserved
loop-low-preserved c =
    let i = c.loop-low.invariant in
    let m = up_to_read c.args.reaches.now (c.loop-low.low + (c.loop-low.high - c.loop-low.low) / 2) _ c.args.s0 (omega arith) c.if-reaches-middle.false in
    record { above = i.above; below = m; within = omega arith }
