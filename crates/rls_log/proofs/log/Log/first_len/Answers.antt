use Rattle.std.proofs.Common.{◌+◌, drop, take, sum_by, ap, arith}
use Rattle.std.proofs.lemmas.List.{drop_all, length-take}
use Rattle.rls_ident.proofs.Loops.{drop_reads}
use Rattle.rls_ident.proofs.Positions.{get_of}
use Rattle.rls_ops.specs.Sizes.{op_size}
use Rattle.rls_log.proofs.Steps.{get_take, size_next, part_size}
use Rattle.rls_log.proofs.log.Log.first_len.Goals as goal

pub loop-i-init : goal.loop-i-init
loop-i-init c = record { size = omega arith; fits = omega arith }

pub loop-i-preserved : goal.loop-i-preserved
loop-i-preserved c =
    let os = take c.args.n c.args.self.now in
    let i = c.loop-i.i in
    let h = get_of c.args.self.now i (omega (arith, c.loop-i-test.true, c.len-i-end.ensures.len)) in
    let next = drop_reads os i h.0 (get_take c.args.self.now c.args.n i h.0 c.if-i-n.false h.1) in
    let size = part_size h.0 c.part.result.now (c.part.ensures.part h.0 h.1) in
    record { size = omega (arith, size_next h.0 (drop (i + 1) os) (drop i os) next, size, c.saturating_add-total.ensures, c.loop-i.invariant.size); fits = omega (arith, c.saturating_add-total.ensures) }

pub returns-after-loop-i : goal.returns-after-loop-i
returns-after-loop-i c =
    let os = take c.args.n c.args.self.now in
    let none = ap (sum_by op_size) (drop_all c.loop-i.i os (omega (arith, c.loop-i-test.false, c.len-i-end.ensures.len, length-take c.args.n c.args.self.now))) in
    record { size = omega (arith, none, c.loop-i.invariant.size, c.loop-i.invariant.fits) }

pub returns-then-i-n : goal.returns-then-i-n
returns-then-i-n c =
    let os = take c.args.n c.args.self.now in
    let none = ap (sum_by op_size) (drop_all c.loop-i.i os (omega (arith, c.if-i-n.true, length-take c.args.n c.args.self.now))) in
    record { size = omega (arith, none, c.loop-i.invariant.size, c.loop-i.invariant.fits) }
