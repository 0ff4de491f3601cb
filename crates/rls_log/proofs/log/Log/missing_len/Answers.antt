use Rattle.std.proofs.Common.{◌∙◌, List, sum_by, sym, ap, arith}
use Rattle.std.proofs.lemmas.List.{drop_all}
use Rattle.rls_ops.specs.declared.op.Op.{Op}
use Rattle.rls_ops.specs.Rows.{missing_for}
use Rattle.rls_ops.specs.Sizes.{op_size}
use Rattle.rls_log.proofs.Bounds.{rest_missing}
use Rattle.rls_log.proofs.Uncovered.{covered_step, uncovered_step}
use Rattle.rls_log.proofs.Steps.{size_next, part_size}
use Rattle.rls_log.proofs.log.Log.missing_len.Goals as goal

pub loop-i-init : goal.loop-i-init
loop-i-init c = record { size = omega (arith, ap (sum_by op_size) (rest_missing c.args.vector.now c.args.self.now c.missing_start-start.result c.missing_start-start.ensures.covered)); fits = omega arith }

pub loop-i-preserved-then-is_covered : goal.loop-i-preserved-then-is_covered
loop-i-preserved-then-is_covered c =
    let h = c.head.ensures.head in
    let same = covered_step c.args.vector.now c.args.self.now c.loop-i.i h.0 h.1 (sym (c.is_covered.ensures.covered h.0 h.2) ∙ c.if-is_covered.true) in
    record { size = omega (arith, ap (sum_by op_size) same, c.loop-i.invariant.size); fits = c.loop-i.invariant.fits }

pub loop-i-preserved : goal.loop-i-preserved
loop-i-preserved c =
    let h = c.head.ensures.head in
    let next = sym (uncovered_step c.args.vector.now c.args.self.now c.loop-i.i h.0 h.1 (sym (c.is_covered.ensures.covered h.0 h.2) ∙ c.if-is_covered.false)) in
    let size = part_size h.0 c.part.result.now (c.part.ensures.part h.0 h.1) in
    record { size = omega (arith, size_next h.0 _ _ next, size, c.saturating_add-total.ensures, c.loop-i.invariant.size); fits = omega (arith, c.saturating_add-total.ensures) }

pub returns : goal.returns
returns c =
    let none = ap (λ (os : List Op). sum_by op_size (missing_for c.args.vector.now os)) (drop_all c.loop-i.i c.args.self.now (omega (arith, c.loop-i-test.false, c.len-len.ensures.len))) in
    record { size = omega (arith, none, c.loop-i.invariant.size, c.loop-i.invariant.fits) }
