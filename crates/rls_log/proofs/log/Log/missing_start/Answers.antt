use Rattle.std.proofs.Common.{◌∙◌, ◌<◌, length, sym, ap, arith}
use Rattle.std.proofs.lemmas.List.{take_all}
use Rattle.rls_ops.specs.Rows.{missing_for}
use Rattle.rls_log.proofs.Bounds.{back_covered, back_uncovered, back_ends}
use Rattle.rls_log.proofs.log.Log.missing_start.Goals as goal

pub loop-start-init : goal.loop-start-init
loop-start-init c =
    let all = take_all c.len-start.result c.args.self.now (omega (arith, c.len-start.ensures.len)) in
    record { few = omega (arith, ap (λ os. length (missing_for c.args.vector.now os)) all, c.uncovered-left.ensures.bound); within = omega (arith, c.len-start.ensures.len) }

pub loop-start-preserved-then-is_covered : goal.loop-start-preserved-then-is_covered
loop-start-preserved-then-is_covered c =
    let h = c.head.ensures.head in
    let some : 0 < c.loop-start.start = omega arith in
    let test = sym (c.is_covered.ensures.covered h.0 h.2) ∙ c.if-is_covered.true in
    record { few = back_covered c.args.vector.now c.args.self.now c.loop-start.start c.loop-start.left h.0 some h.1 test c.loop-start.invariant.few; within = omega (arith, c.loop-start.invariant.within) }

pub loop-start-preserved : goal.loop-start-preserved
loop-start-preserved c =
    let h = c.head.ensures.head in
    let some : 0 < c.loop-start.start = omega arith in
    let test = sym (c.is_covered.ensures.covered h.0 h.2) ∙ c.if-is_covered.false in
    record { few = back_uncovered c.args.vector.now c.args.self.now c.loop-start.start c.loop-start.left h.0 some h.1 test c.loop-start.invariant.few; within = omega (arith, c.loop-start.invariant.within) }

pub returns : goal.returns
returns c = record {
  within = omega arith;
  covered = back_ends c.args.vector.now c.args.self.now _ c.loop-start.start c.loop-start.left c.loop-start.invariant.few (omega arith) (omega arith);
}
