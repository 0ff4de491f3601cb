use Rattle.std.proofs.Common.{◌≡◌, ◌∙◌, ◌≤◌, ◌∷◌, [], ap, sym, length, take, arith}
use Rattle.std.proofs.lemmas.List.{length-append}
use Rattle.rls_ops.specs.Rows.{missing_for}
use Rattle.rls_log.proofs.Steps.{taken_covered, taken_uncovered}
use Rattle.rls_log.proofs.log.Log.missing_count.Goals as goal

pub loop-i-init : goal.loop-i-init
loop-i-init c = record { count = sym (ap length c.missing_start-start.ensures.covered); few = omega arith }

pub loop-i-preserved-then-is_covered : goal.loop-i-preserved-then-is_covered
loop-i-preserved-then-is_covered c =
    let h = c.head.ensures.head in
    let same = taken_covered c.args.vector.now c.args.self.now c.loop-i.i h.0 h.1 (sym (c.is_covered.ensures.covered h.0 h.2) ∙ c.if-is_covered.true) in
    record { count = omega (arith, ap length same, c.loop-i.invariant.count); few = omega (arith, c.loop-i.invariant.few) }

pub overflow_add-count : goal.overflow_add-count
overflow_add-count c = omega (arith, c.loop-i.invariant.few, c.ranges.n)

pub loop-i-preserved : goal.loop-i-preserved
loop-i-preserved c =
    let h = c.head.ensures.head in
    let more = taken_uncovered c.args.vector.now c.args.self.now c.loop-i.i h.0 h.1 (sym (c.is_covered.ensures.covered h.0 h.2) ∙ c.if-is_covered.false) in
    record { count = omega (arith, ap length more, length-append (missing_for c.args.vector.now (take c.loop-i.i c.args.self.now)) (h.0 ∷ []), c.loop-i.invariant.count); few = omega (arith, c.loop-i.invariant.few) }

pub returns : goal.returns
returns c =
    let most : c.loop-i.i ≤ c.args.n = c.loop-i.auto.i-end c.missing_start-start.ensures.within in
    let end : c.loop-i.i ≡ c.args.n = omega (arith, most, c.loop-i-test.false) in
    record { count = c.loop-i.invariant.count ∙ ap (λ n. length (missing_for c.args.vector.now (take n c.args.self.now))) end }
