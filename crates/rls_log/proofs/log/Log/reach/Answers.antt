use Rattle.std.proofs.Common.{◌≡◌, ◌∙◌, ◌≤◌, ◌+◌, ◌++◌, List, ap, sym, take, drop, arith}
use Rattle.std.proofs.lemmas.List.{append-nil, drop_all}
use Rattle.rls_ops.specs.declared.op.Op.{Op}
use Rattle.rls_ops.specs.Rows.{missing_for}
use Rattle.rls_ops.specs.Sizes.{front_within}
use Rattle.rls_log.proofs.Bounds.{rest_missing}
use Rattle.rls_log.proofs.Uncovered.{covered_step}
use Rattle.rls_log.proofs.Steps.{taken_covered, front_more, front_ends, part_size}
use Rattle.rls_log.proofs.log.Log.reach.Goals as goal

pub loop-i-init : goal.loop-i-init
loop-i-init c =
    let v = c.args.vector.now in
    let os = c.args.self.now in
    let start = c.missing_start-start.result in
    let covered = c.missing_start-start.ensures.covered in
    record {
      within = omega arith;
      total = ap (λ (ps : List Op). ps ++ front_within 0 c.args.limit (missing_for v (drop start os))) covered ∙ ap (front_within 0 c.args.limit) (rest_missing v os start covered);
    }

pub loop-i-preserved-then-is_covered : goal.loop-i-preserved-then-is_covered
loop-i-preserved-then-is_covered c =
    let v = c.args.vector.now in
    let os = c.args.self.now in
    let i = c.loop-i.i in
    let h = c.head.ensures.head in
    let test = sym (c.is_covered.ensures.covered h.0 h.2) ∙ c.if-is_covered.true in
    record {
      within = c.loop-i.invariant.within;
      total = ap (λ (ps : List Op). ps ++ front_within c.loop-i.used c.args.limit (missing_for v (drop (i + 1) os))) (taken_covered v os i h.0 h.1 test)
          ∙ ap (λ (ps : List Op). missing_for v (take i os) ++ front_within c.loop-i.used c.args.limit ps) (covered_step v os i h.0 h.1 test) ∙ c.loop-i.invariant.total;
    }

pub overflow_sub-limit : goal.overflow_sub-limit
overflow_sub-limit c = c.loop-i.invariant.within

pub returns-then-size-limit-clause-reach : goal.returns-then-size-limit-clause-reach
returns-then-size-limit-clause-reach c =
    let h = c.head.ensures.head in
    let size = part_size h.0 c.part.result.now (c.part.ensures.part h.0 h.1) in
    sym (front_ends c.args.vector.now c.args.self.now c.loop-i.i c.loop-i.used c.args.limit h.0 h.1 (sym (c.is_covered.ensures.covered h.0 h.2) ∙ c.if-is_covered.false) (omega (arith, size, c.if-size-limit.true, c.loop-i.invariant.within))) ∙ c.loop-i.invariant.total

pub loop-i-preserved : goal.loop-i-preserved
loop-i-preserved c =
    let h = c.head.ensures.head in
    let size = part_size h.0 c.part.result.now (c.part.ensures.part h.0 h.1) in
    record {
      within = omega (arith, c.if-size-limit.false, c.loop-i.invariant.within);
      total = ap (λ n. missing_for c.args.vector.now (take (c.loop-i.i + 1) c.args.self.now) ++ front_within (c.loop-i.used + n) c.args.limit (missing_for c.args.vector.now (drop (c.loop-i.i + 1) c.args.self.now))) size
          ∙ front_more c.args.vector.now c.args.self.now c.loop-i.i c.loop-i.used c.args.limit h.0 h.1 (sym (c.is_covered.ensures.covered h.0 h.2) ∙ c.if-is_covered.false) (omega (arith, size, c.if-size-limit.false, c.loop-i.invariant.within)) ∙ c.loop-i.invariant.total;
    }

pub returns-clause-reach : goal.returns-clause-reach
returns-clause-reach c =
    let v = c.args.vector.now in
    let os = c.args.self.now in
    let i = c.loop-i.i in
    let most : i ≤ c.len-len.result = c.loop-i.auto.i-end c.missing_start-start.ensures.within in
    let end : c.len-len.result ≡ i = omega (arith, c.loop-i-test.false, most) in
    let none = ap (missing_for v) (drop_all i os (omega (arith, c.loop-i-test.false, c.len-len.ensures.len))) in
    ap (λ n. missing_for v (take n os)) end ∙ sym (append-nil (missing_for v (take i os))) ∙ ap (λ (ps : List Op). missing_for v (take i os) ++ front_within c.loop-i.used c.args.limit ps) (sym none) ∙ c.loop-i.invariant.total
