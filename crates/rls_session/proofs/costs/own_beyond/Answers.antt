use Rattle.std.proofs.Common.{◌∙◌, length, sum_by, sym, ap, arith}
use Rattle.rls_ident.proofs.Members.{eq_test, neq_test}
use Rattle.rls_ops.specs.Sizes.{op_size}
use Rattle.rls_log.proofs.Steps.{part_size}
use Rattle.rls_session.proofs.Sizes.{covered_counts, other_counts, own_counts}
use Rattle.rls_session.proofs.costs.own_beyond.Goals as goal

pub loop-i-preserved-then-is_covered : goal.loop-i-preserved-then-is_covered
loop-i-preserved-then-is_covered c =
    let h = c.head-head.ensures.head in
    let same = covered_counts c.args.me c.args.stable.now c.args.log.now c.loop-i.i h.0 h.1 (sym (c.is_covered.ensures.covered h.0 h.2) ∙ c.if-is_covered.true) in
    record { own = omega (arith, ap length same, c.loop-i.invariant.own); few = omega (arith, c.loop-i.invariant.few); bytes = omega (arith, ap (sum_by op_size) same, c.loop-i.invariant.bytes); fits = c.loop-i.invariant.fits }

pub loop-i-preserved-then-head-me : goal.loop-i-preserved-then-head-me
loop-i-preserved-then-head-me c =
    let h = c.head-head.ensures.head in
    let above = sym (c.is_covered.ensures.covered h.0 h.2) ∙ c.if-is_covered.false in
    let same = other_counts c.args.me c.args.stable.now c.args.log.now c.loop-i.i h.0 h.1 above (neq_test (h.0).author c.args.me (λ e. c.if-head-me.true (h.2.author ∙ e))) in
    record { own = omega (arith, ap length same, c.loop-i.invariant.own); few = omega (arith, c.loop-i.invariant.few); bytes = omega (arith, ap (sum_by op_size) same, c.loop-i.invariant.bytes); fits = c.loop-i.invariant.fits }

pub loop-i-preserved : goal.loop-i-preserved
loop-i-preserved c =
    let h = c.head-head.ensures.head in
    let above = sym (c.is_covered.ensures.covered h.0 h.2) ∙ c.if-is_covered.false in
    let next = own_counts c.args.me c.args.stable.now c.args.log.now c.loop-i.i h.0 h.1 above (eq_test (h.0).author c.args.me (sym h.2.author ∙ c.if-head-me.false)) in
    let size = part_size h.0 c.part.result.now (c.part.ensures.part h.0 h.1) in
    record {
      own = omega (arith, next.0, c.loop-i.invariant.own);
      few = omega (arith, c.loop-i.invariant.few);
      bytes = omega (arith, next.1, size, c.saturating_add-bytes.ensures, c.loop-i.invariant.bytes);
      fits = omega (arith, c.saturating_add-bytes.ensures);
    }
