use Rattle.std.proofs.Common.{refl, sym, ap, ◌∙◌}
use Rattle.rls_ident.specs.Vectors.{raise}
use Rattle.rls_ident.proofs.Vectors.{length-raise}
use Rattle.rls_ops.specs.Same.{numbers_eq}
use Rattle.rls_parts.specs.Rules.{log_fault, raised_by}
use Rattle.std.proofs.Common.{length, drop, ◌+◌, arith}
use Rattle.rls_parts.proofs.Faults.{length-stable_parts, log_on, log_stops, raised_on, log_done, raised_done}
use Rattle.rls_parts.proofs.Heads.{head_next}
use Rattle.rls_parts.proofs.log.log_fault.Goals as goal

pub loop-i-init : goal.loop-i-init
loop-i-init c =
    let p = c.args.parts.now in
    let e = c.in_ok-running.ensures.copy ∙ c.requires.stable_is in
    record {
      counts = ap length e ∙ length-stable_parts p c.requires.given;
      pass = ap (λ v. log_fault p v 0 p.log) e;
      found = tt;
      raised = ap (λ v. raised_by v p.log) e;
    }

pub returns-then-not-is_next : goal.returns-then-not-is_next
returns-then-not-is_next c =
    let p = c.args.parts.now in
    let v = c.loop-i.running in
    let h = c.head-head.ensures.head in
    let n = sym (head_next p v c.head-head.result h.0 h.2) ∙ sym (c.if-not-is_next.ensures.next h.0.context (c.context_at_most-is_counted.ensures.test h.0 h.1)) in
    record { tested = sym c.loop-i.invariant.pass ∙ log_stops p v c.loop-i.i p.log h.0 h.1 n }

pub loop-i-preserved : goal.loop-i-preserved
loop-i-preserved c =
    let p = c.args.parts.now in
    let v = c.loop-i.running in
    let i = c.loop-i.i in
    let h = c.head-head.ensures.head in
    let o = h.0 in
    let n = sym (head_next p v c.head-head.result o h.2) ∙ sym (c.if-not-is_next.ensures.next o.context (c.context_at_most-is_counted.ensures.test o h.1)) in
    let r = c.raise.ensures.raise ∙ ap (raise v) h.2.author in
    record {
      counts = ap length r ∙ (length-raise v o.author ∙ c.loop-i.invariant.counts);
      pass = ap (λ u. log_fault p u (i + 1) (drop (i + 1) p.log)) r ∙ (sym (log_on p v i p.log o h.1 n) ∙ c.loop-i.invariant.pass);
      found = c.if-not-is_next.ensures.kept refl;
      raised = ap (λ u. raised_by u (drop (i + 1) p.log)) r ∙ (sym (raised_on v i p.log o h.1) ∙ c.loop-i.invariant.raised);
    }

pub returns : goal.returns
returns c =
    let p = c.args.parts.now in
    let v = c.loop-i.running in
    let i = c.loop-i.i in
    let end = c.len-i-end.ensures.len in
    record {
      tested = (
        sym c.loop-i.invariant.pass ∙ log_done p v i p.log (omega (arith, c.loop-i-test.false, end)),
        c.same_counts.ensures.same ∙ ap (λ u. numbers_eq u p.vector) (sym (raised_done v i p.log (omega (arith, c.loop-i-test.false, end))) ∙ c.loop-i.invariant.raised),
      );
    }
