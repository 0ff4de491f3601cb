use Rattle.std.proofs.Common.{◌≡◌, ◌∙◌, ◌≤◌, ◌++◌, ℕ, List, ap, sym, take, append_assoc, arith}
use Rattle.std.specs.List.{flat_map}
use Rattle.std.proofs.lemmas.List.{append-nil}
use Rattle.rls_ops.specs.declared.op.Op.{Op}
use Rattle.rls_ops.specs.Rows.{missing_for}
use Rattle.rls_ops.specs.Spelling.{op_bytes}
use Rattle.rls_log.proofs.Steps.{taken_covered, taken_uncovered, flat_pushed}
use Rattle.rls_log.proofs.log.Log.put_missing.Goals as goal

pub loop-i-init : goal.loop-i-init
loop-i-init c = sym (ap (λ (os : List Op). c.args.out.now.items ++ flat_map op_bytes os) c.missing_start-start.ensures.covered ∙ append-nil c.args.out.now.items)

pub loop-i-preserved-then-is_covered : goal.loop-i-preserved-then-is_covered
loop-i-preserved-then-is_covered c =
    let h = c.head.ensures.head in
    c.loop-i.invariant ∙ ap (λ (os : List Op). c.args.out.now.items ++ flat_map op_bytes os) (sym (taken_covered c.args.vector.now c.args.self.now c.loop-i.i h.0 h.1 (sym (c.is_covered.ensures.covered h.0 h.2) ∙ c.if-is_covered.true)))

pub loop-i-preserved : goal.loop-i-preserved
loop-i-preserved c =
    let h = c.head.ensures.head in
    let so_far = missing_for c.args.vector.now (take c.loop-i.i c.args.self.now) in
    c.in_ok-extend_from_slice.ensures.items ∙ ap (λ (w : List ℕ). c.loop-i.out.items ++ w) (c.part.ensures.part h.0 h.1) ∙ ap (λ (w : List ℕ). w ++ op_bytes h.0) c.loop-i.invariant
    ∙ append_assoc c.args.out.now.items (flat_map op_bytes so_far) (op_bytes h.0) ∙ ap (λ (w : List ℕ). c.args.out.now.items ++ w) (sym (flat_pushed so_far h.0) ∙ ap (flat_map op_bytes) (sym (taken_uncovered c.args.vector.now c.args.self.now c.loop-i.i h.0 h.1 (sym (c.is_covered.ensures.covered h.0 h.2) ∙ c.if-is_covered.false))))

pub returns : goal.returns
returns c =
    let most : c.loop-i.i ≤ c.args.n = c.loop-i.auto.i-end c.missing_start-start.ensures.within in
    let end : c.loop-i.i ≡ c.args.n = omega (arith, most, c.loop-i-test.false) in
    record { ok = c.loop-i.invariant ∙ ap (λ n. c.args.out.now.items ++ flat_map op_bytes (missing_for c.args.vector.now (take n c.args.self.now))) end }
