use Rattle.std.proofs.Common.{◌≡◌, ◌∙◌, ◌≤◌, ◌++◌, ◌∷◌, [], ap, sym, take, arith}
use Rattle.rls_ident.proofs.Members.{some_is}
use Rattle.rls_ops.specs.Rows.{missing_for}
use Rattle.rls_log.proofs.Steps.{taken_covered, taken_uncovered}
use Rattle.rls_log.proofs.log.Log.missing_before.Goals as goal

pub loop-i-preserved-then-is_covered : goal.loop-i-preserved-then-is_covered
loop-i-preserved-then-is_covered c =
    let h = c.head.ensures.head in
    c.loop-i.invariant ∙ sym (taken_covered c.args.vector.now c.args.self.now c.loop-i.i h.0 h.1 (sym (c.is_covered.ensures.covered h.0 h.2) ∙ c.if-is_covered.true))

pub loop-i-preserved : goal.loop-i-preserved
loop-i-preserved c =
    let h = c.head.ensures.head in
    let is : c.in_ok-op.field-0 ≡ h.0 = some_is c.in_ok-op.field-0 h.0 (sym c.in_ok-op.ensures.op ∙ h.1) in
    c.in_ok-push.ensures.ok ∙ ap (λ o. c.loop-i.ops ++ o ∷ []) is ∙ ap (λ ps. ps ++ h.0 ∷ []) c.loop-i.invariant
    ∙ sym (taken_uncovered c.args.vector.now c.args.self.now c.loop-i.i h.0 h.1 (sym (c.is_covered.ensures.covered h.0 h.2) ∙ c.if-is_covered.false))

pub loop-i-init : goal.loop-i-init
loop-i-init c = c.new-ops.ensures.empty ∙ sym c.missing_start-start.ensures.covered

pub returns : goal.returns
returns c =
    let most : c.loop-i.i ≤ c.args.n = c.loop-i.auto.i-end c.missing_start-start.ensures.within in
    let end : c.loop-i.i ≡ c.args.n = omega (arith, most, c.loop-i-test.false) in
    record { missing = c.loop-i.invariant ∙ ap (λ n. missing_for c.args.vector.now (take n c.args.self.now)) end }
