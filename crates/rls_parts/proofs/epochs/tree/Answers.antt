use Rattle.std.proofs.Common.{◌∙◌, ◌&&◌, take, ap, sym, arith}
use Rattle.rls_parts.specs.Rules.{is_greater}
use Rattle.rls_parts.proofs.Building.{at_index, broken_at, first_so}
use Rattle.rls_parts.proofs.epochs.tree.Goals as goal

pub loop-i-init : goal.loop-i-init
loop-i-init c =
    let p = c.args.parts.now in
    let r = first_so p c.as_slice-list.result.now c.index-list-0.result c.in_ok-epochs.epochs.epochs c.requires.given.epochs c.as_slice-list.ensures.items c.in_ok-epochs.ensures.epochs (sym c.if-not-may_be_top.ensures.may) in
    record { some = omega arith; tree = r.0; pass = r.1 }

pub add-requires-clause-entry_is : goal.add-requires-clause-entry_is
add-requires-clause-entry_is c = at_index c.as_slice-list.result.now c.args.parts.now.epochs c.loop-i.i c.index-list-i.result c.as_slice-list.ensures.items c.loop-i-test.true c.index-list-i.is

pub returns-then-not-opens : goal.returns-then-not-opens
returns-then-not-opens c =
    let n = ap (λ b. b && is_greater (take c.loop-i.i c.args.parts.now.epochs) c.index-list-i.result) (sym c.if-not-opens.ensures.opens) in
    record { tested = broken_at c.args.parts.now c.loop-i.i c.loop-i.epochs.epochs c.as_slice-list.result.now c.index-list-i.result c.loop-i.invariant.tree c.as_slice-list.ensures.items c.loop-i-test.true c.index-list-i.is n c.loop-i.invariant.pass }

pub is_greater-requires-clause-entry_is : goal.is_greater-requires-clause-entry_is
is_greater-requires-clause-entry_is c = at_index c.as_slice-list.result.now c.args.parts.now.epochs c.loop-i.i c.index-list-i.result c.as_slice-list.ensures.items c.loop-i-test.true c.index-list-i.is

pub returns-then-not-is_greater : goal.returns-then-not-is_greater
returns-then-not-is_greater c =
    let n = ap (λ b. b && is_greater (take c.loop-i.i c.args.parts.now.epochs) c.index-list-i.result) (sym c.if-not-opens.ensures.opens) ∙ sym c.if-not-is_greater.ensures.greater in
    record { tested = broken_at c.args.parts.now c.loop-i.i c.loop-i.epochs.epochs c.as_slice-list.result.now c.index-list-i.result c.loop-i.invariant.tree c.as_slice-list.ensures.items c.loop-i-test.true c.index-list-i.is n c.loop-i.invariant.pass }
