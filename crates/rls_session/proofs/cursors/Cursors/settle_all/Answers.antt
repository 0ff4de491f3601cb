use Rattle.std.proofs.Common.{◌≡◌, ◌∙◌, ◌≤◌, List, ap, arith, length, set, slice_get, subst, sym, Some}
use Rattle.rls_anchor.specs.declared.anchor.Anchor.{Anchor}
use Rattle.rls_anchor.specs.AnchorLaws.{IsAnchored}
use Rattle.rls_anchor.specs.Anchors.{settled_over}
use Rattle.rls_session.specs.declared.cursors.Cursor.{Cursor}
use Rattle.rls_session.specs.Cursors.{AreAnchored, moved}
use Rattle.rls_session.proofs.Numbered.{anchor_here, anchor_not_dropped, anchored_at, anchored_set, front_all, front_anchored, front_got, front_more}
use Rattle.rls_session.proofs.cursors.Cursors.settle_all.Goals as goal

pub cursors-init : goal.cursors-init
cursors-init c = c.self.view_is

pub returns-in-Err-clause-anchored : goal.returns-in-Err-clause-anchored
returns-in-Err-clause-anchored c = λ h.
    let s = c.args.replica.now in
    let items = c.cursors.self-inside.all.items in
    let all : AreAnchored s items = subst (AreAnchored s) (sym c.cursors.invariant) (front_anchored s (settled_over s) c.cursors.i c.args.self.now (anchor_here s) h) in
    let is = front_got (settled_over s) c.cursors.i c.args.self.now c.self.inside.all.items items c.index_mut.result.now c.cursors.invariant c.self.view_is (omega arith) c.index_mut.ensures.value in
    anchored_set s items c.cursors.i c.index_mut.result.now.number c.settle.new.self (subst (λ (a : Anchor). IsAnchored s a) (sym c.in-Err.ensures.err) (anchored_at s items c.cursors.i c.index_mut.result.now is all)) all

pub returns-in-Err-clause-kept : goal.returns-in-Err-clause-kept
returns-in-Err-clause-kept c = λ e is h.
    let s = c.args.replica.now in
    let items = c.cursors.self-inside.all.items in
    let all : AreAnchored s items = subst (AreAnchored s) (sym c.cursors.invariant) (front_anchored s (settled_over s) c.cursors.i c.args.self.now (anchor_here s) h) in
    let there = front_got (settled_over s) c.cursors.i c.args.self.now c.self.inside.all.items items c.index_mut.result.now c.cursors.invariant c.self.view_is (omega arith) c.index_mut.ensures.value in
    let d = (c.settle.ensures.dropped e).0 (c.in-Err.is ∙ is) in
    anchor_not_dropped s c.index_mut.result.now.anchor e (anchored_at s items c.cursors.i c.index_mut.result.now there all) d.0 d.1

pub cursors-preserved : goal.cursors-preserved
cursors-preserved c =
    let s = c.args.replica.now in
    let items = c.cursors.self-inside.all.items in
    let i = c.cursors.i in
    let one = c.index_mut.result.now in
    let there = front_got (settled_over s) i c.args.self.now c.self.inside.all.items items one c.cursors.invariant c.self.view_is (omega arith) c.index_mut.ensures.value in
    ap (λ (a : Anchor). set items i (record { number = one.number; anchor = a })) c.in_default.ensures.settled
    ∙ (ap (λ (xs : List Cursor). set xs i (moved (settled_over s) one)) c.cursors.invariant
    ∙ front_more (settled_over s) c.args.self.now i one (subst (λ (xs : List Cursor). slice_get xs i ≡ Some one) c.cursors.invariant there))

pub returns-clause-settled : goal.returns-clause-settled
returns-clause-settled c =
    let l : length c.args.self.now ≤ c.cursors.i = subst (λ (xs : List Cursor). length xs ≤ c.cursors.i) c.self.view_is (omega (arith, c.cursors-test.false, c.len-i-end.ensures)) in
    c.cursors.invariant ∙ front_all (settled_over c.args.replica.now) c.cursors.i c.args.self.now l

pub returns-clause-anchored : goal.returns-clause-anchored
returns-clause-anchored c = λ h.
    let s = c.args.replica.now in
    subst (AreAnchored s) (sym c.cursors.invariant) (front_anchored s (settled_over s) c.cursors.i c.args.self.now (anchor_here s) h)
