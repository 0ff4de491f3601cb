use Rattle.std.proofs.Common.{arith, subst, sym}
use Rattle.rls_anchor.specs.Anchors.{settled_over}
use Rattle.rls_session.specs.Cursors.{AreAnchored}
use Rattle.rls_session.proofs.Numbered.{anchor_not_dropped, anchored_at, at_within, got, others_moved, settled_at, there_at}
use Rattle.rls_session.proofs.cursors.Cursors.settle.Goals as goal

pub index_mut-requires : goal.index_mut-requires
index_mut-requires c = omega (arith, at_within _ _ _ _ c.self.view_is c.in-Some.ensures.some)

pub returns-in-None-clause-settled : goal.returns-in-None-clause-settled
returns-in-None-clause-settled c = sym (others_moved (settled_over c.args.replica.now) c.args.self.now c.args.number c.in-None.ensures.none)

pub returns-in-Some-clause-settled : goal.returns-in-Some-clause-settled
returns-in-Some-clause-settled c = settled_at _ c.args.replica.now _ _ _ _ c.index_mut.result.now _ c.settle.ensures.settled c.self.view_is c.in-Some.ensures.some (got _ _ _ (at_within _ _ _ _ c.self.view_is c.in-Some.ensures.some) c.index_mut.ensures.value)

pub returns-in-Some-clause-there : goal.returns-in-Some-clause-there
returns-in-Some-clause-there c = there_at _ _ _ _ _ _ c.index_mut.result.now _ c.settle.ensures.there c.self.view_is c.in-Some.ensures.some (got _ _ _ (at_within _ _ _ _ c.self.view_is c.in-Some.ensures.some) c.index_mut.ensures.value)

pub returns-in-Some-clause-kept : goal.returns-in-Some-clause-kept
returns-in-Some-clause-kept c = λ e is h.
    let there = got _ _ _ (at_within _ _ _ _ c.self.view_is c.in-Some.ensures.some) c.index_mut.ensures.value in
    let d = (c.settle.ensures.dropped e).0 is in
    anchor_not_dropped c.args.replica.now _ e (anchored_at c.args.replica.now _ _ _ there (subst (AreAnchored c.args.replica.now) (sym c.self.view_is) h)) d.0 d.1
