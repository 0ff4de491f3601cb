use Rattle.std.proofs.Common.{[], ◌∷◌, ◌++◌, ◌∙◌, List, ap, arith, set, sym}
use Rattle.rls_session.specs.declared.cursors.Cursor.{Cursor}
use Rattle.rls_session.proofs.Numbered.{at_with, at_within, others_with}
use Rattle.rls_session.proofs.cursors.Cursors.put.Goals as goal

pub index_mut-requires : goal.index_mut-requires
index_mut-requires c = omega (arith, at_within _ _ _ _ c.self.view_is c.in-Some.ensures.some)

pub returns-in_ok-push-in-None-clause-ok : goal.returns-in_ok-push-in-None-clause-ok
returns-in_ok-push-in-None-clause-ok c =
    let one : Cursor = record { number = c.args.number; anchor = c.args.anchor } in
    c.in_ok-push-in-None.ensures.items ∙ (ap (λ (cs : List Cursor). cs ++ one ∷ []) c.self.view_is ∙ sym (others_with c.args.self.now c.args.number c.args.anchor c.in-None.ensures.none))

pub returns-in-Some-clause-ok : goal.returns-in-Some-clause-ok
returns-in-Some-clause-ok c = ap (λ (cs : List Cursor). set cs c.in-Some.i (record { number = c.args.number; anchor = c.args.anchor })) c.self.view_is ∙ sym (at_with c.args.self.now c.args.number c.in-Some.i c.args.anchor c.in-Some.ensures.some)
