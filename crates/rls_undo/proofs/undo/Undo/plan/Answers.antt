use Rattle.std.proofs.Common.{◌∙◌, ap, sym, subst, Some}
use Rattle.std.specs.Prelude.{IsFalse}
use Rattle.rls_ident.specs.declared.epoch_name.EpochName.{EpochName}
use Rattle.rls_ident.proofs.Members.{some_is}
use Rattle.rls_replica.specs.Names.{keeps}
use Rattle.rls_undo.specs.Undoing.{epoch_of}
use Rattle.rls_undo.proofs.Parts.{err_as}
use Rattle.rls_undo.proofs.undo.Undo.plan.Goals as goal

pub returns-in-Err-clause-dropped : goal.returns-in-Err-clause-dropped
returns-in-Err-clause-dropped c = λ e. let d = c.in-Err.ensures.dropped e in (λ h. d.0 (err_as _ _ h), λ h. err_as _ _ (d.1 h))

pub returns-in-Ok-clause-dropped : goal.returns-in-Ok-clause-dropped
returns-in-Ok-clause-dropped c = λ e.
    let s = c.args.replica.now in
    let l = ap epoch_of c.in-Ok.ensures.last in
    let d = c.plan_for.ensures.dropped e in (
      λ h. let r = d.0 h in (l ∙ ap (λ x. Some x) (sym r.0), subst (λ (x : EpochName). IsFalse (keeps s x)) (sym r.0) r.1),
      λ h. let q = some_is e _ (sym h.0 ∙ l) in d.1 (q, subst (λ (x : EpochName). IsFalse (keeps s x)) q h.1),
    )
