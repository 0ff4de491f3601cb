use Rattle.std.proofs.Common.{◌∙◌, sym, refl}
use Rattle.rls_undo.proofs.Parts.{err_as}
use Rattle.rls_undo.proofs.Performed.{insertion_planned, removal_plan}
use Rattle.rls_undo.proofs.planning.plan_for.Goals as goal

pub returns-in-Err-clause-dropped : goal.returns-in-Err-clause-dropped
returns-in-Err-clause-dropped c = λ e. let d = c.in-Err.ensures.dropped e in rw c.in-Inserted.is (λ h. d.0 (err_as _ _ h), λ h. err_as _ _ (d.1 h))

pub returns-in_ok-plan-in-Ok-clause-plan : goal.returns-in_ok-plan-in-Ok-clause-plan
returns-in_ok-plan-in-Ok-clause-plan c = rw c.in-Inserted.is (c.in_ok-plan-in-Ok.ensures.plan ∙ sym (insertion_planned c.args.replica.now c.in-Inserted.epoch _ _ c.in-Ok.ensures.runs))

pub returns-in-Err-ident_to_greatest-clause-dropped : goal.returns-in-Err-ident_to_greatest-clause-dropped
returns-in-Err-ident_to_greatest-clause-dropped c = λ e. let d = c.in-Err-ident_to_greatest.ensures.dropped e in rw c.in-Removed.is (λ h. d.0 (err_as _ _ h), λ h. err_as _ _ (d.1 h))

pub returns-in_ok-plan-in-Ok-ident_to_greatest-clause-plan : goal.returns-in_ok-plan-in-Ok-ident_to_greatest-clause-plan
returns-in_ok-plan-in-Ok-ident_to_greatest-clause-plan c =
    rw c.in-Removed.is (c.in_ok-plan-in-Ok-ident_to_greatest.ensures.plan ∙ sym (removal_plan c.args.replica.now c.in-Removed.epoch _ _ _ _ c.in-Ok-ident_to_greatest.ensures.ident refl))
