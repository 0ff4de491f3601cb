use Rattle.std.proofs.Common.{◌∙◌, sym, subst}
use Rattle.std.proofs.lemmas.Result.{err_from_is_err_and}
use Rattle.rls_model.specs.declared.edit.Edit.{Edit}
use Rattle.rls_seen.specs.Edits.{edit_fault_over, IsFault}
use Rattle.rls_seen.proofs.Editing.{made_alike, edit_faults_alike}
use Rattle.rls_replica.proofs.EditLaws.{refused_alike}
use Rattle.rls_replica.proofs.LeaveFaults.{leave_fault}
use Rattle.rls_replica.proofs.replica.Replica.made.Goals as goal

pub returns-in_err-op-clause-leave : goal.returns-in_err-op-clause-leave
returns-in_err-op-clause-leave c =
    let p = err_from_is_err_and c.from_residual.result c.from_residual.ensures.1 in
    rw (p.1, p.2) (λ is. leave_fault c.args.self.now c.in_err-op.field-0.0 c.sane.ensures.sane.few (subst (λ (x : Edit). IsFault c.in_err-op.field-0.0 (edit_fault_over c.args.self.now x)) is c.in_err-op.ensures.fault))

pub returns-in_err-op-clause-refused : goal.returns-in_err-op-clause-refused
returns-in_err-op-clause-refused c =
    let p = err_from_is_err_and c.from_residual.result c.from_residual.ensures.1 in
    rw (p.1, p.2) (λ t h. refused_alike c.args.self.now t c.args.edit.now c.in_err-op.field-0.0 h c.in_err-op.ensures.fault)

pub returns-clause-accepted : goal.returns-clause-accepted
returns-clause-accepted c = λ t h. sym (edit_faults_alike c.args.self.now t c.args.edit.now h) ∙ c.in_ok-op.ensures.fits

pub returns-clause-stands : goal.returns-clause-stands
returns-clause-stands c = λ t h. c.in_ok-op.ensures.op ∙ made_alike c.args.self.now t c.args.edit.now h
