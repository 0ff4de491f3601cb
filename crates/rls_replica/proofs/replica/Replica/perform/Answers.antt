use Rattle.std.proofs.Common.{◌∙◌, ℕ, Option, subst, sym}
use Rattle.std.proofs.lemmas.Result.{err_from_is_err_and}
use Rattle.std.specs.Prelude.{IfSome}
use Rattle.rls_ops.specs.declared.op.Op.{Op}
use Rattle.rls_seen.specs.Edits.{edit_fault_over}
use Rattle.rls_seen.specs.Sane.{MayApply}
use Rattle.rls_seen.proofs.Making.{made_may}
use Rattle.rls_replica.specs.Changing.{IsPlaceOf}
use Rattle.rls_replica.proofs.EditFaults.{fault_is, late_fault, late_is, seq-made, told_early}
use Rattle.rls_replica.proofs.KeptNames.{accepted_names}
use Rattle.rls_replica.proofs.Placed.{place_made}
use Rattle.rls_replica.proofs.replica.Replica.perform.Goals as goal

pub returns-in_err-check-clause-fault : goal.returns-in_err-check-clause-fault
returns-in_err-check-clause-fault c =
    let p = err_from_is_err_and c.from_residual.result c.from_residual.ensures.1 in
    let e = c.in_err-check.field-0.0 in
    rw (p.1, p.2) (fault_is e (edit_fault_over c.args.self.now c.args.edit) (told_early c.args.self.now c.args.edit e c.in_err-check.ensures.fault))

pub returns-in_err-check_size-clause-fault : goal.returns-in_err-check_size-clause-fault
returns-in_err-check_size-clause-fault c =
    let p = err_from_is_err_and c.from_residual-in_err-check_size.result c.from_residual-in_err-check_size.ensures.1 in
    let e = c.in_err-check_size.field-0.0 in
    rw (p.1, p.2) (late_is c.args.self.now c.args.edit c.in-Ok.op e c.in-Ok.ensures.op c.in_ok-check.ensures.ok c.in_err-check_size.ensures.fault)

pub apply-requires : goal.apply-requires
apply-requires c =
    let s = c.args.self.now in
    let o = c.in-Ok.op in
    let edit = c.args.edit in
    let made = c.in-Ok.ensures.op in
    let fits = late_fault s edit o made c.in_ok-check.ensures.ok ∙ c.in_ok-check_size.ensures.ok in
    record {
      may = subst (λ (p : Op). MayApply s p) (sym made) (made_may s edit c.sane.ensures.sane c.fits.ensures.whole fits);
      place = subst (λ (place : Option ℕ). IfSome place (λ i. IsPlaceOf s.epochs s.text o.epoch o.body i)) (sym c.place_of-place.ensures.place)
          (place_made s edit o c.sane.ensures.sane c.fits.ensures.whole fits made);
    }

pub returns-in-Ok-apply-clause-fits : goal.returns-in-Ok-apply-clause-fits
returns-in-Ok-apply-clause-fits c = late_fault c.args.self.now c.args.edit c.in-Ok.op c.in-Ok.ensures.op c.in_ok-check.ensures.ok ∙ c.in_ok-check_size.ensures.ok

pub returns-in-Ok-apply-clause-seq : goal.returns-in-Ok-apply-clause-seq
returns-in-Ok-apply-clause-seq c = seq-made c.args.self.now c.args.edit c.in-Ok.op c.in-Ok.ensures.op

pub returns-in-Ok-apply-clause-names : goal.returns-in-Ok-apply-clause-names
returns-in-Ok-apply-clause-names c = rw c.in-Ok-apply.ensures.ok (accepted_names c.args.self.now c.in-Ok.op)
