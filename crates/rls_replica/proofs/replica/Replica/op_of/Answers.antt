use Rattle.std.proofs.Common.{◌∙◌}
use Rattle.std.proofs.lemmas.Result.{err_from_is_err_and}
use Rattle.rls_replica.proofs.EditFaults.{late_fault, late_is}
use Rattle.rls_replica.proofs.replica.Replica.op_of.Goals as goal

pub returns-in_err-check_size-in-Ok-clause-fault : goal.returns-in_err-check_size-in-Ok-clause-fault
returns-in_err-check_size-in-Ok-clause-fault c =
    let p = err_from_is_err_and c.from_residual.result c.from_residual.ensures.1 in
    let e = c.in_err-check_size-in-Ok.field-0.0 in
    rw (p.1, p.2) (late_is c.args.self.now c.args.edit c.in-Ok.op e c.in-Ok.ensures.op c.requires.fits c.in_err-check_size-in-Ok.ensures.fault)

pub returns-in_ok-check_size-in-Ok-clause-fits : goal.returns-in_ok-check_size-in-Ok-clause-fits
returns-in_ok-check_size-in-Ok-clause-fits c = late_fault c.args.self.now c.args.edit c.in-Ok.op c.in-Ok.ensures.op c.requires.fits ∙ c.in_ok-check_size-in-Ok.ensures.ok
