use Rattle.std.proofs.lemmas.Result.{err_from_is_err_and}
use Rattle.rls_seen.specs.Edits.{edit_fault_over}
use Rattle.rls_replica.proofs.EditFaults.{fault_is, told_early}
use Rattle.rls_replica.proofs.replica.Replica.made_exactly.Goals as goal

pub returns-in_err-check-clause-fault : goal.returns-in_err-check-clause-fault
returns-in_err-check-clause-fault c =
    let p = err_from_is_err_and c.from_residual.result c.from_residual.ensures.1 in
    let e = c.in_err-check.field-0.0 in
    rw (p.1, p.2) (fault_is e (edit_fault_over c.args.self.now c.args.edit.now) (told_early c.args.self.now c.args.edit.now e c.in_err-check.ensures.fault))
