use Rattle.std.proofs.Common.{refl}
use Rattle.std.proofs.lemmas.Result.{err_from_is_err_and}
use Rattle.rls_replica.proofs.KeptNames.{names_unchanged}
use Rattle.rls_replica.proofs.replica.Replica.edit.Goals as goal

pub returns-in_err-op-clause-refused : goal.returns-in_err-op-clause-refused
returns-in_err-op-clause-refused c =
    let p = err_from_is_err_and c.from_residual.result c.from_residual.ensures.1 in
    rw (p.1, p.2) c.in_err-op.ensures.refused

pub returns-in_err-op-clause-leave : goal.returns-in_err-op-clause-leave
returns-in_err-op-clause-leave c =
    let p = err_from_is_err_and c.from_residual.result c.from_residual.ensures.1 in
    rw (p.1, p.2) c.in_err-op.ensures.leave

pub returns-in_err-op-clause-names : goal.returns-in_err-op-clause-names
returns-in_err-op-clause-names c = names_unchanged c.args.self.now _ refl
