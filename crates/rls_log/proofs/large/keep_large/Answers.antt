use Rattle.std.proofs.Common.{Some, refl}
use Rattle.rls_log.proofs.large.keep_large.Goals as goal

pub returns-clause-ok : goal.returns-clause-ok
returns-clause-ok c = (Some c.args.op.now, refl, c.in_ok-keep_copy.ensures.ok)
