use Rattle.std.proofs.Common.{Some, None, refl}
use Rattle.rls_log.proofs.Larges.{same_found}
use Rattle.rls_log.proofs.large.read_large.Goals as goal

pub returns-then-not-is_large-clause-ok : goal.returns-then-not-is_large-clause-ok
returns-then-not-is_large-clause-ok c = (None, λ o rest e. tt, refl)

pub returns-clause-ok : goal.returns-clause-ok
returns-clause-ok c = (Some c.in_ok-op.op, λ o rest e. same_found c.args.members c.args.bytes.now _ (o, rest) c.in_ok-op.ensures.read e, c.in_ok-push.ensures.items)
