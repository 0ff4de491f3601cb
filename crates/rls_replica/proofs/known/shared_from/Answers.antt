use Rattle.std.proofs.Common.{◌∙◌, ◌+◌, sym}
use Rattle.rls_ident.proofs.Members.{get_in}
use Rattle.rls_replica.proofs.known.shared_from.Goals as goal

pub returns-in-Ok-clause-there : goal.returns-in-Ok-clause-there
returns-in-Ok-clause-there c = λ k x l p. get_in c.args.list.now (c.in-Ok.i + k) x (sym (c.count_common.ensures.same k l) ∙ p)
