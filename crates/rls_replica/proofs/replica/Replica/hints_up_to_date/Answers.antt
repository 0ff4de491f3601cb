use Rattle.rls_ident.proofs.Members.{get_in}
use Rattle.rls_replica.proofs.Noting.{found_at}
use Rattle.rls_replica.proofs.replica.Replica.hints_up_to_date.Goals as goal

pub named_ids-requires-clause-logged : goal.named_ids-requires-clause-logged
named_ids-requires-clause-logged c =
    get_in c.args.self.now.log c.loop-i.i c.in-Some.op (found_at c.args.self.now.log c.loop-i.i c.in_ok-op.field-0 c.in-Some.op c.in-Some.is c.in_ok-op.ensures.some)
