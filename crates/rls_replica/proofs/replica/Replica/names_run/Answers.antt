use Rattle.std.proofs.Common.{subst}
use Rattle.rls_ident.specs.Lists.{IsIn}
use Rattle.rls_ident.proofs.Members.{get_in}
use Rattle.rls_seen.specs.Seen.{Seen}
use Rattle.rls_replica.proofs.replica.Replica.names_run.Goals as goal

pub names_most-requires-clause-logged : goal.names_most-requires-clause-logged
names_most-requires-clause-logged c =
    subst (λ (s : Seen). IsIn c.in-Some.op.now s.log) c.self.view_is (get_in c.self.inside.log c.args.hint.place c.in-Some.op.now c.in-Some.ensures.op)

pub names_most-requires-2-clause-logged : goal.names_most-requires-2-clause-logged
names_most-requires-2-clause-logged c =
    subst (λ (s : Seen). IsIn c.in_ok-op.op s.log) c.self.view_is (get_in c.self.inside.log c.args.hint.place c.in_ok-op.op c.in_ok-op.ensures.op)
