use Rattle.std.proofs.Common.{◌≡◌, Some, subst}
use Rattle.std.specs.Prelude.{slice_get}
use Rattle.rls_ident.proofs.Members.{get_in}
use Rattle.rls_seen.specs.Seen.{Seen}
use Rattle.rls_replica.proofs.Noting.{found_at}
use Rattle.rls_replica.proofs.replica.Replica.names_at.Goals as goal

pub names-requires-clause-logged : goal.names-requires-clause-logged
names-requires-clause-logged c =
    get_in c.args.self.now.log c.args.place c.in-Some.op.now (subst (λ (s : Seen). slice_get s.log c.args.place ≡ Some c.in-Some.op.now) c.self.view_is c.in-Some.ensures.op)

pub names-requires-2-clause-logged : goal.names-requires-2-clause-logged
names-requires-2-clause-logged c =
    get_in c.args.self.now.log c.args.place c.in-Some-2.op (found_at c.args.self.now.log c.args.place c.in_ok-op.field-0 c.in-Some-2.op c.in-Some-2.is c.in_ok-op.ensures.some)
