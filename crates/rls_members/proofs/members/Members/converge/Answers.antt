use Rattle.std.proofs.Common.{length, subst}
use Rattle.rls_members.specs.Members.{IsLived, MembersSeen}
use Rattle.rls_members.proofs.Clean.{converges}
use Rattle.rls_members.proofs.members.Members.converge.Goals as goal

pub returns : goal.returns
returns c =
    let w = c.args.self.now in
    record { lived = subst (λ (x : MembersSeen). IsLived x) c.self.view_is c.self.invariant; law = λ es h. converges c.groups_converge.ensures.groups_converge w.group (length w.files) es h.events }
