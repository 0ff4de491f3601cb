use Rattle.std.proofs.Common.{◌∙◌, ◌<◌, ℕ, ap, subst}
use Rattle.rls_ops.specs.Rows.{left}
use Rattle.rls_seen.specs.Seen.{Seen}
use Rattle.rls_seen.proofs.Alike.{members_alike}
use Rattle.rls_replica.proofs.replica.Replica.left.Goals as goal

pub returns-clause-stands : goal.returns-clause-stands
returns-clause-stands c = λ t h.
    let s = c.args.self.now in
    let few = subst (λ (n : ℕ). c.args.member < n) (members_alike s t h) c.requires.member in
    c.left.ensures.left ∙ (ap (λ (u : Seen). left u.acks c.args.member) c.self.view_is ∙ h.left c.args.member few)
