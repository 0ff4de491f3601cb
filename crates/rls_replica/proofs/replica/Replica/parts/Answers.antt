use Rattle.std.proofs.Common.{◌≡◌, ◌∙◌, ap}
use Rattle.rls_seen.specs.Seen.{Seen}
use Rattle.rls_seen.proofs.Keeping.{parts_alike}
use Rattle.rls_replica.proofs.Marking.{parts_are}
use Rattle.rls_replica.proofs.replica.Replica.parts.Goals as goal

pub returns-clause-parts : goal.returns-clause-parts
returns-clause-parts c =
    let group : c.self.inside.group ≡ c.args.self.now.group = ap (λ (u : Seen). u.group) c.self.view_is in
    rw group
    (parts_are c.args.self.now c.members-members.result c.me.result c.in_ok-vector.vector c.in_ok-vector.rows c.in_ok-vector.stems c.in_ok-epochs.epochs c.in_ok-epochs.text c.in_ok-epochs.log c.in_ok-epochs.held c.in_ok-vector.left
    c.members-members.ensures.members c.me.ensures.me c.in_ok-vector.ensures.vector c.in_ok-vector.ensures.rows c.in_ok-vector.ensures.stems c.in_ok-epochs.ensures.epochs c.in_ok-epochs.ensures.text c.in_ok-epochs.ensures.log c.in_ok-epochs.ensures.held c.in_ok-vector.ensures.left)

pub returns-clause-stands : goal.returns-clause-stands
returns-clause-stands c = λ t h. returns-clause-parts c ∙ parts_alike c.args.self.now t h
