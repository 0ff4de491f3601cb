use Rattle.std.proofs.Common.{◌∙◌, [], ap, sym, subst, arith}
use Rattle.rls_model.specs.Worlds.{empty_world}
use Rattle.rls_world.specs.Seen.{WorldSeen, IsOneGroup, StandsForWorld}
use Rattle.rls_world.proofs.Beginning.{fresh_world_stands, start_after, fresh_one_group}
use Rattle.rls_world.proofs.world.World.new.Goals as goal

pub invariant_of-result : goal.invariant_of-result
invariant_of-result c =
    let sent = ap (λ ms. record { replicas = c.in_ok-replicas.replicas.items; sent = ms }) c.new.ensures.items in
    let all = ap (λ rs. record { replicas = rs; sent = [] }) c.in_ok-replicas.ensures.all in
    subst (λ (w : WorldSeen). IsOneGroup w c.args.group) (sym (sent ∙ all)) (fresh_one_group c.args.group c.args.members)

pub returns-clause-stands : goal.returns-clause-stands
returns-clause-stands c =
    let sent = ap (λ ms. record { replicas = c.in_ok-replicas.replicas.items; sent = ms }) c.new.ensures.items in
    let all = ap (λ rs. record { replicas = rs; sent = [] }) c.in_ok-replicas.ensures.all in
    subst (λ (w : WorldSeen). StandsForWorld w (empty_world c.args.group c.args.members)) (sym (sent ∙ all)) (fresh_world_stands c.args.group c.args.members c.ranges.group.fits c.if-members-gt-MEMBERS.false)

pub returns-clause-start : goal.returns-clause-start
returns-clause-start c = let some = c.if-members-eq0.false in start_after c.args.group c.args.members c.ranges.group.fits (omega arith) c.if-members-gt-MEMBERS.false
