use Rattle.std.proofs.Common.{◌∙◌, sym, subst, refl}
use Rattle.std.specs.Prelude.{Ok}
use Rattle.rls_model.specs.declared.event.Event.TheVariants as events
use Rattle.rls_model.specs.declared.event.Outcome.TheVariants as outcomes
use Rattle.rls_seen.specs.Seen.{Seen}
use Rattle.rls_world.specs.Events.{with_replica, IsStep}
use Rattle.rls_world.specs.Seen.{WorldSeen}
use Rattle.rls_world.proofs.Groups.{IsAlike, dropped_alike, there}
use Rattle.rls_world.proofs.Stepping.{drop_step, with_one_group}
use Rattle.rls_world.proofs.world.World.drop_stable.Goals as goal

pub returns : goal.returns
returns c =
    let s : WorldSeen = record { replicas = c.self.inside.replicas.items; sent = c.self.inside.sent.items } in
    let p = there s c.args.self.now c.args.member c.index_mut.result.now c.self.view_is (sym c.has_member.ensures.below ∙ c.if-not-has_member.false) c.index_mut.ensures.value in
    let w = with_replica s c.args.member c.drop_stable.new.self in
    record { step = subst (λ (v : WorldSeen). IsStep v (events.Drop c.args.member) (Ok outcomes.Dropped) w) c.self.view_is (drop_step s w c.args.member c.index_mut.result.now c.drop_stable.new.self p.below p.at c.drop_stable.ensures.after refl) }

pub invariant_of-self : goal.invariant_of-self
invariant_of-self c =
    let s : WorldSeen = record { replicas = c.self.inside.replicas.items; sent = c.self.inside.sent.items } in
    let r = c.index_mut.result.now in
    let p = there s c.args.self.now c.args.member r c.self.view_is (sym c.has_member.ensures.below ∙ c.if-not-has_member.false) c.index_mut.ensures.value in
    with_one_group s c.self.inside.group c.args.member r c.drop_stable.new.self c.self.invariant p.at (subst (λ (x : Seen). IsAlike r x) (sym c.drop_stable.ensures.after) (dropped_alike r))
