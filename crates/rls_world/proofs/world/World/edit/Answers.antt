use Rattle.std.proofs.Common.{◌∙◌, sym, subst}
use Rattle.rls_model.specs.declared.event.Event.TheVariants as events
use Rattle.rls_world.specs.Events.{with_replica, IsStep}
use Rattle.rls_world.specs.Seen.{WorldSeen}
use Rattle.rls_world.proofs.Groups.{there}
use Rattle.rls_world.proofs.Stepping.{edited_step, edited_one_group}
use Rattle.rls_world.proofs.world.World.edit.Goals as goal

pub returns : goal.returns
returns c =
    let s : WorldSeen = record { replicas = c.self.inside.replicas.items; sent = c.self.inside.sent.items } in
    let i = c.args.member in
    let u = c.edit_and_release.new.replica in
    let p = there s c.args.self.now i c.index_mut.result.now c.self.view_is (sym c.has_member.ensures.below ∙ c.if-not-has_member.false) c.index_mut.ensures.value in
    record {
      step = subst (λ (w : WorldSeen). IsStep w (events.Edit i c.args.edit.now) c.edit_and_release.result (with_replica s i u)) c.self.view_is
          (edited_step s i c.args.edit.now c.index_mut.result.now u c.edit_and_release.result p.below p.at c.edit_and_release.ensures.edited);
    }

pub invariant_of-self : goal.invariant_of-self
invariant_of-self c =
    let s : WorldSeen = record { replicas = c.self.inside.replicas.items; sent = c.self.inside.sent.items } in
    let p = there s c.args.self.now c.args.member c.index_mut.result.now c.self.view_is (sym c.has_member.ensures.below ∙ c.if-not-has_member.false) c.index_mut.ensures.value in
    edited_one_group s c.self.inside.group c.args.member c.index_mut.result.now c.edit_and_release.new.replica c.args.edit.now c.edit_and_release.result c.self.invariant p.at c.edit_and_release.ensures.edited
