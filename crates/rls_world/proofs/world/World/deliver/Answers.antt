use Rattle.std.proofs.Common.{rules, ◌≡◌, ◌∙◌, ◌<◌, length, sym, subst}
use Rattle.rls_model.specs.declared.event.Event.TheVariants as events
use Rattle.rls_world.specs.Events.{with_replica, IsStep}
use Rattle.rls_world.specs.Seen.{WorldSeen}
use Rattle.rls_world.proofs.Groups.{there, sent_to}
use Rattle.rls_world.proofs.Stepping.{delivered_step, delivered_one_group}
use Rattle.rls_world.proofs.world.World.deliver.Goals as goal

pub take_copy-requires : goal.take_copy-requires
take_copy-requires c =
    let s : WorldSeen = record { replicas = c.self.inside.replicas.items; sent = c.self.inside.sent.items } in
    let p = there s c.args.self.now c.args.to c.index_mut.result.now c.self.view_is (sym c.has_member.ensures.below ∙ c.if-not-has_member.false) c.index_mut.ensures.value in
    let count : c.len.result ≡ length s.sent = search (rules) in
    let q = sent_to s c.self.inside.group c.args.to c.args.message c.index_mut.result.now c.index.result.now c.self.invariant p (subst (λ n. c.args.message < n) count c.if-message-len.false) c.index.ensures in
    record { group = q.group_is; members = q.members_are; from = q.whole.from; vector = q.whole.vector.0 }

pub invariant_of-self : goal.invariant_of-self
invariant_of-self c =
    let s : WorldSeen = record { replicas = c.self.inside.replicas.items; sent = c.self.inside.sent.items } in
    let p = there s c.args.self.now c.args.to c.index_mut.result.now c.self.view_is (sym c.has_member.ensures.below ∙ c.if-not-has_member.false) c.index_mut.ensures.value in
    delivered_one_group s c.self.inside.group c.args.to c.index_mut.result.now c.take_copy.new.replica c.index.result.now c.take_copy.result c.self.invariant p.at c.take_copy.ensures.delivered

pub returns : goal.returns
returns c =
    let s : WorldSeen = record { replicas = c.self.inside.replicas.items; sent = c.self.inside.sent.items } in
    let p = there s c.args.self.now c.args.to c.index_mut.result.now c.self.view_is (sym c.has_member.ensures.below ∙ c.if-not-has_member.false) c.index_mut.ensures.value in
    let count : c.len.result ≡ length s.sent = search (rules) in
    let q = sent_to s c.self.inside.group c.args.to c.args.message c.index_mut.result.now c.index.result.now c.self.invariant p (subst (λ n. c.args.message < n) count c.if-message-len.false) c.index.ensures in
    let u = c.take_copy.new.replica in
    record {
      step = subst (λ (w : WorldSeen). IsStep w (events.Deliver c.args.message c.args.to) c.take_copy.result (with_replica s c.args.to u)) c.self.view_is
          (delivered_step s c.args.message c.args.to c.index_mut.result.now u c.index.result.now c.take_copy.result p.below q.below p.at q.at c.take_copy.ensures.delivered);
    }
