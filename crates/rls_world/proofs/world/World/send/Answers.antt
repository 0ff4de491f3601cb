use Rattle.std.proofs.Common.{◌≡◌, ◌∙◌, ◌<◌, Some, length, sym, subst}
use Rattle.std.specs.Prelude.{slice_get}
use Rattle.rls_ident.proofs.Members.{lt_is}
use Rattle.rls_ident.proofs.Positions.{get_of}
use Rattle.rls_model.specs.declared.event.Event.TheVariants as events
use Rattle.rls_seen.specs.Messages.{message_over}
use Rattle.rls_world.specs.Events.{IsStep}
use Rattle.rls_world.specs.Seen.{WorldSeen, IsOneGroup, IsSent}
use Rattle.rls_world.proofs.Stepping.{put_step, put_one_group}
use Rattle.rls_world.proofs.world.World.send.Goals as goal

pub returns : goal.returns
returns c =
    let s : WorldSeen = record { replicas = c.self.inside.replicas.items; sent = c.self.inside.sent.items } in
    let from = c.args.from in
    let to = c.args.to in
    let m = c.in-Ok.message in
    let from_below : from < length s.replicas = subst (λ (w : WorldSeen). from < length w.replicas) (sym c.self.view_is) (lt_is from (length c.args.self.now.replicas) (sym c.has_member.ensures.below ∙ c.if-not-has_member.false)) in
    let to_below : to < length s.replicas = subst (λ (w : WorldSeen). to < length w.replicas) (sym c.self.view_is) (lt_is to (length c.args.self.now.replicas) (sym c.has_member-2.ensures.below ∙ c.if-not-has_member-2.false)) in
    let at = get_of s.replicas from from_below in
    let message : m ≡ message_over at.0 to = c.in-Ok.ensures.message at.0 (subst (λ (w : WorldSeen). slice_get w.replicas from ≡ Some at.0) c.self.view_is at.1) in
    record {
      step = subst (λ (w : WorldSeen). IsStep w (events.Send from to) c.put_message.result (record { replicas = s.replicas; sent = c.put_message.new.sent.items })) c.self.view_is
          (put_step s from to at.0 m c.put_message.new.sent.items c.put_message.result from_below to_below at.1 message c.put_message.ensures.put);
    }

pub invariant_of-self : goal.invariant_of-self
invariant_of-self c =
    let s : WorldSeen = record { replicas = c.self.inside.replicas.items; sent = c.self.inside.sent.items } in
    let sent : IsSent c.self.inside.group (length s.replicas) c.in-Ok.message = subst (λ (w : WorldSeen). IsSent c.self.inside.group (length w.replicas) c.in-Ok.message) (sym c.self.view_is)
    (c.in-Ok.ensures.sent c.self.inside.group (subst (λ (w : WorldSeen). IsOneGroup w c.self.inside.group) c.self.view_is c.self.invariant)) in
    put_one_group s c.self.inside.group c.in-Ok.message c.put_message.new.sent.items c.put_message.result c.self.invariant sent c.put_message.ensures.put
