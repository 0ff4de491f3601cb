use Rattle.std.proofs.Common.{◌≡◌, ◌∙◌, ◌≤◌, length, sym, ap, arith}
use Rattle.std.specs.Prelude.{Err}
use Rattle.rls_ident.proofs.Members.{some_is}
use Rattle.rls_seen.specs.Seen.{Seen, members}
use Rattle.rls_seen.specs.Messages.{message_over}
use Rattle.rls_world.proofs.Groups.{group_at}
use Rattle.rls_world.proofs.Stepping.{message_sent}
use Rattle.rls_world.proofs.world.World.message.Goals as goal

pub unreachable-requires : goal.unreachable-requires
unreachable-requires c =
    let g = c.one_group.ensures.one_group in
    let n = (group_at g.0 (length c.args.self.now.replicas) c.args.self.now.replicas c.args.from c.replica-replica.result.now g.1.replicas c.replica-replica.ensures.replica).members_are in
    let out : members c.replica-replica.result.now ≤ c.args.to = c.message_for.ensures.not_member.0 (c.in-Err-NotMember.is ∙ ap Err c.in-Err-NotMember.field-0-is) in
    let below = c.requires.to in
    absurd (omega arith)

pub returns-in-Ok : goal.returns-in-Ok
returns-in-Ok c =
    let r = c.replica-replica.result.now in
    record {
      message = λ u e. let same : r ≡ u = some_is r u (sym c.replica-replica.ensures.replica ∙ e) in c.in-Ok.ensures.message ∙ ap (λ (x : Seen). message_over x c.args.to) same;
      sent = λ group g.
          let h = group_at group (length c.args.self.now.replicas) c.args.self.now.replicas c.args.from r g.replicas c.replica-replica.ensures.replica in
          message_sent group (length c.args.self.now.replicas) c.args.to r c.in-Ok.message h c.in-Ok.ensures.message (let m = c.me-me.ensures.me in let l = c.me-me.ensures.member in omega arith) c.len-len.ensures.bounded c.fits.ensures.whole;
    }
