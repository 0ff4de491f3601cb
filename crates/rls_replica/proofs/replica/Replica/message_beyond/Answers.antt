use Rattle.std.proofs.Common.{◌≡◌, ◌∙◌, ◌-◌, sym, ap, refl, arith}
use Rattle.rls_ident.specs.declared.limits.TheConstants.{INPUT_BYTES}
use Rattle.rls_ops.specs.Rows.{missing_for}
use Rattle.rls_ops.specs.Sizes.{head_size, front_within}
use Rattle.rls_seen.specs.Seen.{Seen, members}
use Rattle.rls_seen.specs.Messages.{message_beyond}
use Rattle.rls_replica.specs.View.{seen}
use Rattle.rls_replica.proofs.Messages.{message_is}
use Rattle.rls_replica.proofs.replica.Replica.message_beyond.Goals as goal

pub returns : goal.returns
returns c =
    let r = seen c.self.inside in
    let e : r ≡ c.args.self.now = c.self.view_is in
    let n = c.members-members.ensures.members ∙ sym (ap members e) in
    let me = c.me.ensures.me ∙ sym (ap (λ (u : Seen). u.acks.me) e) in
    let known = c.args.known.now in
    let room : INPUT_BYTES - c.head_len-room.result ≡ INPUT_BYTES - head_size (members r) = ap (λ k. INPUT_BYTES - k) (c.head_len-room.ensures.size ∙ ap head_size n) in
    let few = c.members-members.ensures.few in
    let missing = c.in_ok-missing_for.ensures.missing ∙ ap (λ l. front_within 0 l (missing_for known r.log)) room in
    record {
      message = message_is r known r.group c.members-members.result c.me.result c.in_ok-copy.field-0 c.in_ok-missing_for.field-0 refl n me (c.in_ok-copy.ensures.copy ∙ c.mine.ensures.mine) (omega arith) missing
          ∙ ap (λ (u : Seen). message_beyond u known) e;
    }
