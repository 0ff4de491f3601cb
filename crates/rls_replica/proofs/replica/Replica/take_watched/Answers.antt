use Rattle.std.proofs.Common.{◌≡◌, ◌∙◌, None, sym, ap, subst, arith}
use Rattle.rls_model.specs.Taking.{take_message}
use Rattle.rls_seen.specs.Seen.{Seen, members}
use Rattle.rls_seen.specs.Over.{acknowledged}
use Rattle.rls_seen.specs.Messages.{started}
use Rattle.rls_seen.specs.Stands.{StandsFor}
use Rattle.rls_seen.proofs.Taking.{taken_alike}
use Rattle.rls_replica.proofs.Cut.{message_whole, message_part, message_part_stands}
use Rattle.rls_replica.proofs.Courses.{message_counts, message_seen, members_ops}
use Rattle.rls_replica.proofs.KeptNames.{names_on}
use Rattle.rls_replica.proofs.Told.{message_told, more_steps, noted_step}
use Rattle.rls_replica.proofs.replica.Replica.take_watched.Goals as goal

pub returns-in_err-taken-clause-cut : goal.returns-in_err-taken-clause-cut
returns-in_err-taken-clause-cut g c = λ _. message_part c.args.self.now c.take_ops_watched.new.self c.args.message c.in_err-taken.ensures.err

pub returns-in_err-taken-clause-part : goal.returns-in_err-taken-clause-part
returns-in_err-taken-clause-part g c = λ _ t h.
    let s = c.args.self.now in
    let m = c.args.message in
    let whole = message_whole s m (omega (arith, c.if-message-members.false, c.members.ensures.members)) c.requires.from c.requires.vector c.len-len.ensures.bounded c.fits.ensures.whole in
    message_part_stands s c.take_ops_watched.new.self t m whole (message_part s c.take_ops_watched.new.self m c.in_err-taken.ensures.err) h

pub acknowledge-requires-clause-member : goal.acknowledge-requires-clause-member
acknowledge-requires-clause-member g c =
    let s = c.args.self.now in
    let k : members c.take_ops_watched.new.self ≡ members s = ap members c.in_ok-taken.ensures.after ∙ members_ops c.args.message.ops (started None s) in
    omega (arith, c.if-message-members.false, c.members.ensures.members, c.requires.from)

pub acknowledge-requires-clause-counts : goal.acknowledge-requires-clause-counts
acknowledge-requires-clause-counts g c =
    let s = c.args.self.now in
    let k : members c.take_ops_watched.new.self ≡ members s = ap members c.in_ok-taken.ensures.after ∙ members_ops c.args.message.ops (started None s) in
    omega (arith, c.if-message-members.false, c.members.ensures.members, c.requires.vector)

pub returns-clause-taken : goal.returns-clause-taken
returns-clause-taken g c = c.in_ok-taken.ensures.taken ∙ sym (message_counts c.args.self.now c.args.message)

pub returns-clause-after : goal.returns-clause-after
returns-clause-after g c =
    let m = c.args.message in
    c.acknowledge.ensures.after ∙ (ap (λ (u : Seen). acknowledged u m.from m.vector) c.in_ok-taken.ensures.after ∙ sym (message_seen c.args.self.now m))

pub returns-clause-stands : goal.returns-clause-stands
returns-clause-stands g c = λ t h.
    let s = c.args.self.now in
    let m = c.args.message in
    let whole = message_whole s m (omega (arith, c.if-message-members.false, c.members.ensures.members)) c.requires.from c.requires.vector c.len-len.ensures.bounded c.fits.ensures.whole in
    let law = taken_alike None s t m whole h in
    (returns-clause-taken g c ∙ law.0, subst (λ (u : Seen). StandsFor u (take_message t m).state) (sym (returns-clause-after g c)) law.1)

pub returns-clause-names : goal.returns-clause-names
returns-clause-names g c = names_on c.args.self.now c.take_ops_watched.new.self c.acknowledge.new.self c.take_ops_watched.ensures.names c.acknowledge.ensures.names

pub returns-clause-told : goal.returns-clause-told
returns-clause-told g c =
    message_told g.W.Watcher.tells c.args.self.now c.take_ops_watched.new.self c.in_ok-taken.taken (g.W.Watcher.told c.args.watcher.now) (g.W.Watcher.told c.take_ops_watched.new.watcher) c.args.message c.in_ok-taken.ensures.told

pub returns-clause-steps : goal.returns-clause-steps
returns-clause-steps g c =
    more_steps g.W.Watcher.tells _ _ _ _ _ _ c.in_ok-taken.ensures.steps
    (noted_step g.W.Watcher.tells _ _ c.args.message.from c.args.message.vector _ c.sane.ensures.sane c.acknowledge.ensures.after)
