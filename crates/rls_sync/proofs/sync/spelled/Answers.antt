use Rattle.std.proofs.Common.{◌∙◌, ◌++◌, List, ℕ, length, take, ap, subst, arith}
use Rattle.std.specs.Prelude.{All}
use Rattle.rls_codec.specs.Spelled.{IsSpelledIfFit}
use Rattle.rls_ops.specs.declared.op.Op.{Op}
use Rattle.rls_ops.specs.Rows.{missing_for}
use Rattle.rls_ops.specs.Sizes.{head_size}
use Rattle.rls_ops.specs.Spelling.{counted, op_bytes}
use Rattle.rls_sync.specs.Heads.{start_of}
use Rattle.rls_sync.proofs.Sent.{sent_log, message_put, few_sent, sent_message}
use Rattle.rls_sync.proofs.sync.spelled.Goals as goal

pub put_ops-requires-clause-few : goal.put_ops-requires-clause-few
put_ops-requires-clause-few c =
    let s = c.args.replica.now in
    let few = c.sane.ensures.sane.few in
    let sent = sent_log s c.args.known.now c.logged-log.result.now c.reach-end.result c.head_len-room.result few (c.head_len-room.ensures.size ∙ ap head_size c.members.ensures.members) c.logged-log.ensures.log c.reach-end.ensures.reach in
    let less = few_sent s c.args.known.now few in
    omega (arith, less, ap (λ (os : List Op). length os) sent)

pub returns-clause-bytes : goal.returns-clause-bytes
returns-clause-bytes c =
    let s = c.args.replica.now in
    let few = c.sane.ensures.sane.few in
    let ops = missing_for c.args.known.now (take c.reach-end.result c.logged-log.result.now) in
    let sent = sent_log s c.args.known.now c.logged-log.result.now c.reach-end.result c.head_len-room.result few (c.head_len-room.ensures.size ∙ ap head_size c.members.ensures.members) c.logged-log.ensures.log c.reach-end.ensures.reach in
    c.in_ok-put_ops.ensures.ok
    ∙ ap (λ (w : List ℕ). w ++ counted op_bytes ops) (c.in_ok-put_start.ensures.ok ∙ ap (λ (w : List ℕ). w ++ start_of s) c.in_ok-out.ensures.items)
    ∙ message_put s c.args.known.now ops sent

pub returns-clause-message : goal.returns-clause-message
returns-clause-message c = λ few. let s = c.args.replica.now in sent_message s c.args.known.now c.put_ops.new.out.items c.sane.ensures.sane (returns-clause-bytes c) (subst (All IsSpelledIfFit) c.logged-log.ensures.log c.fits.ensures.spelled) few
