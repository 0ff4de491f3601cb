use Rattle.std.proofs.Common.{◌≡◌, ◌∙◌, ◌⊎◌, List, Some, None, ap, sym, subst, refl}
use Rattle.rls_ops.specs.declared.op.Op.{Op}
use Rattle.rls_ops.specs.Waiting.{waiting_under, with_waiting, without}
use Rattle.rls_causal.proofs.Putting.{put_over}
use Rattle.rls_seen.specs.Seen.{Seen, members, vector}
use Rattle.rls_seen.specs.Over.{holding}
use Rattle.rls_seen.specs.Sane.{IsSane}
use Rattle.rls_seen.proofs.Staying.{put_sane}
use Rattle.rls_replica.specs.View.{seen}
use Rattle.rls_replica.proofs.Answered.{held_in_order, members_holding}
use Rattle.rls_replica.proofs.Noting.{gone_holding}
use Rattle.rls_replica.proofs.Whole.{still_known, whole_kept}
use Rattle.rls_replica.proofs.replica.Replica.hold.Goals as goal

pub returns-clause-ok : goal.returns-clause-ok
unfolding holding
returns-clause-ok c =
    let i = seen c.self.inside in
    let o = c.args.op in
    let alone = subst (λ (s : Seen). (waiting_under s.waiting o.author o.seq ≡ None) ⊎ (waiting_under s.waiting o.author o.seq ≡ Some o)) (sym c.self.view_is) c.requires.alone in
    let put = put_over o i.waiting (held_in_order (members i) (vector i) i.waiting c.self.invariant.sane.waiting) alone in
    ap (λ (W : List Op). holding i W) (c.in_ok-_put.ensures.after ∙ put) ∙ ap (λ (s : Seen). holding s (with_waiting o (without o.author o.seq s.waiting))) c.self.view_is

pub invariant_of-self-2 : goal.invariant_of-self-2
invariant_of-self-2 c =
    let s = c.args.self.now in
    let W = with_waiting c.args.op (without c.args.op.author c.args.op.seq s.waiting) in
    whole_kept (seen c.self.inside) s _ (holding s W) c.self.inside.stems.members c.self.inside.stems.members c.self.inside.gone c.self.inside.known c.self.inside.known c.self.view_is c.self.invariant (returns-clause-ok c)
    (put_sane s c.args.op (subst IsSane c.self.view_is c.self.invariant.sane) c.requires.may c.fits.ensures.range) (members_holding s W) refl (gone_holding s W)
    (still_known (seen c.self.inside) s c.self.inside.stems.members c.self.inside.gone c.self.inside.known W c.self.view_is c.self.invariant)
