use Rattle.std.proofs.Common.{◌∙◌, List, ap, subst, sym, refl}
use Rattle.std.specs.Prelude.{IfSome}
use Rattle.rls_rename.specs.Tree.{Epochs}
use Rattle.rls_model.specs.declared.parts.Stem.{Stem}
use Rattle.rls_model.specs.Stems.{stems_after}
use Rattle.rls_seen.specs.Seen.{Seen}
use Rattle.rls_ops.specs.Rows.{stable_of}
use Rattle.rls_seen.specs.Over.{accepted, acks_after, epochs_after, logged}
use Rattle.rls_seen.specs.Sane.{IsSane}
use Rattle.rls_seen.proofs.Applied.{accepted_sane}
use Rattle.rls_seen.proofs.Counting.{members_accepted}
use Rattle.rls_replica.specs.Changing.{IsPlaceOf}
use Rattle.rls_replica.specs.View.{seen}
use Rattle.rls_replica.proofs.Accepted.{accepted_is}
use Rattle.rls_replica.proofs.KeptKnown.{next_known}
use Rattle.rls_replica.proofs.Noting.{gone_accepted}
use Rattle.rls_replica.proofs.Whole.{whole_kept}
use Rattle.rls_blocks.specs.Trees.{entries_of}
use Rattle.rls_replica.proofs.replica.Replica.apply.Goals as goal

pub prepare-requires-clause-place : goal.prepare-requires-clause-place
prepare-requires-clause-place c =
    subst (λ (s : Seen). IfSome c.args.place (λ i. IsPlaceOf s.epochs s.text c.args.op.now.epoch c.args.op.now.body i)) (sym c.self.view_is) c.requires.place

pub returns-clause-ok : goal.returns-clause-ok
returns-clause-ok c =
    let i = seen c.self.inside in
    let o = c.args.op.now in
    let p = c.in_ok-renaming.ensures in
    let f = c.finish.ensures in
    accepted_is i o c.finish.new.acks c.finish.new.stems.stems c.finish.new.epochs.epochs (entries_of c.prepare.new.document.blocks) c.forget.new.held c.keep_unstable.new.log
    f.acks
    (f.stems ∙ ap (λ (ss : List Stem). stems_after ss o.author o.seq o.body) p.stems)
    (f.epochs ∙ ap (λ (E : Epochs). epochs_after E o) p.epochs)
    (p.text i refl refl)
    c.forget.ensures.others
    (c.keep_unstable.ensures.log i.log p.log c.len-count.ensures.len ∙ ap (λ v. logged v i.log o) c.stable.ensures.stable)
    ∙ ap (λ (s : Seen). accepted s o) c.self.view_is

pub invariant_of-self-2 : goal.invariant_of-self-2
invariant_of-self-2 c =
    let s = c.args.self.now in
    let o = c.args.op.now in
    let sane : IsSane (accepted s o) = accepted_sane s o (subst IsSane c.self.view_is c.self.invariant.sane) c.requires.may c.fits.ensures.range in
    whole_kept (seen c.self.inside) s _ (accepted s o) c.self.inside.stems.members c.finish.new.stems.members c.self.inside.gone c.self.inside.known c.keep_known.new.known c.self.view_is c.self.invariant (returns-clause-ok c) sane (members_accepted s o) (c.finish.ensures.members ∙ c.in_ok-renaming.ensures.members) (gone_accepted s o (subst IsSane c.self.view_is c.self.invariant.sane) c.requires.may)
    (next_known (seen c.self.inside) s c.self.inside.stems.members c.self.inside.gone c.self.inside.known c.self.inside.known c.keep_known.new.known o c.finish.new.epochs.epochs c.stable-2.result.now c.self.view_is c.self.invariant refl
    (c.finish.ensures.epochs ∙ (ap (λ (E : Epochs). epochs_after E o) c.in_ok-renaming.ensures.epochs ∙ ap (λ (u : Seen). epochs_after u.epochs o) c.self.view_is))
    (c.stable-2.ensures.stable ∙ (ap stable_of c.finish.ensures.acks ∙ ap (λ (u : Seen). stable_of (acks_after u.acks o.author o.body)) c.self.view_is)) c.keep_known.ensures.kept)
