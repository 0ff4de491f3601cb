use Rattle.std.proofs.Common.{◌≡◌, ◌∙◌, ◌<◌, ◌++◌, List, [], ◌∷◌, Some, None, slice_index, ap, sym, subst, refl, arith}
use Rattle.rls_rename.specs.Tree.{Epochs}
use Rattle.std.specs.Prelude.{IfSome}
use Rattle.rls_ops.specs.declared.op.Op.{Op}
use Rattle.rls_ops.specs.Rows.{stable_of}
use Rattle.rls_model.specs.declared.parts.Stem.{Stem}
use Rattle.rls_model.specs.Stems.{stems_after}
use Rattle.rls_seen.specs.Over.{accepted, acks_after, epochs_after, logged, released}
use Rattle.rls_seen.specs.Sane.{IsSane, MayApply}
use Rattle.rls_seen.proofs.Counting.{members_released}
use Rattle.rls_seen.proofs.Needed.{author_in}
use Rattle.rls_seen.proofs.Repeating.{released_accepted}
use Rattle.rls_seen.proofs.Staying.{released_sane}
use Rattle.rls_replica.specs.Changing.{renaming_in}
use Rattle.rls_seen.specs.Seen.{Seen}
use Rattle.rls_replica.specs.Gone.{IsGone}
use Rattle.rls_replica.specs.Known.{IsKnown}
use Rattle.rls_replica.proofs.KeptKnown.{next_known}
use Rattle.rls_replica.specs.View.{seen}
use Rattle.rls_replica.proofs.Accepted.{accepted_is, next_is, next_taken}
use Rattle.rls_replica.proofs.Noting.{gone_accepted}
use Rattle.rls_replica.proofs.Whole.{whole_kept}
use Rattle.rls_blocks.specs.Trees.{entries_of}
use Rattle.rls_replica.proofs.replica.Replica.apply_ready.Goals as goal

pub prepare-requires-clause-may : goal.prepare-requires-clause-may
prepare-requires-clause-may c =
    let i = seen c.self.inside in
    let h = next_is i c.args.self.now c.mine.result.now c.in-Some.op.now c.self.view_is c.self.invariant.sane c.mine.ensures.mine c.in-Some.ensures.ready c.requires.fits in
    record { replica = i; epochs_are = refl; text_is = refl; sane = c.self.invariant.sane; may = h.may }

pub prepare-requires-clause-author : goal.prepare-requires-clause-author
prepare-requires-clause-author c =
    let i = seen c.self.inside in
    let a = author_in i c.in-Some.op.now (next_is i c.args.self.now c.mine.result.now c.in-Some.op.now c.self.view_is c.self.invariant.sane c.mine.ensures.mine c.in-Some.ensures.ready c.requires.fits).may in
    let e = c.self.invariant.authors_are in
    omega arith

pub unreachable-requires-in_default-remove : goal.unreachable-requires-in_default-remove
unreachable-requires-in_default-remove c =
    let i = seen c.self.inside in
    let w = c.in-Some.op.now in
    let h = next_is i c.args.self.now c.mine.result.now w c.self.view_is c.self.invariant.sane c.mine.ensures.mine c.in-Some.ensures.ready c.requires.fits in
    let e : None ≡ Some w = sym c.in_default-remove.is ∙ (c.remove.ensures.found ∙ h.under) in
    absurd (cc)

pub finish-requires-clause-may : goal.finish-requires-clause-may
finish-requires-clause-may c =
    let i = seen c.self.inside in
    let w = c.in-Some.op.now in
    let h = next_is i c.args.self.now c.mine.result.now w c.self.view_is c.self.invariant.sane c.mine.ensures.mine c.in-Some.ensures.ready c.requires.fits in
    let e = next_taken _ c.args.self.now _ c.in-Some.op.now c.in-Some-remove.op c.remove.result c.self.view_is c.self.invariant.sane c.mine.ensures.mine c.in-Some.ensures.ready c.requires.fits c.remove.ensures.found c.in-Some-remove.is in
    record {
      replica = i;
      acks_are = refl;
      stems_are = sym c.in_ok-renaming.ensures.stems;
      epochs_are = sym c.in_ok-renaming.ensures.epochs;
      sane = c.self.invariant.sane;
      may = subst (MayApply i) (sym e) h.may;
    }

pub finish-requires-clause-renaming : goal.finish-requires-clause-renaming
finish-requires-clause-renaming c =
    let e = next_taken _ c.args.self.now _ c.in-Some.op.now c.in-Some-remove.op c.remove.result c.self.view_is c.self.invariant.sane c.mine.ensures.mine c.in-Some.ensures.ready c.requires.fits c.remove.ensures.found c.in-Some-remove.is in
    c.in_ok-renaming.ensures.renaming ∙ ap (λ (o : Op). renaming_in o o.body) (sym e)

pub finish-requires-clause-stem_room : goal.finish-requires-clause-stem_room
finish-requires-clause-stem_room c =
    let e = next_taken _ c.args.self.now _ c.in-Some.op.now c.in-Some-remove.op c.remove.result c.self.view_is c.self.invariant.sane c.mine.ensures.mine c.in-Some.ensures.ready c.requires.fits c.remove.ensures.found c.in-Some-remove.is in
    subst (λ (o : Op). 0 < slice_index c.prepare.new.stems.spare o.author) (sym e) c.in_ok-renaming.ensures.stem_room

pub returns-clause-ok : goal.returns-clause-ok
returns-clause-ok c =
    let i = seen c.self.inside in
    let w = c.in-Some.op.now in
    let h = next_is i c.args.self.now c.mine.result.now w c.self.view_is c.self.invariant.sane c.mine.ensures.mine c.in-Some.ensures.ready c.requires.fits in
    let e = next_taken _ c.args.self.now _ c.in-Some.op.now c.in-Some-remove.op c.remove.result c.self.view_is c.self.invariant.sane c.mine.ensures.mine c.in-Some.ensures.ready c.requires.fits c.remove.ensures.found c.in-Some-remove.is in
    let p = c.in_ok-renaming.ensures in
    let f = c.finish.ensures in
    accepted_is i w c.finish.new.acks c.finish.new.stems.stems c.finish.new.epochs.epochs (entries_of c.prepare.new.document.blocks) c.remove.new.self c.keep_unstable.new.log
    (f.acks ∙ ap (λ (o : Op). acks_after i.acks o.author o.body) e)
    (f.stems ∙ (ap (λ (ss : List Stem). stems_after ss c.in-Some-remove.op.author c.in-Some-remove.op.seq c.in-Some-remove.op.body) p.stems ∙ ap (λ (o : Op). stems_after i.stems o.author o.seq o.body) e))
    (f.epochs ∙ (ap (λ (E : Epochs). epochs_after E c.in-Some-remove.op) p.epochs ∙ ap (epochs_after i.epochs) e))
    (p.text i refl refl)
    c.remove.ensures.others
    (c.keep_unstable.ensures.log i.log (p.log ∙ ap (λ (o : Op). i.log ++ o ∷ []) (sym e)) c.len-count.ensures.len
    ∙ (ap (λ v. logged v i.log c.in-Some-remove.op) c.stable.ensures.stable ∙ ap (logged (stable_of c.finish.new.acks) i.log) e))
    ∙ (released_accepted i w h.first h.fits ∙ ap released c.self.view_is)

pub invariant_of-self-2 : goal.invariant_of-self-2
invariant_of-self-2 c =
    let s = c.args.self.now in
    let sane = released_sane s (subst IsSane c.self.view_is c.self.invariant.sane) in
    whole_kept (seen c.self.inside) s _ (released s) c.self.inside.stems.members c.finish.new.stems.members c.self.inside.gone c.self.inside.known c.keep_known.new.known c.self.view_is c.self.invariant (returns-clause-ok c) sane (members_released s) (c.finish.ensures.members ∙ c.in_ok-renaming.ensures.members)
    (λ g k. let i = seen c.self.inside in
    let h = next_is i s c.mine.result.now c.in-Some.op.now c.self.view_is c.self.invariant.sane c.mine.ensures.mine c.in-Some.ensures.ready c.requires.fits in
    subst (λ (u : Seen). IsGone u g) (released_accepted i c.in-Some.op.now h.first h.fits ∙ ap released c.self.view_is) (gone_accepted i c.in-Some.op.now c.self.invariant.sane h.may g (subst (λ (u : Seen). IsGone u g) (sym c.self.view_is) k)))
    (let i = seen c.self.inside in
    let w = c.in-Some.op.now in
    let h = next_is i s c.mine.result.now w c.self.view_is c.self.invariant.sane c.mine.ensures.mine c.in-Some.ensures.ready c.requires.fits in
    let o = c.in-Some-remove.op in
    let e = next_taken _ s _ w o c.remove.result c.self.view_is c.self.invariant.sane c.mine.ensures.mine c.in-Some.ensures.ready c.requires.fits c.remove.ensures.found c.in-Some-remove.is in
    subst (λ (u : Seen). IfSome c.keep_known.new.known (λ k. IsKnown u k)) (ap (accepted i) e ∙ (released_accepted i w h.first h.fits ∙ ap released c.self.view_is))
    (next_known i i c.self.inside.stems.members c.self.inside.gone c.self.inside.known c.self.inside.known c.keep_known.new.known o c.finish.new.epochs.epochs c.stable-2.result.now refl c.self.invariant refl
    (c.finish.ensures.epochs ∙ ap (λ (E : Epochs). epochs_after E o) c.in_ok-renaming.ensures.epochs) (c.stable-2.ensures.stable ∙ ap stable_of c.finish.ensures.acks) c.keep_known.ensures.kept))
