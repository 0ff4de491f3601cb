use Rattle.std.proofs.Common.{◌∙◌, ℕ, List, None, map, sym, ap, subst, refl}
use Rattle.rls_rename.specs.Tree.{Epochs}
use Rattle.rls_rename.specs.Keeping.{kept_part}
use Rattle.rls_ops.specs.declared.op.Op.{Op}
use Rattle.rls_ops.specs.Rows.{missing_for}
use Rattle.rls_epoch.specs.Seen.{is_marked}
use Rattle.rls_model.specs.declared.counts.Counts.{Counts}
use Rattle.rls_model.specs.Retained.{counts}
use Rattle.rls_seen.specs.Seen.{Seen}
use Rattle.rls_seen.specs.Kept.{dropped, counts_over}
use Rattle.rls_seen.specs.Sane.{IsSane}
use Rattle.rls_seen.specs.Stands.{StandsFor}
use Rattle.rls_seen.proofs.Dropped.{dropped_sane}
use Rattle.rls_seen.proofs.Keeping.{counts_alike, dropped_stands}
use Rattle.rls_replica.specs.KeptJust.{KeepsJust}
use Rattle.rls_replica.specs.View.{seen}
use Rattle.rls_replica.proofs.Marking.{dropped_is, keeps_just, members_dropped}
use Rattle.rls_replica.proofs.StillNumbers.{counts_still}
use Rattle.rls_replica.proofs.Whole.{whole_next}
use Rattle.rls_replica.proofs.replica.Replica.drop_stable.Goals as goal

pub returns-clause-after : goal.returns-clause-after
returns-clause-after c =
    let s = seen c.self.inside in
    let marks = c.mark_unstable.new.epochs.marks in
    dropped_is s c.keep.new.self.epochs marks c.drop_at_most.new.self c.self.invariant.sane.epochs.nodes
    (λ e. c.mark_unstable.ensures.marks e ∙ ap (λ (v : List ℕ). is_marked (map (λ (o : Op). o.epoch) (missing_for v s.log)) e) c.stable.ensures.stable)
    (c.keep.ensures.epochs ∙ (ap (λ (E : Epochs). kept_part E c.stable-2.result.now marks) c.mark_unstable.ensures.epochs ∙ ap (λ (v : List ℕ). kept_part s.epochs v marks) c.stable-2.ensures.stable))
    (c.drop_at_most.ensures.kept ∙ ap (λ (v : List ℕ). missing_for v s.log) c.stable-3.ensures.stable)
    ∙ ap dropped c.self.view_is

pub returns-clause-counts : goal.returns-clause-counts
returns-clause-counts c = let s = c.args.self.now in ap counts_over (returns-clause-after c) ∙ counts_still s (subst IsSane c.self.view_is c.self.invariant.sane)

pub returns-clause-kept : goal.returns-clause-kept
returns-clause-kept c =
    let s = c.args.self.now in subst (λ (u : Seen). KeepsJust u (counts_over s)) (sym (returns-clause-after c)) (keeps_just s (subst IsSane c.self.view_is c.self.invariant.sane))

pub returns-clause-stands : goal.returns-clause-stands
returns-clause-stands c = λ t h. (
  subst (λ (u : Seen). StandsFor u t) (sym (returns-clause-after c)) (dropped_stands c.args.self.now t h),
  subst (λ (u : Seen). KeepsJust u (counts t)) (sym (returns-clause-after c)) (subst (λ (n : Counts). KeepsJust (dropped c.args.self.now) n) (counts_alike c.args.self.now t h) (keeps_just c.args.self.now (subst IsSane c.self.view_is c.self.invariant.sane))),
)

pub invariant_of-self : goal.invariant_of-self
invariant_of-self c =
    let s = c.args.self.now in
    whole_next (seen c.self.inside) s _ (dropped s) c.self.inside.stems.members c.self.inside.stems.members c.self.inside.gone None c.self.inside.known None c.self.view_is c.self.invariant (returns-clause-after c)
    (dropped_sane s (subst IsSane c.self.view_is c.self.invariant.sane)) (members_dropped s) refl tt tt
