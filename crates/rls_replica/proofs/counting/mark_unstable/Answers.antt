use Rattle.std.proofs.Common.{◌≡◌, ◌∙◌, ◌+◌, ◌||◌, not, true, false, List, drop, map, sym, ap, subst}
use Rattle.rls_ident.specs.declared.epoch_name.EpochName.{EpochName}
use Rattle.rls_ident.specs.EpochNames.{name_eq}
use Rattle.rls_ident.proofs.Members.{filter_in, get_in}
use Rattle.rls_rename.specs.Tree.{Epochs, is_kept}
use Rattle.rls_ops.specs.declared.op.Op.{Op}
use Rattle.rls_ops.specs.Rows.{is_covered, missing_for}
use Rattle.rls_epoch.specs.Seen.{is_marked}
use Rattle.rls_log.proofs.Uncovered.{covered_step, uncovered_step}
use Rattle.rls_replica.proofs.Marking.{marked_next}
use Rattle.rls_replica.proofs.counting.mark_unstable.Goals as goal

pub mark-requires : goal.mark-requires
mark-requires c =
    let h = c.head-head.ensures.head in
    let o = h.0 in
    let v = c.args.stable.now in
    let above : is_covered v o ≡ false = sym (c.is_covered.ensures.covered o h.2) ∙ c.if-is_covered.false in
    let kept = c.requires.kept o (filter_in (λ x. not (is_covered v x)) o c.args.log.now (get_in c.args.log.now c.loop-i.i o h.1) (ap not above)) in
    record { kept = subst (λ (E : Epochs). is_kept E.top E.nodes c.head-head.result.epoch ≡ true) (sym c.loop-i.invariant.epochs) (subst (λ (e : EpochName). is_kept c.args.epochs.now.epochs.top c.args.epochs.now.epochs.nodes e ≡ true) (sym h.2.epoch) kept) }

pub loop-i-preserved-then-is_covered : goal.loop-i-preserved-then-is_covered
loop-i-preserved-then-is_covered c =
    let h = c.head-head.ensures.head in
    let more = covered_step c.args.stable.now c.args.log.now c.loop-i.i h.0 h.1 (sym (c.is_covered.ensures.covered h.0 h.2) ∙ c.if-is_covered.true) in
    record {
      epochs = c.loop-i.invariant.epochs;
      marks = λ e. ap (λ (os : List Op). is_marked (map (λ (o : Op). o.epoch) os) e || is_marked c.loop-i.epochs.marks e) more ∙ c.loop-i.invariant.marks e;
    }

pub loop-i-preserved : goal.loop-i-preserved
loop-i-preserved c =
    let h = c.head-head.ensures.head in
    let o = h.0 in
    let v = c.args.stable.now in
    let rest = missing_for v (drop (c.loop-i.i + 1) c.args.log.now) in
    let more = uncovered_step v c.args.log.now c.loop-i.i o h.1 (sym (c.is_covered.ensures.covered o h.2) ∙ c.if-is_covered.false) in
    record {
      epochs = c.mark.ensures.epochs ∙ c.loop-i.invariant.epochs;
      marks = λ e.
          ap (λ b. is_marked (map (λ (x : Op). x.epoch) rest) e || b) (c.mark.ensures.marks e ∙ ap (λ (f : EpochName). name_eq f e || is_marked c.loop-i.epochs.marks e) h.2.epoch)
          ∙ (marked_next (name_eq o.epoch e) (is_marked (map (λ (x : Op). x.epoch) rest) e) (is_marked c.loop-i.epochs.marks e)
          ∙ (ap (λ (os : List Op). is_marked (map (λ (o : Op). o.epoch) os) e || is_marked c.loop-i.epochs.marks e) more ∙ c.loop-i.invariant.marks e));
    }
