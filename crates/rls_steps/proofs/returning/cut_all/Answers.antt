use Rattle.std.proofs.Common.{◌≡◌, ◌∙◌, sym, ap, subst, refl, length, arith}
use Rattle.rls_model.specs.declared.edit.Edit.TheVariants as edits
use Rattle.rls_model.specs.declared.edit.EditError.TheVariants.{OutOfMemory}
use Rattle.rls_seen.specs.Edits.{edit_fault_over, IsFault}
use Rattle.rls_seen.specs.Seen.{Seen, text_over}
use Rattle.rls_steps.specs.Labelled.{Names, Labelled}
use Rattle.std.proofs.lemmas.Option.{slice_get_read}
use Rattle.rls_changes.proofs.Calls.{cut_back}
use Rattle.rls_steps.specs.Recorded.{held_by}
use Rattle.rls_steps.proofs.Cutting.{next_cut, fault_at, part_cut}
use Rattle.rls_steps.proofs.EditsTold.{range_edits}
use Rattle.rls_steps.proofs.StepChanged.{next_range, ranges_told}
use Rattle.rls_steps.proofs.returning.cut_all.Goals as goal

pub cuts-preserved : goal.cuts-preserved
cuts-preserved c =
    let h = held_by c.args.replica.now c.args.next.now c.args.names.now in
    let g = held_by c.cuts.replica c.cuts.next c.cuts.names in
    let k = held_by c.cut.new.replica c.cut.new.next c.cut.new.names in
    let rs = c.args.ranges.now.items in
    let r = c.index.result.now in
    let v = c.cuts.invariant in
    let e = c.in_default-cut.ensures in
    let n = next_cut h g k rs c.cuts.i c.args.group r c.args.other.now.items c.cuts.other.items c.cut.new.stack.items
    (slice_get_read rs (length rs) c.cuts.i r refl (omega (arith, c.cuts-test.true)) c.index.ensures) v.fit v.held v.stack (e.whole, e.fits) e.held e.stack in
    let m = next_range c.cuts.replica c.cut.new.replica rs c.cuts.i r c.args.changes.now.items c.cuts.changes.items c.push_deletion.new.changes.items (text_over c.args.replica.now)
    (slice_get_read rs (length rs) c.cuts.i r refl (omega (arith, c.cuts-test.true)) c.index.ensures) c.sane.ensures.sane (e.whole, e.fits) e.after v.changes c.in-Ok.ensures.ok in
    record { epochs = e.epochs ∙ v.epochs; fit = n.fit; held = n.held; changes = m; stack = n.stack }

pub returns-in-Err-clause-fault : goal.returns-in-Err-clause-fault
returns-in-Err-clause-fault c =
    let h = held_by c.args.replica.now c.args.next.now c.args.names.now in
    let rs = c.args.ranges.now.items in
    let r = c.index.result.now in
    let v = c.cuts.invariant in
    fault_at h rs c.cuts.i r c.in-Err.error (slice_get_read rs (length rs) c.cuts.i r refl (omega (arith, c.cuts-test.true)) c.index.ensures) v.fit
    (subst (λ (x : Labelled). IsFault c.in-Err.error (edit_fault_over x.seen (edits.Delete r.0 r.1))) v.held c.in-Err.ensures.fault)

pub returns-in-Err-clause-part : goal.returns-in-Err-clause-part
returns-in-Err-clause-part c =
    let h = held_by c.args.replica.now c.args.next.now c.args.names.now in
    let k = held_by c.cut.new.replica c.cut.new.next c.cut.new.names in
    let v = c.cuts.invariant in
    let e = c.in-Err.ensures in
    let same : k ≡ held_by c.cuts.replica c.cuts.next c.cuts.names =
    ap (λ (s : Seen). held_by s c.cut.new.next c.cut.new.names) e.err
    ∙ (ap (λ n. held_by c.cuts.replica n c.cut.new.names) e.next ∙ ap (λ (ns : Names). held_by c.cuts.replica c.cuts.next ns) e.names) in
    let rs = c.args.ranges.now.items in
    let r = c.index.result.now in
    part_cut h k rs c.cuts.i c.args.group r c.in-Err.error c.args.other.now.items c.cut.new.stack.items (slice_get_read rs (length rs) c.cuts.i r refl (omega (arith, c.cuts-test.true)) c.index.ensures)
    v.fit (same ∙ v.held) (subst (λ (s : Seen). IsFault c.in-Err.error (edit_fault_over s (edits.Delete r.0 r.1))) (sym e.err) e.fault) (e.stays ∙ v.stack)

-- where the deletion can't be told, the first ones were cut out
pub returns-in_default-clause-part : goal.returns-in_default-clause-part
returns-in_default-clause-part c =
    let h = held_by c.args.replica.now c.args.next.now c.args.names.now in
    let g = held_by c.cuts.replica c.cuts.next c.cuts.names in
    let rs = c.args.ranges.now.items in
    let r = c.index.result.now in
    let v = c.cuts.invariant in
    part_cut h g rs c.cuts.i c.args.group r OutOfMemory c.args.other.now.items c.cuts.other.items (slice_get_read rs (length rs) c.cuts.i r refl (omega (arith, c.cuts-test.true)) c.index.ensures)
    v.fit v.held tt v.stack

pub returns-in_default-clause-told : goal.returns-in_default-clause-told
returns-in_default-clause-told c =
    ranges_told c.args.ranges.now.items c.cuts.i c.args.changes.now.items c.cuts.changes.items c.push_deletion.new.changes.items (text_over c.args.replica.now) (text_over c.cuts.replica) (text_over c.cuts.replica) c.cuts.invariant.changes c.in_default.ensures.err refl

pub returns-in-Err-clause-told : goal.returns-in-Err-clause-told
returns-in-Err-clause-told c =
    let old = c.cuts.changes.items in
    ranges_told c.args.ranges.now.items c.cuts.i c.args.changes.now.items old c.truncate.new.self.items (text_over c.args.replica.now) (text_over c.cuts.replica) (text_over c.cut.new.replica) c.cuts.invariant.changes
    (cut_back old _ c.push_deletion.new.changes.items c.truncate.new.self.items c.len-before.result (c.len-before.ensures ∙ c.cuts.changes.ok.0) c.in-Ok.ensures.ok c.truncate.ensures.items)
    (ap (λ (s : Seen). text_over s) c.in-Err.ensures.err)

pub returns-in-Err-clause-edits : goal.returns-in-Err-clause-edits
returns-in-Err-clause-edits c = λ u.
    let h = held_by c.args.replica.now c.args.next.now c.args.names.now in
    let g = held_by c.cuts.replica c.cuts.next c.cuts.names in
    let rs = c.args.ranges.now.items in
    let r = c.index.result.now in
    let v = c.cuts.invariant in
    let old = c.cuts.changes.items in
    range_edits h g rs c.cuts.i r c.in-Err.error c.args.changes.now.items old c.truncate.new.self.items u (slice_get_read rs (length rs) c.cuts.i r refl (omega (arith, c.cuts-test.true)) c.index.ensures) v.fit v.held c.in-Err.ensures.fault v.changes.told
    (cut_back old _ c.push_deletion.new.changes.items c.truncate.new.self.items c.len-before.result (c.len-before.ensures ∙ c.cuts.changes.ok.0) c.in-Ok.ensures.ok c.truncate.ensures.items)

pub returns-in_default-clause-edits : goal.returns-in_default-clause-edits
returns-in_default-clause-edits c = λ u. absurd (u refl)
