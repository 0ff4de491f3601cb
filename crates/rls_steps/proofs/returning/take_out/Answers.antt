use Rattle.std.proofs.Common.{◌≡◌, ◌++◌, ℕ, List, arith, length, map, refl, sym, subst, append-nil}
use Rattle.rls_seen.specs.Edits.{IsFault}
use Rattle.rls_seen.specs.Seen.{text_over}
use Rattle.rls_steps.specs.Courses.{FitRanges}
use Rattle.rls_steps.specs.Recorded.{held_by}
use Rattle.rls_steps.specs.Returning.{ranges_fault, IsPartCut}
use Rattle.rls_steps.specs.StepChanges.{range_change, AreTold}
use Rattle.rls_steps.proofs.Cutting.{some_out, none_out, no_ranges}
use Rattle.rls_steps.proofs.EditsTold.{label_edits}
use Rattle.rls_steps.proofs.returning.take_out.Goals as goal

pub returns-in-Err-clause-fault : goal.returns-in-Err-clause-fault
returns-in-Err-clause-fault c =
    let s = c.args.replica.now in
    let h = held_by s c.args.next.now c.args.names.now in
    let same = c.in-Ok.ensures.ranges c.args.next.now in
    subst (λ (rs : List (ℕ × ℕ)). IsFault c.in-Err.error (ranges_fault h rs)) same c.in-Err.ensures.fault

pub returns-in-Err-clause-part : goal.returns-in-Err-clause-part
returns-in-Err-clause-part c =
    let s = c.args.replica.now in
    let h = held_by s c.args.next.now c.args.names.now in
    let n = held_by c.cut_all.new.replica c.cut_all.new.next c.cut_all.new.names in
    let same = c.in-Ok.ensures.ranges c.args.next.now in
    subst (λ (rs : List (ℕ × ℕ)). IsPartCut c.in-Err.error h rs n c.args.group c.args.other.now.items c.cut_all.new.other.items) same c.in-Err.ensures.part

pub returns-clause-fits : goal.returns-clause-fits
returns-clause-fits c =
    let s = c.args.replica.now in
    let h = held_by s c.args.next.now c.args.names.now in
    let same = c.in-Ok.ensures.ranges c.args.next.now in
    subst (λ (rs : List (ℕ × ℕ)). FitRanges h rs) same c.in-Ok-cut_all.ensures.fits

pub returns-clause-held : goal.returns-clause-held
returns-clause-held c =
    let s = c.args.replica.now in
    let h = held_by s c.args.next.now c.args.names.now in
    let n = held_by c.cut_all.new.replica c.cut_all.new.next c.cut_all.new.names in
    let some : length c.in-Ok.ranges.items ≡ 0 → ⊥ = λ e. omega (arith, e, c.if-len-eq0.false) in
    let done = c.in-Ok-cut_all.ensures in
    (some_out h n c.args.labels.now c.in-Ok.ranges.items c.args.group c.args.other.now.items c.cut_all.new.other.items (c.in-Ok.ensures.ranges c.args.next.now) some done.fits done.held done.stack).held

pub returns-clause-stack : goal.returns-clause-stack
returns-clause-stack c =
    let s = c.args.replica.now in
    let h = held_by s c.args.next.now c.args.names.now in
    let n = held_by c.cut_all.new.replica c.cut_all.new.next c.cut_all.new.names in
    let some : length c.in-Ok.ranges.items ≡ 0 → ⊥ = λ e. omega (arith, e, c.if-len-eq0.false) in
    let done = c.in-Ok-cut_all.ensures in
    (some_out h n c.args.labels.now c.in-Ok.ranges.items c.args.group c.args.other.now.items c.cut_all.new.other.items (c.in-Ok.ensures.ranges c.args.next.now) some done.fits done.held done.stack).stack

pub returns-in-Err-clause-told : goal.returns-in-Err-clause-told
returns-in-Err-clause-told c =
    let same = c.in-Ok.ensures.ranges c.args.next.now in
    subst (λ (rs : List (ℕ × ℕ)). AreTold (map range_change rs) c.args.changes.now.items c.cut_all.new.changes.items (text_over c.args.replica.now) (text_over c.cut_all.new.replica)) same c.in-Err.ensures.told

pub returns-clause-changes : goal.returns-clause-changes
returns-clause-changes c =
    let same = c.in-Ok.ensures.ranges c.args.next.now in
    subst (λ (rs : List (ℕ × ℕ)). c.cut_all.new.changes.items ≡ c.args.changes.now.items ++ map range_change rs) same c.in-Ok-cut_all.ensures.changes

pub returns-clause-told : goal.returns-clause-told
returns-clause-told c =
    let same = c.in-Ok.ensures.ranges c.args.next.now in
    subst (λ (rs : List (ℕ × ℕ)). AreTold (map range_change rs) c.args.changes.now.items c.cut_all.new.changes.items (text_over c.args.replica.now) (text_over c.cut_all.new.replica)) same c.in-Ok-cut_all.ensures.told

pub returns-in-Err-clause-edits : goal.returns-in-Err-clause-edits
returns-in-Err-clause-edits c = λ u.
    let h = held_by c.args.replica.now c.args.next.now c.args.names.now in
    label_edits h c.args.labels.now c.in-Ok.ranges.items c.args.changes.now.items c.cut_all.new.changes.items (c.in-Ok.ensures.ranges c.args.next.now) (c.in-Err.ensures.edits u)

pub returns-in_default-clause-edits : goal.returns-in_default-clause-edits
returns-in_default-clause-edits c = λ u. absurd (u refl)

pub returns-then-len-eq0-clause-fits : goal.returns-then-len-eq0-clause-fits
returns-then-len-eq0-clause-fits c =
    let h = held_by c.args.replica.now c.args.next.now c.args.names.now in
    (none_out h c.args.labels.now c.in-Ok.ranges.items c.args.group c.args.other.now.items c.push_empty.new.steps.items (c.in-Ok.ensures.ranges c.args.next.now) (omega (arith, c.if-len-eq0.true)) c.in-Ok-push_empty.ensures.ok).fits

pub returns-then-len-eq0-clause-held : goal.returns-then-len-eq0-clause-held
returns-then-len-eq0-clause-held c =
    let h = held_by c.args.replica.now c.args.next.now c.args.names.now in
    (none_out h c.args.labels.now c.in-Ok.ranges.items c.args.group c.args.other.now.items c.push_empty.new.steps.items (c.in-Ok.ensures.ranges c.args.next.now) (omega (arith, c.if-len-eq0.true)) c.in-Ok-push_empty.ensures.ok).held

pub returns-then-len-eq0-clause-stack : goal.returns-then-len-eq0-clause-stack
returns-then-len-eq0-clause-stack c =
    let h = held_by c.args.replica.now c.args.next.now c.args.names.now in
    (none_out h c.args.labels.now c.in-Ok.ranges.items c.args.group c.args.other.now.items c.push_empty.new.steps.items (c.in-Ok.ensures.ranges c.args.next.now) (omega (arith, c.if-len-eq0.true)) c.in-Ok-push_empty.ensures.ok).stack

pub returns-then-len-eq0-clause-changes : goal.returns-then-len-eq0-clause-changes
returns-then-len-eq0-clause-changes c =
    let h = held_by c.args.replica.now c.args.next.now c.args.names.now in
    let cs = c.args.changes.now.items in
    subst (λ (rs : List (ℕ × ℕ)). cs ≡ cs ++ map range_change rs) (no_ranges h c.args.labels.now c.in-Ok.ranges.items (c.in-Ok.ensures.ranges c.args.next.now) (omega (arith, c.if-len-eq0.true))) (sym (append-nil cs))
