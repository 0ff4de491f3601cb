use Rattle.std.proofs.Common.{◌≡◌, suc, ◌+◌, ◌-◌, ◌++◌, ap, sym, ◌∙◌, subst, arith}
use Rattle.std.proofs.lemmas.List.{append-nil}
use Rattle.std.specs.Prelude.{reverse}
use Rattle.rls_seen.specs.Seen.{text_over}
use Rattle.rls_steps.specs.Courses.{Steps, Back, MayMove}
use Rattle.rls_changes.specs.Edits.{edit_changes}
use Rattle.rls_steps.specs.Grounds.{over, held_at, steps_edits, steps_on}
use Rattle.rls_steps.specs.Groups.{stacked, in_front, group_size}
use Rattle.rls_steps.specs.Recorded.{held_by}
use Rattle.rls_steps.proofs.Grounded.{none_left}
use Rattle.rls_steps.proofs.Grouping.{length_left, front_less, run_more, course_more, left_more}
use Rattle.rls_steps.proofs.StepChanged.{next_back, part_back}
use Rattle.rls_steps.proofs.undoing.back.Goals as goal

pub steps-preserved : goal.steps-preserved
steps-preserved c =
    let st = stacked (held_by c.args.replica.now c.args.next.now c.args.names.now) c.args.from.now.items c.args.to.now.items in
    let now = stacked (held_by c.steps.replica c.steps.next c.steps.names) c.steps.from.items c.steps.to.items in
    let new = stacked (held_by c.back_one.new.replica c.back_one.new.next c.back_one.new.names) c.back_one.new.from.items c.back_one.new.to.items in
    let v = c.steps.invariant in
    let e = c.in_default.ensures in
    let some = c.ends_in.ensures.ends.0 c.steps-test.true in
    let less = front_less c.steps.from.items c.back_one.new.from.items _ some e.left in
    let size = c.steps.invariant.all in
    let w = length_left c.args.from.now.items c.steps.from.items c.steps.done v.within v.left less.1 in
    record {
      epochs = e.epochs ∙ v.epochs;
      all = omega (arith, v.all, less.0);
      within = omega (arith, w);
      left = left_more c.args.from.now.items c.steps.from.items c.back_one.new.from.items c.steps.done w v.left e.left;
      edits = λ k. let one : c.steps.done + suc k ≡ c.steps.done + 1 + k = omega arith in e.edits k ∙ (v.edits (suc k) ∙ ap (λ n. c.args.changes.now.items ++ edit_changes (steps_edits over n (held_at c.args.replica.now c.args.next.now c.args.names.now) (reverse c.args.from.now.items))) one);
      changes = next_back st now c.steps.done c.args.changes.now.items c.steps.changes.items c.back_one.new.changes.items (text_over c.args.replica.now) (text_over c.steps.replica) (text_over c.back_one.new.replica) v.after v.changes e.changes e.told;
      fit = run_more st c.steps.done v.fit (subst (λ (x : Steps). MayMove x Back) v.after e.fits);
      run = λ k. let one : c.steps.done + 1 + k ≡ c.steps.done + suc k = omega arith in ap (λ n. steps_on over n (held_at c.args.replica.now c.args.next.now c.args.names.now) (reverse c.args.from.now.items) c.args.to.now.items) one ∙ (v.run (suc k) ∙ e.exact k);
      after = course_more st now new c.steps.done v.after e.after;
    }

pub returns-in-Err-clause-refused : goal.returns-in-Err-clause-refused
returns-in-Err-clause-refused c = λ u.
    let v = c.steps.invariant in
    let some = c.ends_in.ensures.ends.0 c.steps-test.true in
    let k = in_front c.index.result.now.group (reverse c.steps.from.items) - 1 in
    let size : group_size c.args.from.now.items ≡ c.steps.done + suc k = omega (arith, v.all, some) in
    ap (λ n. steps_on over n (held_at c.args.replica.now c.args.next.now c.args.names.now) (reverse c.args.from.now.items) c.args.to.now.items) size ∙ (v.run (suc k) ∙ (c.in-Err.ensures.refused u k))

pub returns-clause-exact : goal.returns-clause-exact
returns-clause-exact c =
    let v = c.steps.invariant in
    let none = none_left (in_front c.index.result.now.group (reverse c.steps.from.items)) c.ends_in.result c.ends_in.ensures.ends.1 c.steps-test.false in
    let size : group_size c.args.from.now.items ≡ c.steps.done + 0 = omega (arith, v.all, none) in
    ap (λ n. steps_on over n (held_at c.args.replica.now c.args.next.now c.args.names.now) (reverse c.args.from.now.items) c.args.to.now.items) size ∙ v.run 0

pub returns-in-Err-clause-told : goal.returns-in-Err-clause-told
returns-in-Err-clause-told c =
    let st = stacked (held_by c.args.replica.now c.args.next.now c.args.names.now) c.args.from.now.items c.args.to.now.items in
    let now = stacked (held_by c.steps.replica c.steps.next c.steps.names) c.steps.from.items c.steps.to.items in
    let v = c.steps.invariant in
    let some = c.ends_in.ensures.ends.0 c.steps-test.true in
    part_back st now c.steps.done (group_size c.args.from.now.items) c.args.changes.now.items c.steps.changes.items c.back_one.new.changes.items (text_over c.args.replica.now) (text_over c.steps.replica) (text_over c.back_one.new.replica)
    (omega (arith, v.all, some)) v.after v.changes c.in-Err.ensures.told

pub returns-in-Err-clause-refused_edits : goal.returns-in-Err-clause-refused_edits
returns-in-Err-clause-refused_edits c = λ u.
    let v = c.steps.invariant in
    let some = c.ends_in.ensures.ends.0 c.steps-test.true in
    let k = in_front c.index.result.now.group (reverse c.steps.from.items) - 1 in
    let size : c.steps.done + suc k ≡ group_size c.args.from.now.items = omega (arith, v.all, some) in
    c.in-Err.ensures.refused_edits u k ∙ (v.edits (suc k) ∙ ap (λ n. c.args.changes.now.items ++ edit_changes (steps_edits over n (held_at c.args.replica.now c.args.next.now c.args.names.now) (reverse c.args.from.now.items))) size)

pub returns-clause-edits : goal.returns-clause-edits
returns-clause-edits c =
    let v = c.steps.invariant in
    let none = none_left (in_front c.index.result.now.group (reverse c.steps.from.items)) c.ends_in.result c.ends_in.ensures.ends.1 c.steps-test.false in
    let size : c.steps.done + 0 ≡ group_size c.args.from.now.items = omega (arith, v.all, none) in
    sym (append-nil c.steps.changes.items) ∙ (v.edits 0 ∙ ap (λ n. c.args.changes.now.items ++ edit_changes (steps_edits over n (held_at c.args.replica.now c.args.next.now c.args.names.now) (reverse c.args.from.now.items))) size)
