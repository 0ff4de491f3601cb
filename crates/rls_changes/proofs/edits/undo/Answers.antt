use Rattle.std.proofs.Common.{◌≡◌, ◌∙◌, ℕ, ◌+◌, ◌-◌, length, take, ap, arith}
use Rattle.rls_seen.specs.Seen.{own_count}
use Rattle.rls_undo.specs.declared.undo.UndoError.TheVariants as undo
use Rattle.rls_undo.specs.Undoing.{last_of, plan_over}
use Rattle.rls_changes.proofs.Errors.{handed_on}
use Rattle.rls_changes.proofs.Edited.{part_leads, part_more, plan_ones, told_part, told_refused, whole_leads}
use Rattle.rls_changes.proofs.edits.undo.Goals as goal

pub returns-in-Err-clause-nothing : goal.returns-in-Err-clause-nothing
returns-in-Err-clause-nothing c = handed_on c.in-Err.error undo.Nothing _ c.in-Err.ensures.nothing

pub returns-in-Err-clause-dropped : goal.returns-in-Err-clause-dropped
returns-in-Err-clause-dropped c = λ e. handed_on c.in-Err.error (undo.Dropped e) _ (c.in-Err.ensures.dropped e)

pub overflow_sub-performed : goal.overflow_sub-performed
overflow_sub-performed c =
    let s = c.args.replica.now in
    let m = part_more s c.undo.new.replica (plan_over s (last_of c.args.entries.now)) c.sane.ensures.sane c.in_default.ensures.whole c.in-Err-undo.ensures.part in
    omega (arith, m, c.own_number.ensures.count, c.own_number-first.ensures.count)

pub returns-in-Ok-clause-lead : goal.returns-in-Ok-clause-lead
returns-in-Ok-clause-lead c =
    let s = c.args.replica.now in
    let e = c.in-Ok.ensures in
    whole_leads s c.undo.new.replica (plan_over s (last_of c.args.entries.now)) c.args.changes.now.items c.push_plan.new.changes.items c.sane.ensures.sane c.in_default.ensures.whole e.fits e.after c.in_default.ensures.ok

module _ (c : goal.After-truncate) where
  -- how many of the plan's edits were performed
  done : own_count c.undo.new.replica ≡ own_count c.args.replica.now + (c.own_number.result - c.own_number-first.result)
  done = let m = part_more c.args.replica.now c.undo.new.replica (plan_over c.args.replica.now (last_of c.args.entries.now)) c.sane.ensures.sane c.in_default.ensures.whole c.in-Err-undo.ensures.part in omega (arith, m, c.own_number.ensures.count, c.own_number-first.ensures.count)

  -- and what is told of them
  cut : c.truncate.new.self.items ≡ take (length c.args.changes.now.items + (c.own_number.result - c.own_number-first.result)) c.push_plan.new.changes.items
  cut = c.truncate.ensures.items ∙ ap (λ (j : ℕ). take (j + (c.own_number.result - c.own_number-first.result)) c.push_plan.new.changes.items) (c.len-before.ensures ∙ c.args.changes.now.ok.0)

pub returns-in-Err-undo-clause-refused : goal.returns-in-Err-undo-clause-refused
returns-in-Err-undo-clause-refused c = λ f h.
    let s = c.args.replica.now in
    let plan = last_of c.args.entries.now in
    let r = c.in-Err-undo.ensures.refused f h in
    (r.0, r.1, told_refused s _ (plan_over s plan) c.args.changes.now.items _ _ _ c.sane.ensures.sane c.in_default.ensures.whole (plan_ones s plan) r.1 c.in_default.ensures.ok (done c) (cut c))

part : goal.returns-in-Err-undo-clause-part
part c =
    let s = c.args.replica.now in
    let plan = last_of c.args.entries.now in
    told_part s _ (plan_over s plan) c.args.changes.now.items _ _ _ c.sane.ensures.sane c.in_default.ensures.whole (plan_ones s plan) c.in-Err-undo.ensures.part c.in_default.ensures.ok (done c) (cut c)

pub returns-in-Err-undo-clause-part : goal.returns-in-Err-undo-clause-part
returns-in-Err-undo-clause-part c = part c

pub returns-in-Err-undo-clause-lead : goal.returns-in-Err-undo-clause-lead
returns-in-Err-undo-clause-lead c =
    let s = c.args.replica.now in
    part_leads s c.undo.new.replica (plan_over s (last_of c.args.entries.now)) c.args.changes.now.items c.truncate.new.self.items c.sane.ensures.sane c.in_default.ensures.whole (part c)
