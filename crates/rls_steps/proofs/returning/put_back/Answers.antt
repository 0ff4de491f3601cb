use Rattle.std.proofs.Common.{◌∙◌}
use Rattle.rls_changes.proofs.Calls.{cut_back}
use Rattle.rls_steps.specs.Recorded.{held_by}
use Rattle.rls_steps.proofs.Cutting.{put_done, put_fault}
use Rattle.rls_steps.proofs.EditsTold.{put_edits}
use Rattle.rls_steps.proofs.StepChanged.{none_told, put_told}
use Rattle.rls_steps.proofs.returning.put_back.Goals as goal

pub returns-in-Ok-put-clause-fits : goal.returns-in-Ok-put-clause-fits
returns-in-Ok-put-clause-fits c =
    let h = held_by c.args.replica.now c.args.next.now c.args.names.now in
    let k = held_by c.put.new.replica c.args.next.now c.put.new.names in
    (put_done h k c.in-Ok.at c.in-Ok-copy-2.labels c.in-Ok-copy.text c.args.labels.now c.args.text.now c.args.left c.args.right c.args.group c.args.other.now.items c.put.new.stack.items (c.in-Ok.ensures.place c.args.next.now) c.in-Ok-copy-2.ensures.copy c.in-Ok-copy.ensures.copy c.in-Ok-put.ensures.whole c.in-Ok-put.ensures.fits (c.in-Ok-put.ensures.held c.args.next.now) c.in-Ok-put.ensures.stack).fits

pub returns-in-Ok-put-clause-held : goal.returns-in-Ok-put-clause-held
returns-in-Ok-put-clause-held c =
    let h = held_by c.args.replica.now c.args.next.now c.args.names.now in
    let k = held_by c.put.new.replica c.args.next.now c.put.new.names in
    (put_done h k c.in-Ok.at c.in-Ok-copy-2.labels c.in-Ok-copy.text c.args.labels.now c.args.text.now c.args.left c.args.right c.args.group c.args.other.now.items c.put.new.stack.items (c.in-Ok.ensures.place c.args.next.now) c.in-Ok-copy-2.ensures.copy c.in-Ok-copy.ensures.copy c.in-Ok-put.ensures.whole c.in-Ok-put.ensures.fits (c.in-Ok-put.ensures.held c.args.next.now) c.in-Ok-put.ensures.stack).held

pub returns-in-Err-clause-fault : goal.returns-in-Err-clause-fault
returns-in-Err-clause-fault c =
    let h = held_by c.args.replica.now c.args.next.now c.args.names.now in
    put_fault h c.in-Ok.at c.in-Ok-copy.text c.args.labels.now c.args.text.now c.args.left c.args.right c.in-Err.error (c.in-Ok.ensures.place c.args.next.now) c.in-Ok-copy.ensures.copy c.in-Err.ensures.fault

pub returns-in-Ok-put-clause-changes : goal.returns-in-Ok-put-clause-changes
returns-in-Ok-put-clause-changes c =
    let h = held_by c.args.replica.now c.args.next.now c.args.names.now in
    let e = c.in-Ok-put.ensures in
    (put_told h c.put.new.replica c.in-Ok.at c.args.text.now c.in-Ok-copy.text c.args.left c.args.right c.args.changes.now.items c.push_insertion.new.changes.items (c.in-Ok.ensures.place c.args.next.now) c.in-Ok-copy.ensures.copy c.sane.ensures.sane (e.whole, e.fits) e.after c.in-Ok-push_insertion.ensures.ok).0

pub returns-in-Ok-put-clause-told : goal.returns-in-Ok-put-clause-told
returns-in-Ok-put-clause-told c =
    let h = held_by c.args.replica.now c.args.next.now c.args.names.now in
    let e = c.in-Ok-put.ensures in
    (put_told h c.put.new.replica c.in-Ok.at c.args.text.now c.in-Ok-copy.text c.args.left c.args.right c.args.changes.now.items c.push_insertion.new.changes.items (c.in-Ok.ensures.place c.args.next.now) c.in-Ok-copy.ensures.copy c.sane.ensures.sane (e.whole, e.fits) e.after c.in-Ok-push_insertion.ensures.ok).1

pub returns-in-Err-clause-told : goal.returns-in-Err-clause-told
returns-in-Err-clause-told c =
    let old = c.args.changes.now.items in
    none_told _ old c.truncate.new.self.items c.args.replica.now c.put.new.replica (cut_back old _ c.push_insertion.new.changes.items c.truncate.new.self.items c.len-before.result (c.len-before.ensures ∙ c.args.changes.now.ok.0) c.in-Ok-push_insertion.ensures.ok c.truncate.ensures.items) c.in-Err.ensures.err

pub returns-in-Err-clause-edits : goal.returns-in-Err-clause-edits
returns-in-Err-clause-edits c = λ u.
    let h = held_by c.args.replica.now c.args.next.now c.args.names.now in
    let old = c.args.changes.now.items in
    put_edits h c.args.labels.now c.args.text.now c.args.left c.args.right c.in-Err.error old c.truncate.new.self.items u
    (put_fault h c.in-Ok.at c.in-Ok-copy.text c.args.labels.now c.args.text.now c.args.left c.args.right c.in-Err.error (c.in-Ok.ensures.place c.args.next.now) c.in-Ok-copy.ensures.copy c.in-Err.ensures.fault)
    (cut_back old _ c.push_insertion.new.changes.items c.truncate.new.self.items c.len-before.result (c.len-before.ensures ∙ c.args.changes.now.ok.0) c.in-Ok-push_insertion.ensures.ok c.truncate.ensures.items)
