use Rattle.std.proofs.Common.{◌≡◌, ◌++◌, ◌-◌, [], length, take, ap, ◌∙◌}
use Rattle.std.specs.Prelude.{Some, None, ◌↔◌, IsErrOf, OnOk, replicate}
use Rattle.std.proofs.lemmas.Result.{IfOk-weaker, on_ok_weaker}
use Rattle.rls_model.specs.declared.edit.EditError.{EditError}
use Rattle.rls_model.specs.declared.edit.EditError.TheVariants as faults
use Rattle.rls_seen.specs.Seen.{Seen, text_over}
use Rattle.rls_changes.specs.Edits.{edit_changes}
use Rattle.rls_steps.specs.declared.steps.StepError.TheVariants as errors
use Rattle.rls_steps.specs.Courses.{Copies, Shows, copies}
use Rattle.rls_steps.specs.Grounds.{over, back_edits, Turned}
use Rattle.rls_steps.specs.Groups.{group_size, IsStopped}
use Rattle.rls_steps.specs.Recorded.{Recorded, steps_over}
use Rattle.rls_steps.specs.StepChanges.{back_changes, AreTold}
use Rattle.rls_steps.specs.Turning.{moves_of, turn_size}
use Rattle.rls_steps.proofs.Turning.{faced, faced_stays, faced_dropped, faced_either, turn_fits, turn_after, turn_shows, turn_is, both}
use Rattle.rls_steps.proofs.steps.Steps.turn.Goals as goal

pub returns-clause-nothing : goal.returns-clause-nothing
returns-clause-nothing c = faced c.args.turn c.args.self.now c.face.new.self c.take_back-done.new.self c.face-2.new.self (λ (r q : Recorded). IsErrOf c.take_back-done.result errors.Nothing ↔ (r.past ≡ [])) c.face.ensures.facing c.face-2.ensures.facing c.take_back-done.ensures.nothing

pub returns-clause-stays : goal.returns-clause-stays
returns-clause-stays c = λ h. let d = c.take_back-done.ensures.stays h in (d.0, faced_stays c.args.turn c.args.self.now c.face.new.self c.take_back-done.new.self c.face-2.new.self c.face.ensures.facing c.face-2.ensures.facing d.1, d.2)

pub returns-clause-dropped : goal.returns-clause-dropped
returns-clause-dropped c = λ e h. let d = c.take_back-done.ensures.dropped e h in (faced_dropped c.args.turn c.args.self.now c.face.new.self e c.face.ensures.facing d.0, d.1, d.2, faced_stays c.args.turn c.args.self.now c.face.new.self c.take_back-done.new.self c.face-2.new.self c.face.ensures.facing c.face-2.ensures.facing d.3, d.4)

pub returns-clause-fits : goal.returns-clause-fits
returns-clause-fits c = on_ok_weaker c.take_back-done.result (turn_fits c.args.turn c.args.replica.now c.args.self.now c.face.new.self c.face.ensures.facing) c.take_back-done.ensures.fits

pub returns-clause-after : goal.returns-clause-after
returns-clause-after c = on_ok_weaker c.take_back-done.result (turn_after c.args.turn c.args.replica.now c.take_back-done.new.replica c.args.self.now c.face.new.self c.take_back-done.new.self c.face-2.new.self c.face.ensures.facing c.face-2.ensures.facing) c.take_back-done.ensures.after

pub returns-clause-stopped : goal.returns-clause-stopped
returns-clause-stopped c = faced c.args.turn c.args.self.now c.face.new.self c.take_back-done.new.self c.face-2.new.self (λ (r q : Recorded). (f : EditError) → IsErrOf c.take_back-done.result (errors.Edit f) → IsStopped f (steps_over c.args.replica.now r).held r.past r.future (steps_over c.take_back-done.new.replica q).held q.past q.future) c.face.ensures.facing c.face-2.ensures.facing c.take_back-done.ensures.stopped

pub returns-clause-spent : goal.returns-clause-spent
returns-clause-spent c = λ h. faced_either c.args.turn c.args.self.now c.face.new.self c.take_back-done.new.self c.face-2.new.self (c.take_back-done.new.replica ≡ c.args.replica.now) (λ (r q : Recorded). IsStopped faults.OutOfMemory (steps_over c.args.replica.now r).held r.past r.future (steps_over c.take_back-done.new.replica q).held q.past q.future) c.face.ensures.facing c.face-2.ensures.facing (c.take_back-done.ensures.spent h)

pub returns-clause-left : goal.returns-clause-left
returns-clause-left c = faced c.args.turn c.args.self.now c.face.new.self c.take_back-done.new.self c.face-2.new.self (λ (r q : Recorded). OnOk c.take_back-done.result (q.past ≡ take (length r.past - group_size r.past) r.past)) c.face.ensures.facing c.face-2.ensures.facing c.take_back-done.ensures.left

pub returns-clause-exact : goal.returns-clause-exact
returns-clause-exact c = IfOk-weaker c.take_back-done.result _ _ (λ k. turn_is c.args.turn c.args.replica.now c.take_back-done.new.replica c.args.self.now c.face.new.self c.take_back-done.new.self c.face-2.new.self k None c.face.ensures.facing c.face-2.ensures.facing) c.take_back-done.ensures.exact

pub returns-clause-refused : goal.returns-clause-refused
returns-clause-refused c = λ f h.
    let k = turn_size c.args.turn c.args.self.now in
    let left : Recorded → Turned Seen = λ r. record { steps = group_size r.past; fault = Some f; state = c.take_back-done.new.replica; recorded = c.take_back-done.new.self } in
    turn_is c.args.turn c.args.replica.now c.take_back-done.new.replica c.args.self.now c.face.new.self c.take_back-done.new.self c.face-2.new.self k (Some f) c.face.ensures.facing c.face-2.ensures.facing
    (c.take_back-done.ensures.refused f h ∙ ap left c.face.ensures.facing)

pub returns-clause-changes : goal.returns-clause-changes
returns-clause-changes c = faced c.args.turn c.args.self.now c.face.new.self c.take_back-done.new.self c.face-2.new.self (λ (r q : Recorded). OnOk c.take_back-done.result (c.take_back-done.new.changes.items ≡ c.args.changes.now.items ++ back_changes (group_size r.past) (steps_over c.args.replica.now r))) c.face.ensures.facing c.face-2.ensures.facing c.take_back-done.ensures.changes

pub returns-clause-edits : goal.returns-clause-edits
returns-clause-edits c = faced c.args.turn c.args.self.now c.face.new.self c.take_back-done.new.self c.face-2.new.self (λ (r q : Recorded). OnOk c.take_back-done.result (c.take_back-done.new.changes.items ≡ c.args.changes.now.items ++ edit_changes (back_edits over c.args.replica.now r))) c.face.ensures.facing c.face-2.ensures.facing c.take_back-done.ensures.edits

pub returns-clause-refused_edits : goal.returns-clause-refused_edits
returns-clause-refused_edits c = faced c.args.turn c.args.self.now c.face.new.self c.take_back-done.new.self c.face-2.new.self (λ (r q : Recorded). (f : EditError) → IsErrOf c.take_back-done.result (errors.Edit f) → c.take_back-done.new.changes.items ≡ c.args.changes.now.items ++ edit_changes (back_edits over c.args.replica.now r)) c.face.ensures.facing c.face-2.ensures.facing c.take_back-done.ensures.refused_edits

pub returns-clause-told : goal.returns-clause-told
returns-clause-told c = faced c.args.turn c.args.self.now c.face.new.self c.take_back-done.new.self c.face-2.new.self (λ (r q : Recorded). AreTold (back_changes (group_size r.past) (steps_over c.args.replica.now r)) c.args.changes.now.items c.take_back-done.new.changes.items (text_over c.args.replica.now) (text_over c.take_back-done.new.replica)) c.face.ensures.facing c.face-2.ensures.facing c.take_back-done.ensures.told

pub returns-clause-shows : goal.returns-clause-shows
returns-clause-shows c =
    let r = c.args.self.now in
    on_ok_weaker c.take_back-done.result (λ f. turn_shows (steps_over c.args.replica.now r) (steps_over c.take_back-done.new.replica c.face-2.new.self) (moves_of c.args.turn r) (f.0) (f.1)) (both c.take_back-done.result _ _
    (on_ok_weaker c.take_back-done.result (turn_fits c.args.turn c.args.replica.now r c.face.new.self c.face.ensures.facing) c.take_back-done.ensures.fits)
    (on_ok_weaker c.take_back-done.result (turn_after c.args.turn c.args.replica.now c.take_back-done.new.replica r c.face.new.self c.take_back-done.new.self c.face-2.new.self c.face.ensures.facing c.face-2.ensures.facing) c.take_back-done.ensures.after))
