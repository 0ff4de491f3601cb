use Rattle.std.proofs.Common.{◌≡◌, ◌∙◌, Result, Err, ap, sym}
use Rattle.rls_model.specs.declared.edit.EditError.{EditError}
use Rattle.rls_undo.specs.declared.undo.Undone.{Undone}
use Rattle.rls_undo.specs.declared.undo.UndoError.{UndoError}
use Rattle.rls_undo.specs.declared.undo.UndoError.TheVariants as errors
use Rattle.rls_session.specs.Desks.{sitting_of}
use Rattle.rls_session.proofs.Answered.{nothing_said, ok_is_not_err, on_ok, same_sitting, undo_refused, undone_said}
use Rattle.rls_session.proofs.Whole.{undo_not_dropped, undoable_undone}
use Rattle.rls_session.proofs.telling.undo_last.Goals as goal

-- an answer isn't two errors
not_both : (r : Result Undone UndoError) (f : EditError) → r ≡ Err (errors.Edit f) → r ≡ Err errors.Nothing → ⊥
not_both r f e h = let both : Err (errors.Edit f) ≡ Err errors.Nothing = sym e ∙ h in cc

pub returns-in-Ok-clause-answered : goal.returns-in-Ok-clause-answered
returns-in-Ok-clause-answered c =
    let s = c.args.replica.now in
    let es = c.args.undo.now in
    on_ok c.undone.result _ _ (λ reply text a r t.
    undone_said (sitting_of s es a r t) (sitting_of c.undo_entry.new.replica c.undo_entry.new.undo a r t) c.in-Ok.field-0 reply.items (λ h. ok_is_not_err c.in-Ok.field-0 errors.Nothing (c.in-Ok.ensures.nothing.1 h)) c.in-Ok.ensures.fits c.in-Ok.ensures.undone
    (same_sitting _ _ _ _ a r t c.in-Ok.ensures.after c.in-Ok.ensures.entries) text) c.undone.ensures.text

pub returns-in-Err-Nothing-clause-answered : goal.returns-in-Err-Nothing-clause-answered
returns-in-Err-Nothing-clause-answered c =
    let s = c.args.replica.now in
    let es = c.args.undo.now in
    let none = c.undo_entry.ensures.nothing.0 (c.in-Err-Nothing.is ∙ ap Err c.in-Err-Nothing.field-0-is) in
    let same = (c.undo_entry.ensures.none (c.in-Err-Nothing.is ∙ ap Err c.in-Err-Nothing.field-0-is)).0 in
    on_ok c.nothing.result _ _ (λ reply text a r t. nothing_said (sitting_of s es a r t) (sitting_of c.undo_entry.new.replica c.undo_entry.new.undo a r t) reply.items none (same_sitting _ _ _ _ a r t same c.in-Err-Nothing.ensures.stays) text) c.nothing.ensures.text

pub returns-in-Err-Edit-clause-answered : goal.returns-in-Err-Edit-clause-answered
returns-in-Err-Edit-clause-answered c =
    let s = c.args.replica.now in
    let es = c.args.undo.now in
    let f = c.in-Err-Edit.error in
    let is = c.in-Err-Edit.is ∙ ap Err c.in-Err-Edit.field-0-is in
    let refused = c.undo_entry.ensures.refused f is in
    on_ok c.refused.result _ _ (λ reply told a r t.
    undo_refused (sitting_of s es a r t) (sitting_of c.undo_entry.new.replica c.undo_entry.new.undo a r t) f reply.items (λ h. not_both c.undo_entry.result f is (c.undo_entry.ensures.nothing.1 h)) refused.0 (same_sitting _ _ _ _ a r t refused.1 c.in-Err-Edit.ensures.stays) told) c.refused.ensures.reply

pub unreachable-requires : goal.unreachable-requires
unreachable-requires c =
    let e = c.in-Err-Dropped in
    let d = (c.undo_entry.ensures.dropped e._epoch).0 (e.is ∙ ap Err e.field-0-is) in
    undo_not_dropped c.args.replica.now c.args.undo.now e._epoch c.requires.undoable d.0 d.1

pub returns-in-Ok-clause-undoable : goal.returns-in-Ok-clause-undoable
returns-in-Ok-clause-undoable c = undoable_undone c.undo_entry.result c.args.replica.now c.undo_entry.new.replica c.args.undo.now c.undo_entry.new.undo c.undo_entry.ensures.names c.undo_entry.ensures.entries c.undo_entry.ensures.stays c.requires.undoable

pub returns-in-Err-Edit-clause-undoable : goal.returns-in-Err-Edit-clause-undoable
returns-in-Err-Edit-clause-undoable c = undoable_undone c.undo_entry.result c.args.replica.now c.undo_entry.new.replica c.args.undo.now c.undo_entry.new.undo c.undo_entry.ensures.names c.undo_entry.ensures.entries c.undo_entry.ensures.stays c.requires.undoable

pub returns-in-Err-OutOfMemory-clause-undoable : goal.returns-in-Err-OutOfMemory-clause-undoable
returns-in-Err-OutOfMemory-clause-undoable c = undoable_undone c.undo_entry.result c.args.replica.now c.undo_entry.new.replica c.args.undo.now c.undo_entry.new.undo c.undo_entry.ensures.names c.undo_entry.ensures.entries c.undo_entry.ensures.stays c.requires.undoable
