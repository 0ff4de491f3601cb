use Rattle.std.proofs.Common.{◌++◌, ap, refl, sym, ◌∙◌}
use Rattle.rls_undo.specs.Undoing.{last_of, plan_over}
use Rattle.rls_changes.specs.Edits.{edit_changes}
use Rattle.rls_changes.proofs.Edited.{all_performed}
use Rattle.rls_session.proofs.Answered.{nothing_told, nothing_untold, on_both}
use Rattle.rls_session.proofs.telling.undo_entry.Goals as goal

pub returns-then-tells-clause-changes : goal.returns-then-tells-clause-changes
returns-then-tells-clause-changes c = λ t.
    let s = c.args.replica.now in
    on_both c.undo.result _ _ _ (λ e fits. e ∙ ap (λ es. c.args.changes.now.items ++ edit_changes es) (sym (all_performed s (plan_over s (last_of c.args.undo.now)) fits))) c.undo.ensures.changes c.undo.ensures.fits

pub returns-then-tells-clause-none : goal.returns-then-tells-clause-none
returns-then-tells-clause-none c = λ is.
    let r = nothing_told c.undo.result c.args.replica.now c.undo.new.replica c.args.undo.now c.args.changes.now.items c.undo.new.changes.items is (c.undo.ensures.nothing.0 is) c.undo.ensures.part in
    (r.0, λ t. r.1)

pub returns-clause-none : goal.returns-clause-none
returns-clause-none c = λ is.
    let s = c.args.replica.now in
    (nothing_untold c.undo-2.result s c.undo-2.new.replica c.args.undo.now is (c.undo-2.ensures.nothing.0 is) c.undo-2.ensures.part, λ t. refl)
