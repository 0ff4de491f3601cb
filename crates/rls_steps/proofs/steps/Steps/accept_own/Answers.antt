use Rattle.std.proofs.Common.{◌≡◌, ap, sym, subst, ◌∙◌, None}
use Rattle.std.proofs.lemmas.Result.{on_ok_weaker}
use Rattle.rls_model.specs.declared.edit.Edit.{Edit}
use Rattle.rls_seen.specs.Edits.{edit_fault_over, made_over}
use Rattle.rls_steps.specs.Recorded.{IsInsertion}
use Rattle.rls_steps.proofs.Errors.{err_back}
use Rattle.rls_steps.proofs.Inserted.{settled_recorded, settled_exact}
use Rattle.rls_steps.proofs.steps.Steps.accept_own.Goals as goal

pub insert-requires-clause-insertion : goal.insert-requires-clause-insertion
insert-requires-clause-insertion c = subst (λ (x : Edit). IsInsertion x c.len.result) (sym c.in-Insert.is) c.len.ensures.len

pub delete-requires-clause-fits : goal.delete-requires-clause-fits
delete-requires-clause-fits c = subst (λ (x : Edit). edit_fault_over c.args.replica.now x ≡ None) c.in-Delete.is c.requires.fits

pub delete-requires-clause-op : goal.delete-requires-clause-op
delete-requires-clause-op c = c.requires.op ∙ ap (made_over c.args.replica.now) c.in-Delete.is

pub returns-in_err-settle-in-Insert-clause-dropped : goal.returns-in_err-settle-in-Insert-clause-dropped
returns-in_err-settle-in-Insert-clause-dropped c = λ e h. (c.in_err-settle-in-Insert.ensures.dropped e).0 (err_back c.from_residual.result c.in_err-settle-in-Insert.field-0.0 _ c.from_residual.ensures.1 h)

pub returns-in_err-settle-in-Delete-clause-dropped : goal.returns-in_err-settle-in-Delete-clause-dropped
returns-in_err-settle-in-Delete-clause-dropped c = λ e h. (c.in_err-settle-in-Delete.ensures.dropped e).0 (err_back c.from_residual-in_err-settle-in-Delete.result c.in_err-settle-in-Delete.field-0.0 _ c.from_residual-in_err-settle-in-Delete.ensures.1 h)

pub returns-in_ok-settle-in-Insert-clause-recorded : goal.returns-in_ok-settle-in-Insert-clause-recorded
returns-in_ok-settle-in-Insert-clause-recorded c =
    let i = subst (λ (x : Edit). IsInsertion x c.len.result) (sym c.in-Insert.is) c.len.ensures.len in
    on_ok_weaker c.insert.result (λ h. settled_recorded c.args.edit.now c.len.result c.args.replica.now c.insert.new.replica c.args.self.now c.settle.new.self c.insert.new.self i c.in_ok-settle-in-Insert.ensures.settled h) c.insert.ensures.recorded

pub returns-in_ok-settle-in-Insert-clause-exact : goal.returns-in_ok-settle-in-Insert-clause-exact
returns-in_ok-settle-in-Insert-clause-exact c =
    let i = subst (λ (x : Edit). IsInsertion x c.len.result) (sym c.in-Insert.is) c.len.ensures.len in
    on_ok_weaker c.insert.result (λ h. settled_exact c.args.edit.now c.len.result c.args.replica.now c.args.self.now c.settle.new.self c.insert.new.self i c.in_ok-settle-in-Insert.ensures.settled h) c.insert.ensures.exact
