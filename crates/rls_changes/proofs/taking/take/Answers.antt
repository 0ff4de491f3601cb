use Rattle.rls_changes.proofs.Calls.{on_ok}
use Rattle.rls_changes.proofs.Told.{message_told, told_leads}
use Rattle.rls_changes.proofs.taking.take.Goals as goal

pub returns-clause-changes : goal.returns-clause-changes
returns-clause-changes c =
    on_ok c.take_watched-taken.result _ _ (λ h. message_told c.args.replica.now c.args.message _ c.args.changes.now.items _ c.after-telling.ensures.changes h) c.take_watched-taken.ensures.told

pub returns-clause-lead : goal.returns-clause-lead
returns-clause-lead c = told_leads _ _ _ _ _ c.after-telling.ensures.changes c.take_watched-taken.ensures.steps
