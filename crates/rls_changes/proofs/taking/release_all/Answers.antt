use Rattle.rls_changes.proofs.Calls.{on_ok}
use Rattle.rls_changes.proofs.Told.{all_told, told_leads}
use Rattle.rls_changes.proofs.taking.release_all.Goals as goal

pub returns-clause-changes : goal.returns-clause-changes
returns-clause-changes c =
    on_ok c.release_all_watched-released.result _ _ (λ h. all_told c.args.replica.now _ c.args.changes.now.items _ c.after-telling.ensures.changes h) c.release_all_watched-released.ensures.told

pub returns-clause-lead : goal.returns-clause-lead
returns-clause-lead c = told_leads _ _ _ _ _ c.after-telling.ensures.changes c.release_all_watched-released.ensures.steps
