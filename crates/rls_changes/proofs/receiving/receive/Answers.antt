use Rattle.rls_changes.proofs.Told.{told_leads}
use Rattle.rls_changes.proofs.receiving.receive.Goals as goal

pub returns-clause-lead : goal.returns-clause-lead
returns-clause-lead c = told_leads _ _ _ _ _ c.after-telling.ensures.changes c.receive_watched-receipt.ensures.steps
