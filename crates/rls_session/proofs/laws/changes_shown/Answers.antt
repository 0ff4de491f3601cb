use Rattle.rls_session.proofs.Shown.{changes_shown}
use Rattle.rls_session.proofs.laws.changes_shown.Goals as goal

pub returns : goal.returns
returns c = record { shown = changes_shown }
