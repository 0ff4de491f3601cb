use Rattle.rls_session.proofs.Drafts.{merges_shown}
use Rattle.rls_session.proofs.laws.merges_shown.Goals as goal

pub returns : goal.returns
returns c = record { shown = merges_shown }
