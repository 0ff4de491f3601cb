use Rattle.rls_session.proofs.Shown.{drafts_are_made}
use Rattle.rls_session.proofs.laws.drafts_are_made.Goals as goal

pub returns : goal.returns
returns c = record { made = drafts_are_made }
