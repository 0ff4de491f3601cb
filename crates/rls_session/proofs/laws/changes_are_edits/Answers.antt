use Rattle.rls_session.proofs.Edited.{changes_are_edits, courses_are_requests}
use Rattle.rls_session.proofs.laws.changes_are_edits.Goals as goal

pub returns : goal.returns
returns c = record { edits = changes_are_edits; requests = courses_are_requests }
