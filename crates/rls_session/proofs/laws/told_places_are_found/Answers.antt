use Rattle.rls_session.proofs.Told.{told_is_found}
use Rattle.rls_session.proofs.laws.told_places_are_found.Goals as goal

pub returns : goal.returns
returns c = record { found = told_is_found }
