use Rattle.rls_session.proofs.Sizes.{renames_as_told}
use Rattle.rls_session.proofs.laws.renames_as_told.Goals as goal

pub returns : goal.returns
returns c = record { told = renames_as_told }
