use Rattle.rls_session.proofs.Remembered.{texts_along, texts_at_first, texts_stay}
use Rattle.rls_session.proofs.laws.texts_remembered.Goals as goal

pub returns : goal.returns
returns c = record { first = texts_at_first; along = texts_along; stay = texts_stay }
