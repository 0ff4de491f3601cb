use Rattle.rls_session.proofs.UndoneAtOnce.{undone_at_once}
use Rattle.rls_session.proofs.laws.undone_at_once.Goals as goal

pub returns : goal.returns
returns c = record { undone = undone_at_once }
