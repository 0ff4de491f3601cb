use Rattle.rls_session.proofs.Turned.{turns_take_own}
use Rattle.rls_session.proofs.laws.turns_take_own.Goals as goal

pub returns : goal.returns
returns c = record { own = turns_take_own }
