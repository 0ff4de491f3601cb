use Rattle.rls_undo.proofs.Alike.{caught_up_alike}
use Rattle.rls_undo.proofs.laws.caught_up_alike.Goals as goal

pub returns : goal.returns
returns c = record { caught_up = caught_up_alike }
