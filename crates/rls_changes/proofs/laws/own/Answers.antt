use Rattle.rls_changes.proofs.Own.{own_are}
use Rattle.rls_changes.proofs.laws.own.Goals as goal

pub returns : goal.returns
returns c = record { own = own_are }
