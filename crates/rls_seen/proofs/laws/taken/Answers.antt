use Rattle.rls_seen.proofs.Taking.{taken_alike}
use Rattle.rls_seen.proofs.laws.taken.Goals as goal

pub returns : goal.returns
returns c = record { stands = taken_alike }
