use Rattle.rls_seen.proofs.Written.{newborn}
use Rattle.rls_seen.proofs.laws.inserts_new.Goals as goal

pub returns : goal.returns
returns c = record { new = newborn }
