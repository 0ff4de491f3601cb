use Rattle.rls_anchor.proofs.Elsewhere.{located_alike, located_there}
use Rattle.rls_anchor.proofs.laws.located_there.Goals as goal

pub returns : goal.returns
returns c = record { alike = located_alike; made = located_there }
