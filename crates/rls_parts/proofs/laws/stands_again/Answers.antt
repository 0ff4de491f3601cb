use Rattle.rls_parts.proofs.StandsAgain as laws
use Rattle.rls_parts.proofs.laws.stands_again.Goals as goal

pub returns : goal.returns
returns c = record { again = laws.again; stand = laws.stand }
