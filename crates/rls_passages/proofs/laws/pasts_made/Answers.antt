use Rattle.rls_passages.proofs.Worlds as laws
use Rattle.rls_passages.proofs.laws.pasts_made.Goals as goal

pub returns : goal.returns
returns c = record { pasts_made = laws.pasts_made }
