use Rattle.rls_passages.proofs.WritesOn as laws
use Rattle.rls_passages.proofs.laws.writes_on.Goals as goal

pub returns : goal.returns
returns c = record { writes_on = laws.law }
