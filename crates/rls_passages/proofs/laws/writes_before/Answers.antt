use Rattle.rls_passages.proofs.WritesBefore as laws
use Rattle.rls_passages.proofs.laws.writes_before.Goals as goal

pub returns : goal.returns
returns c = record { writes_before = laws.law }
