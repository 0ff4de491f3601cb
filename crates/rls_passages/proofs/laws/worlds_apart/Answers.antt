use Rattle.rls_passages.proofs.Worlds as laws
use Rattle.rls_passages.proofs.laws.worlds_apart.Goals as goal

pub returns : goal.returns
returns c = record { worlds_apart = laws.law }
