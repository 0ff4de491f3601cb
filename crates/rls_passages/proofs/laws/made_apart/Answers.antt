use Rattle.rls_passages.proofs.Apart as laws
use Rattle.rls_passages.proofs.laws.made_apart.Goals as goal

pub returns : goal.returns
returns c = record { made_apart = laws.law }
