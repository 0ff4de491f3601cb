use Rattle.rls_passages.proofs.Lasting as laws
use Rattle.rls_passages.proofs.laws.worlds_last.Goals as goal

pub returns : goal.returns
returns c = record { worlds_last = laws.law }
