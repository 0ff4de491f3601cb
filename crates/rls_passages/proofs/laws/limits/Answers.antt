use Rattle.rls_passages.proofs.Limits as laws
use Rattle.rls_passages.proofs.laws.limits.Goals as goal

pub returns : goal.returns
returns c = record { limits = laws.law }
