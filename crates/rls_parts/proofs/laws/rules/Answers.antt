use Rattle.rls_parts.proofs.Passing as laws
use Rattle.rls_parts.proofs.laws.rules.Goals as goal

pub returns : goal.returns
returns c = record { rules = laws.broken_or_passes }
