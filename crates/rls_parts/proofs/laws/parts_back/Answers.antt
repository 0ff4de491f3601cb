use Rattle.rls_parts.proofs.RestoredParts as laws
use Rattle.rls_parts.proofs.laws.parts_back.Goals as goal

pub returns : goal.returns
returns c = record { back = laws.back }
