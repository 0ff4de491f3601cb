use Rattle.rls_parts.proofs.RestoredSane as laws
use Rattle.rls_parts.proofs.laws.restored_sane.Goals as goal

pub returns : goal.returns
returns c = record { sane = laws.sane }
