use Rattle.rls_parts.proofs.SanePasses as laws
use Rattle.rls_parts.proofs.laws.sane_passes.Goals as goal

pub returns : goal.returns
returns c = record { passes = laws.sane_passes }
