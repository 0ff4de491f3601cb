use Rattle.rls_model.proofs.Arrivals as laws
use Rattle.rls_model.proofs.laws.arrival_applied.Goals as goal

pub returns : goal.returns
returns c = record { arrival_applied = laws.law }
