use Rattle.rls_model.proofs.Stable as laws
use Rattle.rls_model.proofs.laws.stable.Goals as goal

pub returns : goal.returns
returns c = record { stable = laws.law }
