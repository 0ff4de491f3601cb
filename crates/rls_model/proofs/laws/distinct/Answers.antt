use Rattle.rls_model.proofs.Distinct as laws
use Rattle.rls_model.proofs.laws.distinct.Goals as goal

pub returns : goal.returns
returns c = record { distinct = laws.law }
