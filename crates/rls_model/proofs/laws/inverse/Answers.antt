use Rattle.rls_rename.proofs.Laws as laws
use Rattle.rls_model.proofs.laws.inverse.Goals as goal

pub returns : goal.returns
returns c = record { inverse = laws.inverse }
