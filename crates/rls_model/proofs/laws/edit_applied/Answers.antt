use Rattle.rls_model.proofs.Applied as laws
use Rattle.rls_model.proofs.laws.edit_applied.Goals as goal

pub returns : goal.returns
returns c = record { edit_applied = laws.edit_applied }
