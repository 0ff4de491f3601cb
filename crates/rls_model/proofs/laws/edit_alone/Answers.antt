use Rattle.rls_model.proofs.WorldsOrder as laws
use Rattle.rls_model.proofs.laws.edit_alone.Goals as goal

pub returns : goal.returns
returns c = record { edit_alone = laws.edit_alone }
