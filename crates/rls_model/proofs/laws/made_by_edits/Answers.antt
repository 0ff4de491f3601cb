use Rattle.rls_model.proofs.WorldsOrder as laws
use Rattle.rls_model.proofs.laws.made_by_edits.Goals as goal

pub returns : goal.returns
returns c = record { made_by_edits = laws.made_by_edits }
