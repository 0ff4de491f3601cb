use Rattle.rls_model.proofs.WorldsEdits as laws
use Rattle.rls_model.proofs.laws.edits_clean.Goals as goal

pub returns : goal.returns
returns c = record { edits_clean = laws.edits_clean }
