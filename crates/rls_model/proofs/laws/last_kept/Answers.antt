use Rattle.rls_rename.proofs.Laws as laws
use Rattle.rls_model.proofs.laws.last_kept.Goals as goal

pub returns : goal.returns
returns c = record { last_kept = laws.last_kept }
