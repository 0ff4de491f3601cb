use Rattle.rls_rename.proofs.Laws as laws
use Rattle.rls_model.proofs.laws.path_free.Goals as goal

pub returns : goal.returns
returns c = record { path_free = laws.path_free }
