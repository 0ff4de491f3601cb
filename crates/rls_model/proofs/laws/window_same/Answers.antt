use Rattle.rls_rename.proofs.Smallest as laws
use Rattle.rls_model.proofs.laws.window_same.Goals as goal

pub returns : goal.returns
returns c = record { window_same = laws.window_law }
