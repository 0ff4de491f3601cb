use Rattle.rls_model.proofs.OneTree as laws
use Rattle.rls_model.proofs.laws.one_tree.Goals as goal

pub returns : goal.returns
returns c = record { one_tree = laws.law }
