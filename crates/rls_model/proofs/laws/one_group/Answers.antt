use Rattle.rls_model.proofs.WorldsGroup as laws
use Rattle.rls_model.proofs.laws.one_group.Goals as goal

pub returns : goal.returns
returns c = record { one_group = laws.law }
