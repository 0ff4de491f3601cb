use Rattle.rls_model.proofs.OneOrder as laws
use Rattle.rls_model.proofs.laws.one_order.Goals as goal

pub returns : goal.returns
returns c = record { one_order = laws.law }
