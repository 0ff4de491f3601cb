use Rattle.rls_model.proofs.OrderAgreed as laws
use Rattle.rls_model.proofs.laws.order_agreed.Goals as goal

pub returns : goal.returns
returns c = record { order_agreed = laws.law }
