use Rattle.rls_model.proofs.WorldsArrived as laws
use Rattle.rls_model.proofs.laws.sent_arrives.Goals as goal

pub returns : goal.returns
returns c = record { sent_arrives = laws.law }
