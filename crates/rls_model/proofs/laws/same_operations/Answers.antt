use Rattle.rls_model.proofs.SameOps as laws
use Rattle.rls_model.proofs.laws.same_operations.Goals as goal

pub returns : goal.returns
returns c = record { same_operations = laws.law }
