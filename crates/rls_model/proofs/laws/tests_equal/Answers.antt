use Rattle.rls_ops.proofs.Equal as laws
use Rattle.rls_model.proofs.laws.tests_equal.Goals as goal

pub returns : goal.returns
returns c = record { tests_equal = laws.tests_equal }
