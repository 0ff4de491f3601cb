use Rattle.rls_model.proofs.Insertion as laws
use Rattle.rls_model.proofs.laws.insertion_lands.Goals as goal

pub returns : goal.returns
returns c = record { insertion_lands = laws.law }
