use Rattle.rls_model.proofs.WorldsLaws as laws
use Rattle.rls_model.proofs.laws.equal_vectors.Goals as goal

pub returns : goal.returns
returns c = record { equal_vectors = laws.equal_vectors }
