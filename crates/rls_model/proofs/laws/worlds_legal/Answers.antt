use Rattle.rls_model.proofs.WorldsLaws as laws
use Rattle.rls_model.proofs.laws.worlds_legal.Goals as goal

pub returns : goal.returns
returns c = record { worlds_legal = laws.worlds_legal }
