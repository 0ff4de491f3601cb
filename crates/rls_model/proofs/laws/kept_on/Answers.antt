use Rattle.rls_model.proofs.WindowLaws as laws
use Rattle.rls_model.proofs.laws.kept_on.Goals as goal

pub returns : goal.returns
returns c = record { kept_on = laws.kept_on }
