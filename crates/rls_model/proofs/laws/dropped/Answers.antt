use Rattle.rls_model.proofs.WindowLaws as laws
use Rattle.rls_model.proofs.laws.dropped.Goals as goal

pub returns : goal.returns
returns c = record { dropped = laws.dropped }
