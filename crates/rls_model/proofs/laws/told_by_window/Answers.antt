use Rattle.rls_model.proofs.WindowLaws as laws
use Rattle.rls_model.proofs.laws.told_by_window.Goals as goal

pub returns : goal.returns
returns c = record { told_by_window = laws.told_by_window }
