use Rattle.rls_model.proofs.WorldsLaws as laws
use Rattle.rls_model.proofs.laws.no_refusal.Goals as goal

pub returns : goal.returns
returns c = record { no_refusal = laws.no_refusal }
