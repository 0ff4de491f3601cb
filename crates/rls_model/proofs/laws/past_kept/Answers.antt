use Rattle.rls_model.proofs.WorldsPast as laws
use Rattle.rls_model.proofs.laws.past_kept.Goals as goal

pub returns : goal.returns
returns c = record { past_kept = laws.law }
