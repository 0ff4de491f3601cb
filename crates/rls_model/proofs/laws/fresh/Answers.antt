use Rattle.rls_model.proofs.Fresh as laws
use Rattle.rls_model.proofs.laws.fresh.Goals as goal

pub returns : goal.returns
returns c = record { none_used = laws.law.0; all_used = laws.law.1; own_stems = laws.law.2 }
