use Rattle.rls_model.proofs.Rounds as laws
use Rattle.rls_model.proofs.laws.one_round.Goals as goal

pub returns : goal.returns
returns c = record { all_told = laws.all_told; one_round = laws.one_round; one_hub = laws.one_hub }
