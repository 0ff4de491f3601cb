use Rattle.rls_model.proofs.WorldsGathered as gathered
use Rattle.rls_model.proofs.WorldsOrder as laws
use Rattle.rls_model.proofs.laws.strong_list.Goals as goal

pub returns : goal.returns
returns c = record { gathered = gathered.law; strong_list = laws.strong_list }
