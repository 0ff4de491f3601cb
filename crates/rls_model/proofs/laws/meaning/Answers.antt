use Rattle.rls_rename.proofs.Laws as laws
use Rattle.rls_model.proofs.laws.meaning.Goals as goal

pub returns : goal.returns
returns c = record { meaning = laws.meaning }
