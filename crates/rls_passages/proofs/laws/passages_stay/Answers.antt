use Rattle.rls_passages.proofs.Stay as laws
use Rattle.rls_passages.proofs.laws.passages_stay.Goals as goal

pub returns : goal.returns
returns c = record { passages_stay = laws.law }
