use Rattle.rls_file.proofs.StoredAgain as laws
use Rattle.rls_file.proofs.laws.stored_again.Goals as goal

pub returns : goal.returns
returns c = record { stored_again = laws.stored_again }
