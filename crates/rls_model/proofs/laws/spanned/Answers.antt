use Rattle.rls_rename.proofs.Smallest as laws
use Rattle.rls_model.proofs.laws.spanned.Goals as goal

pub returns : goal.returns
returns c = record { spanned = laws.spanned_law }
