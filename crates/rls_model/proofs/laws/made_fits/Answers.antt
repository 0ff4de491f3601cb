use Rattle.rls_model.proofs.Made as laws
use Rattle.rls_model.proofs.laws.made_fits.Goals as goal

pub returns : goal.returns
returns c = record { made_fits = laws.law }
