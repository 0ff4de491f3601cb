use Rattle.rls_steps.proofs.Exchanging.{exchanged}
use Rattle.rls_steps.proofs.laws.exchanged.Goals as goal

pub returns : goal.returns
returns c = record { exchanged = exchanged }
