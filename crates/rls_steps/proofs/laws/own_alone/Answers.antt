use Rattle.rls_steps.proofs.Own.{own_alone}
use Rattle.rls_steps.proofs.laws.own_alone.Goals as goal

pub returns : goal.returns
returns c = record { own = own_alone }
