use Rattle.rls_steps.proofs.Following.{renaming_shows}
use Rattle.rls_steps.proofs.Forgetting.{forgetting_shows}
use Rattle.rls_steps.proofs.Parting.{deletion_shows}
use Rattle.rls_steps.proofs.Swept.{sweeping_shows}
use Rattle.rls_steps.proofs.laws.followed.Goals as goal

pub returns : goal.returns
returns c = record { deletion = deletion_shows; renaming = renaming_shows; forgetting = forgetting_shows; sweeping = sweeping_shows }
