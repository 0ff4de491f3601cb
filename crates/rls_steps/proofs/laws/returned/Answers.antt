use Rattle.rls_steps.proofs.Naming.{labelled_lead}
use Rattle.rls_steps.proofs.Putting.{cut_taken_back}
use Rattle.rls_steps.proofs.Renaming.{renaming_leads}
use Rattle.rls_steps.proofs.Applied.{applied_renames}
use Rattle.rls_steps.proofs.laws.returned.Goals as goal

pub returns : goal.returns
returns c = record { labelled = labelled_lead; renamed = renaming_leads; applied = applied_renames; cut = cut_taken_back }
