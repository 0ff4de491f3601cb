use Rattle.rls_steps.proofs.Stepping.{insertion_leads, deletion_leads, put_taken_back}
use Rattle.rls_steps.proofs.laws.stepped.Goals as goal

pub returns : goal.returns
returns c = record { insertion = insertion_leads; deletion = deletion_leads; put = put_taken_back }
