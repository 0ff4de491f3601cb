use Rattle.rls_model.proofs.RenamedRun as laws
use Rattle.rls_model.proofs.laws.renamed_run.Goals as goal

pub returns : goal.returns
returns c = record { renamed_run = laws.law }
