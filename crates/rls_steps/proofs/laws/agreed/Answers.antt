use Rattle.rls_steps.proofs.Agreeing.{recorded_alike, turned_alike, kept_alike}
use Rattle.rls_steps.proofs.Performing.{turned_performed, turned_performed_in, turned_edits_alike}
use Rattle.rls_steps.proofs.laws.agreed.Goals as goal

pub returns : goal.returns
returns c = record { recorded = recorded_alike; turned = turned_alike; kept = kept_alike; performed = turned_performed; performed_in = turned_performed_in; edits = turned_edits_alike }
