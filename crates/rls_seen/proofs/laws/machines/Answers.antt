use Rattle.rls_seen.proofs.Agreeing.{machines_agree, edits_run_alike}
use Rattle.rls_seen.proofs.laws.machines.Goals as goal

pub returns : goal.returns
returns c = record { agree = machines_agree; edits = edits_run_alike }
