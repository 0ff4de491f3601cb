use Rattle.rls_changes.proofs.Alike.{changes_alike}
use Rattle.rls_changes.proofs.EditsAlike.{performed_alike}
use Rattle.rls_changes.proofs.TakenAlike.{released_alike, taken_alike}
use Rattle.rls_changes.proofs.laws.alike.Goals as goal

pub returns : goal.returns
returns c = record { alike = changes_alike; taken = taken_alike; released = released_alike; performed = performed_alike }
