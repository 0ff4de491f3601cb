use Rattle.rls_groups.proofs.Examples.{sessions_are_events}
use Rattle.rls_groups.proofs.Parts.{sessions_are_of_group}
use Rattle.rls_groups.proofs.laws.events_of_sessions.Goals as goal

pub returns : goal.returns
returns c = record { sessions_are_of_group = sessions_are_of_group; sessions_are_events = sessions_are_events }
