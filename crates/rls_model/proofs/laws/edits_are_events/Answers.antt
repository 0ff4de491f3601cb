use Rattle.rls_model.proofs.WorldsRuns as laws
use Rattle.rls_model.proofs.laws.edits_are_events.Goals as goal

pub returns : goal.returns
returns c = record { edits_are_events = laws.edits_are_events }
