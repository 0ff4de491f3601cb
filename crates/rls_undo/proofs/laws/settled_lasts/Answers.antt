use Rattle.rls_undo.proofs.Dropping.{settled_lasts, moved_planned}
use Rattle.rls_undo.proofs.laws.settled_lasts.Goals as goal

pub returns : goal.returns
returns c = record { settled = settled_lasts; moved = moved_planned }
