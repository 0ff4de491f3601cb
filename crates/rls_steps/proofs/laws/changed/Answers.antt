use Rattle.rls_steps.proofs.StepChanged.{piece_changed}
use Rattle.rls_steps.proofs.laws.changed.Goals as goal

pub returns : goal.returns
returns c = record { changed = piece_changed }
