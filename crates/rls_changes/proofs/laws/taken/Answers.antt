use Rattle.rls_changes.proofs.Told.{tells_beside, taken_played}
use Rattle.rls_changes.proofs.laws.taken.Goals as goal

pub returns : goal.returns
returns c = record { beside = tells_beside; played = taken_played }
