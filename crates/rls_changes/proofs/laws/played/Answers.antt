use Rattle.rls_changes.proofs.Played.{changes_played, changes_exact}
use Rattle.rls_changes.proofs.laws.played.Goals as goal

pub returns : goal.returns
returns c = record { played = changes_played; exact = changes_exact }
