use Rattle.rls_changes.proofs.Edited.{all_performed, edits_exact, edits_played}
use Rattle.rls_changes.proofs.laws.edited.Goals as goal

pub returns : goal.returns
returns c = record { played = edits_played; all = all_performed; exact = edits_exact }
