-- Opens the words of this crate and of those below it, so that closed terms compute.
use Rattle.rls_seen.specs.Computing as seen
use Rattle.rls_changes.specs.Changes.{changes_over, changes_in}
use Rattle.rls_changes.specs.Telling.{told_within, told_in, all_released_changes, all_released_changes_in}

-- name it under `unfolding`
unfoldable pub computing : Unit {0}
unfolding seen.computing changes_over changes_in told_within told_in all_released_changes all_released_changes_in
computing = tt
