-- Opens the words of this crate and of those below it, so that closed terms compute.
use Rattle.rls_model.specs.Computing as model
use Rattle.rls_world.specs.Trial.{course, trial}

-- name it under `unfolding`
unfoldable pub computing : Unit {0}
unfolding model.computing course trial
computing = tt
