-- Opens the words of this crate and of those below it, so that closed terms compute.
use Rattle.rls_seen.specs.Computing as seen
use Rattle.rls_parts.specs.Reading.{stable_of_parts, nodes_of}
use Rattle.rls_parts.specs.Rules.{retained_of_parts, broken}
use Rattle.rls_parts.specs.Restored.{seen_of}

-- name it under `unfolding`
unfoldable pub computing : Unit {0}
unfolding seen.computing stable_of_parts nodes_of retained_of_parts broken seen_of
computing = tt
