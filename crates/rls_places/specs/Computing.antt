-- Opens the words of this crate and of those below it, so that closed terms compute.
use Rattle.std.specs.Fmt.{digits}
use Rattle.rls_anchor.specs.Computing as anchor
use Rattle.rls_script.specs.Scripts.{number_of}
use Rattle.rls_places.specs.Words.{place_of}

-- name it under `unfolding`
unfoldable pub computing : Unit {0}
unfolding anchor.computing digits number_of place_of
computing = tt
