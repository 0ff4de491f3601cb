-- Opens the words of this crate and of those below it, so that closed terms compute.
use Rattle.rls_ops.specs.Rows.{stable_of}
use Rattle.rls_rename.specs.Keeping.{part}
use Rattle.rls_model.specs.Computing as model
use Rattle.rls_seen.specs.Over.{is_known_over, refusal_over, answer_over, accepted, holding, received, replayed, release_over, released, released_all, acknowledged}
use Rattle.rls_seen.specs.Edits.{made_over, edit_fault_over}
use Rattle.rls_seen.specs.Messages.{message_beyond, taken_within}
use Rattle.rls_seen.specs.Kept.{dropped, retained_over, counts_over, parts_over}

-- name it under `unfolding`
unfoldable pub computing : Unit {0}
unfolding model.computing stable_of part is_known_over refusal_over answer_over accepted holding received replayed release_over released released_all acknowledged made_over edit_fault_over message_beyond taken_within dropped retained_over counts_over parts_over
computing = tt
