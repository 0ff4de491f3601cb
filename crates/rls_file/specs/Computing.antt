-- Opens the words of this crate and of those below it, so that closed terms compute.
use Rattle.rls_codec.specs.Computing as codec
use Rattle.rls_parts.specs.Computing as parts
use Rattle.rls_file.specs.Files.{journal_bytes, snapshot_bytes, place_of_broken}
use Rattle.rls_file.specs.ReadingFiles.{stem_at, stems_at, epoch_at, text_run_at, snapshot_at, steps_at, entry_at, journal_at, file_at, file_of}

-- name it under `unfolding`
unfoldable pub computing : Unit {0}
unfolding codec.computing parts.computing journal_bytes snapshot_bytes place_of_broken stem_at stems_at epoch_at text_run_at snapshot_at steps_at entry_at journal_at file_at file_of
computing = tt
