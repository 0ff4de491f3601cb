-- Opens the words of this crate and of those below it, so that closed terms compute.
use Rattle.std.specs.Fmt.{digits}
use Rattle.rls_file.specs.Computing as file
use Rattle.rls_world.specs.Computing as world
use Rattle.rls_report.specs.Listing.{ids_text}
use Rattle.rls_script.specs.Scripts.{line_of, number_of, script_of, text_of}
use Rattle.rls_top.specs.Scripts.{run_lines}
use Rattle.rls_top.specs.Words.{command_of}

-- name it under `unfolding`
unfoldable pub computing : Unit {0}
unfolding digits file.computing world.computing ids_text line_of number_of script_of text_of run_lines command_of
computing = tt
