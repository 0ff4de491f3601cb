use Rattle.std.proofs.Common.{◌≡◌, ◌+◌, length}
use Rattle.rls_script.specs.Scripts.{script_of, script_lines, lines_from}
use Rattle.rls_script.proofs.LineEnds.{with_lines}
use Rattle.rls_script.proofs.parsing.parse.Given as goal

abbrev pub invariant-loop-rest : goal.invariant-loop-rest
invariant-loop-rest l = with_lines l.lines.items (lines_from (length l.lines.items + 1) (script_lines l.rest)) ≡ script_of l.script

abbrev pub decreases-loop-rest : goal.decreases-loop-rest
decreases-loop-rest l = length l.rest
