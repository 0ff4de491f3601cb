use Rattle.std.proofs.Common.{◌≡◌, ◌++◌, take}
use Rattle.rls_session.specs.ChangeLines.{escaped}
use Rattle.rls_session.proofs.change_lines.push_escaped.Given as goal

-- those of the first ones
abbrev pub invariant-chars : goal.invariant-chars
invariant-chars l = l.written ≡ l.initial.written ++ escaped (take l.i l.chars)
