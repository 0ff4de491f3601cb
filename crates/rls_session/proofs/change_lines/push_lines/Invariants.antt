use Rattle.std.proofs.Common.{◌≡◌, ◌++◌, take}
use Rattle.rls_session.specs.ChangeLines.{change_lines}
use Rattle.rls_session.proofs.change_lines.push_lines.Given as goal

-- those of the first ones
abbrev pub invariant-changes : goal.invariant-changes
invariant-changes l = l.reply.items ≡ l.initial.reply.items ++ change_lines (take l.i l.changes)
