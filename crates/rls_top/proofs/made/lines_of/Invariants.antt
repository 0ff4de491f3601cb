use Rattle.std.proofs.Common.{◌≡◌, ◌++◌, drop, string_bytes}
use Rattle.rls_top.specs.Due.{refused_lines}
use Rattle.rls_top.proofs.made.lines_of.Given as goal

abbrev pub invariant-loop-i : goal.invariant-loop-i
invariant-loop-i l = string_bytes l.text ++ refused_lines (drop l.i l.refused) ≡ refused_lines l.refused
