use Rattle.std.proofs.Common.{◌≡◌}
use Rattle.rls_parts.specs.Restored.{marks_of}
use Rattle.rls_parts.proofs.rows.marks.Given as goal

-- those of the members so far
abbrev pub invariant-loop-member : goal.invariant-loop-member
invariant-loop-member l = l.marks.items ≡ marks_of l.parts.left l.member
