use Rattle.std.proofs.Common.{◌≡◌, drop}
use Rattle.rls_parts.specs.Rules.{row_fault}
use Rattle.rls_parts.proofs.rows.row_fault.Given as goal

-- the rows so far pass
abbrev pub invariant-loop-i : goal.invariant-loop-i
invariant-loop-i l = row_fault l.parts l.i (drop l.i l.parts.rows) ≡ row_fault l.parts 0 l.parts.rows
