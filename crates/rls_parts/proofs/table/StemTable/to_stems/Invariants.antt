use Rattle.std.proofs.Common.{◌≡◌, ◌++◌, drop}
use Rattle.rls_parts.specs.Tables.{stems_from}
use Rattle.rls_parts.proofs.table.StemTable.to_stems.Given as goal

-- what was put, and what is left, are all
abbrev pub invariant-loop-author : goal.invariant-loop-author
invariant-loop-author l = l.stems ++ stems_from l.author (drop l.author l.line-items) ≡ stems_from 0 l.line-items
