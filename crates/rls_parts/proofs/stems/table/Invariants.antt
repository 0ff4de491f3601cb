use Rattle.std.proofs.Common.{◌≡◌, take}
use Rattle.rls_parts.proofs.stems.table.Given as goal

-- the stems so far are in the table
abbrev pub invariant-loop-i : goal.invariant-loop-i
invariant-loop-i l = record {
  stems : l.all.stems ≡ take l.i l.parts.stems;
  members : l.all.members ≡ l.parts.members;
}
