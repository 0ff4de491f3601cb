use Rattle.std.proofs.Common.{◌≡◌, length}
use Rattle.rls_parts.proofs.Tabled.{AreEmpty}
use Rattle.rls_parts.proofs.table.StemTable.new.Given as goal

-- as many empty lines as were made
abbrev pub invariant-lines : goal.invariant-lines
invariant-lines l = record {
  count : length l.lines.items ≡ l.counter;
  empty : AreEmpty l.lines.items;
}
