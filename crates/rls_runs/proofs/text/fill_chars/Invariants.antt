use Rattle.std.proofs.Common.{◌≡◌, ◌++◌, take, drop, length}
use Rattle.rls_runs.proofs.text.fill_chars.Given as goal

-- the characters so far are written
abbrev pub invariant-loop-i : goal.invariant-loop-i
invariant-loop-i l = record {
  places : length l.chars ≡ length l.bytes;
  so_far : take l.i l.chars ++ drop l.i l.bytes ≡ l.bytes;
}
