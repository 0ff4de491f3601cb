use Rattle.std.proofs.Common.{◌≡◌, ◌++◌, take, drop, length}
use Rattle.rls_codec.proofs.puts.fill_ascii.Given as goal

-- the codes so far are written
abbrev pub invariant-loop-i : goal.invariant-loop-i
invariant-loop-i l = record {
  places : length l.bytes ≡ length l.chars;
  so_far : take l.i l.bytes ++ drop l.i l.chars ≡ l.chars;
}
