use Rattle.std.proofs.Common.{◌≡◌, ◌+◌, length}
use Rattle.std.specs.List.{position_or_len}
use Rattle.rls_script.specs.Scripts.{is_line_feed}
use Rattle.rls_script.proofs.parsing.line_end.Given as goal

-- what is passed has no line feed
abbrev pub invariant-loop-eight : goal.invariant-loop-eight
invariant-loop-eight l = record {
  len : l.passed + length l.rest ≡ length l.bytes;
  end : position_or_len is_line_feed l.bytes ≡ l.passed + position_or_len is_line_feed l.rest;
}

abbrev pub decreases-loop-eight : goal.decreases-loop-eight
decreases-loop-eight l = length l.rest
