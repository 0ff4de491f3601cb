use Rattle.std.proofs.Common.{◌≡◌, ◌++◌, drop, length}
use Rattle.rls_runs.proofs.text.ascii_chars.Given as goal

-- the characters so far, and what is left, are the text
abbrev pub invariant-loop-eight : goal.invariant-loop-eight
invariant-loop-eight l = l.chars.items ++ l.rest ≡ l.bytes

abbrev pub decreases-loop-eight : goal.decreases-loop-eight
decreases-loop-eight l = length l.rest

abbrev pub invariant-loop-byte : goal.invariant-loop-byte
invariant-loop-byte l = l.chars.items ++ drop l.byte-index l.byte-items ≡ l.bytes
