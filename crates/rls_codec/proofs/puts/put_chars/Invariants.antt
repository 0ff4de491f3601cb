use Rattle.std.proofs.Common.{◌≡◌, ◌++◌, length}
use Rattle.std.specs.Prelude.{encode_utf8_all}
use Rattle.rls_codec.specs.Gives.{IsFrontOf}
use Rattle.rls_codec.proofs.puts.put_chars.Given as goal

-- the characters so far, and what is left, are all
abbrev pub invariant-loop-eight : goal.invariant-loop-eight
invariant-loop-eight l = record {
  items : l.out.items ++ encode_utf8_all l.rest ≡ l.fn.out.items ++ encode_utf8_all l.chars;
  keeps : IsFrontOf l.fn.out.items l.out.items;
}

abbrev pub decreases-loop-eight : goal.decreases-loop-eight
decreases-loop-eight l = length l.rest
