use Rattle.std.proofs.Common.{◌≡◌, ℕ, ◌<◌}
use Rattle.std.specs.Prelude.{slice_index_or, false}
use Rattle.rls_script.specs.Scripts.{is_line_feed}
use Rattle.rls_script.proofs.parsing.has_line_feed.Given as goal

-- where none was met, none is among those so far
abbrev pub invariant-loop-byte : goal.invariant-loop-byte
invariant-loop-byte l = l.has ≡ false → (k : ℕ) (d : ℕ) → k < l.byte-index → is_line_feed (slice_index_or l.bytes k d) ≡ false
