use Rattle.std.proofs.Common.{◌≡◌, ℕ, ◌<◌}
use Rattle.std.specs.Prelude.{slice_index_or, true}
use Rattle.rls_codec.proofs.puts.are_ascii.Given as goal

-- where no other was met, all so far are
abbrev pub invariant-loop-c : goal.invariant-loop-c
invariant-loop-c l = l.are ≡ true → (k : ℕ) (d : ℕ) → k < l.c-index → slice_index_or l.chars k d < 128
