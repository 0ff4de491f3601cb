use Rattle.std.proofs.Common.{◌<◌, length}
use Rattle.rls_blocks.proofs.rest.longest_of.Given as goal

abbrev pub invariant-loop-i : goal.invariant-loop-i
invariant-loop-i l = record { within : l.longest < length l.parts }
