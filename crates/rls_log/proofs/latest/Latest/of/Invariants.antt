use Rattle.std.proofs.Common.{ℕ, List, take}
use Rattle.rls_log.specs.Encoded.{AreEntries, ops_in}
use Rattle.rls_log.specs.Latest.{Bounds}
use Rattle.rls_log.proofs.latest.Latest.of.Given as goal

-- those so far
abbrev pub invariant-loop-entry : goal.invariant-loop-entry
invariant-loop-entry l = (bytes : List ℕ) → AreEntries bytes l.entries → Bounds l.latest (ops_in bytes (take l.entry-index l.entries))
