use Rattle.std.proofs.Common.{◌≡◌, ◌≤◌, [], drop}
use Rattle.std.specs.Map.{values_of}
use Rattle.indexmap.specs.IndexMap.{index_map_len}
use Rattle.rls_causal.specs.Queues.{joined}
use Rattle.rls_causal.proofs.held.Held.last.Given as goal

-- the queues from the place on are empty
abbrev pub invariant-loop-place : goal.invariant-loop-place
invariant-loop-place l = (l.place ≤ index_map_len l.self-inside.queues) × (joined (drop l.place (values_of l.self-inside.queues.entries)) ≡ [])

abbrev pub decreases-loop-place : goal.decreases-loop-place
decreases-loop-place l = l.place
