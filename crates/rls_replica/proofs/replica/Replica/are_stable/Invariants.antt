use Rattle.std.proofs.Common.{◌≤◌, ◌<◌, ℕ}
use Rattle.std.specs.Prelude.{slice_index}
use Rattle.rls_seen.specs.Seen.{stable_over}
use Rattle.rls_replica.specs.Bounds.{IsBounded, edge_of}
use Rattle.rls_replica.proofs.replica.Replica.are_stable.Given as goal

-- the deletions of the members in front are stable
abbrev pub invariant-loop-author : goal.invariant-loop-author
invariant-loop-author l = (a q : ℕ) → a < l.author → IsBounded l.bounds.numbers.entries (edge_of a l.id) q → q ≤ slice_index (stable_over l.self) a
