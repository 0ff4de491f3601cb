use Rattle.std.proofs.Common.{◌≡◌, ◌++◌, map, drop}
use Rattle.rls_ops.specs.Rows.{missing_for}
use Rattle.rls_seen.specs.Kept.{marked_over}
use Rattle.rls_seen.specs.Seen.{stable_over}
use Rattle.rls_replica.proofs.replica.Replica.marked.Given as goal

-- those from the index on are still to come
abbrev pub invariant-loop-i : goal.invariant-loop-i
invariant-loop-i l = l.names.items ++ map (λ o. o.epoch) (missing_for (stable_over l.self) (drop l.i l.self.log)) ≡ marked_over l.self
