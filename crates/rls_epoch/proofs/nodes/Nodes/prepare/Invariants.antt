use Rattle.std.proofs.Common.{◌≡◌}
use Rattle.rls_epoch.proofs.nodes.Nodes.prepare.Given as goal

-- nothing that is seen changes
abbrev pub invariant-loop-run : goal.invariant-loop-run
invariant-loop-run l = l.self ≡ l.fn.self
