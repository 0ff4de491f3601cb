use Rattle.std.proofs.Common.{◌≡◌, take, drop}
use Rattle.rls_epoch.specs.Marks.{kept_sum}
use Rattle.rls_epoch.proofs.nodes.Nodes.former_kept.Given as goal

-- the sum so far
abbrev pub invariant-loop-i : goal.invariant-loop-i
invariant-loop-i l = l.former ≡ kept_sum (drop 1 l.marks) (take l.i l.self.placed)
