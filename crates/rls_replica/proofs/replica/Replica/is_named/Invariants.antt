use Rattle.std.proofs.Common.{◌≡◌, drop}
use Rattle.rls_replica.specs.Lookups.{is_named_over}
use Rattle.rls_replica.proofs.replica.Replica.is_named.Given as goal

-- none in front names it
abbrev pub invariant-loop-i : goal.invariant-loop-i
invariant-loop-i l = is_named_over l.self l.epoch l.target (drop l.i l.self.log) ≡ is_named_over l.self l.epoch l.target l.self.log
