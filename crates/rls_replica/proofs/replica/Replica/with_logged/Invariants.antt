use Rattle.std.proofs.Common.{take}
use Rattle.rls_replica.specs.Gone.{AllNoted}
use Rattle.rls_replica.proofs.replica.Replica.with_logged.Given as goal

-- those in front are noted
abbrev pub invariant-loop-i : goal.invariant-loop-i
invariant-loop-i l = AllNoted l.self l.epoch l.named (take l.i l.self.log)
