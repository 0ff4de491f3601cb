use Rattle.std.proofs.Common.{◌≡◌, ◌+◌, ◌-◌, ◌++◌, take, drop}
use Rattle.rls_seen.specs.Seen.{text_over}
use Rattle.rls_replica.proofs.replica.Replica.text_of.Given as goal

-- with those that are left they are all
abbrev pub invariant-places : goal.invariant-places
invariant-places l = l.text ++ take (l.from + l.count - l.i) (drop l.i (text_over l.self)) ≡ take l.count (drop l.from (text_over l.self))
