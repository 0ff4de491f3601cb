use Rattle.std.proofs.Common.{◌≡◌, length, take}
use Rattle.rls_steps.proofs.names.Names.truncate.Given as goal

-- the first ones are there
abbrev pub invariant-names : goal.invariant-names
invariant-names l = record {
  front : l.self ≡ take (length l.self) l.fn.self;
  kept : take l.count l.self ≡ take l.count l.fn.self;
}

abbrev pub decreases-names : goal.decreases-names
decreases-names l = length l.self
