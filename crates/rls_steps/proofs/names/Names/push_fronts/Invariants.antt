use Rattle.std.proofs.Common.{◌≡◌, ◌++◌, length, take}
use Rattle.rls_steps.specs.NameRuns.{names_in, names_of}
use Rattle.rls_steps.proofs.names.Names.push_fronts.Given as goal

-- the names that are left are the last ones
abbrev pub invariant-fronts : goal.invariant-fronts
invariant-fronts l = record {
  all : l.self ++ names_in l.rest ≡ l.fn.self ++ names_of l.fn.run;
  front : take (length l.fn.self) l.self ≡ l.fn.self;
}

abbrev pub decreases-fronts : goal.decreases-fronts
decreases-fronts l = length (names_in l.rest)
