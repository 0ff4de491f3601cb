use Rattle.std.proofs.Common.{◌≡◌, drop, length}
use Rattle.rls_parts.specs.Reading.{names_of}
use Rattle.rls_parts.specs.Rules.{names_eq}
use Rattle.rls_parts.proofs.retained.names_eq.Given as goal

-- the names so far are equal
abbrev pub invariant-loop-i : goal.invariant-loop-i
invariant-loop-i l = record {
  as_many : length l.list ≡ length l.names;
  equal : names_eq (names_of (drop l.i l.list)) (drop l.i l.names) ≡ names_eq (names_of l.list) l.names;
}
