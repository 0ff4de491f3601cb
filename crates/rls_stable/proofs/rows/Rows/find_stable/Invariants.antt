use Rattle.std.proofs.Common.{◌≡◌, length}
use Rattle.rls_ops.specs.Rows.{awaited, least_of}
use Rattle.rls_stable.proofs.rows.Rows.find_stable.Given as goal

-- the least of the rows of the members so far
abbrev pub invariant-loop-member : goal.invariant-loop-member
invariant-loop-member l = record {
  place : length l.stable ≡ length l.self.mine;
  least : l.stable ≡ least_of l.self.mine (awaited l.self l.member);
}
