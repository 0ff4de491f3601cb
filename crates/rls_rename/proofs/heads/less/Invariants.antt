use Rattle.std.proofs.Common.{◌≡◌, drop}
use Rattle.rls_rename.specs.Heads.{head_less}
use Rattle.rls_rename.proofs.heads.less.Given as goal

-- the tuples so far are equal
abbrev pub invariant-loop-i : goal.invariant-loop-i
invariant-loop-i l = head_less (drop l.i l.head) (drop l.i l.other) ≡ head_less l.head l.other
