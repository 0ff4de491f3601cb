use Rattle.std.proofs.Common.{◌≡◌, take}
use Rattle.rls_ops.proofs.same.same_text.Given as goal

-- the characters so far are equal
abbrev pub invariant-loop-i : goal.invariant-loop-i
invariant-loop-i l = take l.i l.text ≡ take l.i l.other
