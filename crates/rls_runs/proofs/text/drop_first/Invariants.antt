use Rattle.std.proofs.Common.{◌≡◌, drop}
use Rattle.rls_runs.proofs.text.drop_first.Given as goal

-- so many are gone
abbrev pub invariant-loop-i : goal.invariant-loop-i
invariant-loop-i l = l.chars.items ≡ drop l._i l.fn.chars.items
