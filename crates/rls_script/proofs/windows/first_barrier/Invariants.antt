use Rattle.std.proofs.Common.{◌≡◌, ◌+◌, drop}
use Rattle.std.specs.List.{position_or_len}
use Rattle.rls_script.specs.Clusters.{is_barrier}
use Rattle.rls_script.proofs.windows.first_barrier.Given as goal

-- the first one stands among those that are left
abbrev pub invariant-loop-i : goal.invariant-loop-i
invariant-loop-i l = position_or_len is_barrier l.text ≡ l.i + position_or_len is_barrier (drop l.i l.text)
