use Rattle.std.proofs.Common.{◌≡◌, drop, None}
use Rattle.std.specs.Prelude.{option_copied}
use Rattle.rls_parts.specs.Rules.{held_fault}
use Rattle.rls_parts.proofs.held.held_fault.Given as goal

-- the operations so far pass
abbrev pub invariant-loop-i : goal.invariant-loop-i
invariant-loop-i l = held_fault l.parts (option_copied l.before) l.i (drop l.i l.parts.held) ≡ held_fault l.parts None 0 l.parts.held
