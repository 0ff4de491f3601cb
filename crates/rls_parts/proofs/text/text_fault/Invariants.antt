use Rattle.std.proofs.Common.{◌≡◌, drop}
use Rattle.rls_parts.specs.Rules.{text_fault}
use Rattle.rls_parts.proofs.text.text_fault.Given as goal

-- the runs so far pass
abbrev pub invariant-loop-i : goal.invariant-loop-i
invariant-loop-i l = text_fault l.parts l.i (drop l.i l.parts.text) ≡ text_fault l.parts 0 l.parts.text
