use Rattle.std.proofs.Common.{◌≡◌, drop}
use Rattle.rls_ident.specs.Identifiers.{first_fault}
use Rattle.rls_ident.proofs.ident.find_fault.Given as goal

-- there is no fault so far
abbrev pub invariant-loop-i : goal.invariant-loop-i
invariant-loop-i l = first_fault l.i (drop l.i l.tuples) ≡ first_fault 0 l.tuples
