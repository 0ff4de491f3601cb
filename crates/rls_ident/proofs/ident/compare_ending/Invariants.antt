use Rattle.std.proofs.Common.{◌≡◌, ◌++◌, ◌∷◌, [], drop}
use Rattle.rls_ident.specs.Tuples.{at_spot}
use Rattle.rls_ident.specs.Identifiers.{ident_cmp}
use Rattle.rls_ident.proofs.ident.compare_ending.Given as goal

-- the tuples so far are equal
abbrev pub invariant-loop-i : goal.invariant-loop-i
invariant-loop-i l = ident_cmp (drop l.i (l.front ++ at_spot l.last ∷ [])) (drop l.i l.other) ≡ ident_cmp (l.front ++ at_spot l.last ∷ []) l.other
