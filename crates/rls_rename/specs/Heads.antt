-- Heads: the first tuples of identifiers, and maps that look no further.
use Rattle.std.specs.Prelude.{◌≡◌, Bool, true, false, Option, Some, None, List, [], ◌∷◌, ◌++◌}
use Rattle.rls_ident.specs.declared.tuple.Tuple.{Tuple}
use Rattle.rls_ident.specs.Tuples.{tuple_cmp}
use Rattle.rls_ident.specs.Maps.{by_order}

-- whether the head is less than the other list at the first place where they differ, if there is one within both
abbrev pub head_less : List Tuple → List Tuple → Option Bool
head_less [] p = None
head_less (t ∷ h) [] = None
head_less (t ∷ h) (q ∷ p) = by_order (tuple_cmp t q) (Some true) (head_less h p) (Some false)

-- f puts z in the place of the head h, whatever follows it
abbrev pub Replaces : (List Tuple → List Tuple) → List Tuple → List Tuple → Type 0
Replaces f h z = (y : List Tuple) → f (h ++ y) ≡ z ++ y
