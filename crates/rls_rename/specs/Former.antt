-- Identifiers are former ones in one way only.
use Rattle.std.specs.Prelude.{List, [], ◌∷◌, ◌≡◌}
use Rattle.std.proofs.Props as below
use Rattle.rls_ident.specs.declared.tuple.Tuple.{Tuple}
use Rattle.rls_rename.specs.Renaming.{IsFormer}

-- a proof that they are is as good as any other
pub former_prop : (xs : List (List Tuple)) → IsProp (IsFormer xs)
former_prop [] = hlevel
former_prop (a ∷ []) = hlevel below.props
former_prop (a ∷ (b ∷ rest)) = hlevel (below.props, former_prop (b ∷ rest))
