-- Former lists: a nonempty increasing list of identifiers is one, and each node has one.
use Rattle.std.proofs.Common.{◌<◌, List, [], ◌∷◌, length, arith, subst, inl, inr}
use Rattle.std.specs.List.{list_all}
use Rattle.rls_ident.specs.declared.tuple.Tuple.{Tuple}
use Rattle.rls_ident.specs.Identifiers.{is_ident, ident_cmp, ident_lt}
use Rattle.rls_ident.proofs.Members.{and_left, and_right, less_is}
use Rattle.rls_ident.specs.Lists.{IsIn}
use Rattle.rls_runs.specs.Runs.{is_increasing, AreIdents}
use Rattle.rls_rename.specs.Renaming.{IsFormer}
use Rattle.rls_rename.specs.Tree.{Node, AreNodes}

pub former_of : (xs : List (List Tuple)) → 0 < length xs → AreIdents xs → IsFormer xs
former_of [] l h = absurd (omega arith)
former_of (a ∷ []) l h = and_left (is_ident a) (list_all is_ident []) h.0
former_of (a ∷ (b ∷ rest)) l h = (
  and_left (is_ident a) (list_all is_ident (b ∷ rest)) h.0,
  less_is (ident_cmp a b) (and_left (ident_lt a b) (is_increasing (b ∷ rest)) h.1),
  former_of (b ∷ rest) (omega arith) (and_right (is_ident a) (list_all is_ident (b ∷ rest)) h.0, and_right (ident_lt a b) (is_increasing (b ∷ rest)) h.1),
)

pub former_in : (ns : List Node) → AreNodes ns → (n : Node) → IsIn n ns → IsFormer n.renaming.former
former_in [] d n p = absurd p
former_in (m ∷ ns) d n (inl e) = subst (λ (z : Node). IsFormer z.renaming.former) e d.0
former_in (m ∷ ns) d n (inr p) = former_in ns d.2 n p
