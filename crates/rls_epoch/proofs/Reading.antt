-- Names and parents of nodes that are read.
use Rattle.std.proofs.Common.{◌≡◌, ℕ, zero, suc, List, [], ◌∷◌, Some, ap}
use Rattle.std.specs.Prelude.{slice_get}
use Rattle.rls_ident.proofs.Members.{some_is}
use Rattle.rls_rename.specs.Tree.{name_of}
use Rattle.rls_epoch.specs.declared.placed.Placed.{Placed}
use Rattle.rls_epoch.specs.Links.{up_at}
use Rattle.rls_epoch.specs.Sorted.{place_name}

pub name_read : (ps : List Placed) (k : ℕ) (p : Placed) → slice_get ps k ≡ Some p → place_name ps k ≡ name_of p.renaming
name_read [] k p h = absurd (cc)
name_read (q ∷ ps) zero p h = ap (λ (z : Placed). name_of z.renaming) (some_is q p h)
name_read (q ∷ ps) (suc k) p h = name_read ps k p h

pub up_read : (ps : List Placed) (k : ℕ) (p : Placed) → slice_get ps k ≡ Some p → up_at ps k ≡ p.up
up_read [] k p h = absurd (cc)
up_read (q ∷ ps) zero p h = ap (λ (r : Placed). r.up) (some_is q p h)
up_read (q ∷ ps) (suc k) p h = up_read ps k p h
