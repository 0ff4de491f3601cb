-- What is taken out of the gap above an identifier.
use Rattle.std.proofs.Common.{◌≡◌, List}
use Rattle.std.specs.declared.cmp.Ordering.TheVariants.{Less}
use Rattle.rls_ident.specs.declared.tuple.Tuple.{Tuple}
use Rattle.rls_ident.specs.Identifiers.{ident_cmp, IsIdent}
use Rattle.rls_rename.specs.Renaming.{old_above_inverse}
use Rattle.rls_ident.proofs.Iso.{down}
use Rattle.rls_rename.proofs.Increasing.{old_above_iso}

-- what is taken out of the gap above a
pub inner_ident : (a x : List Tuple) → IsIdent x → ident_cmp a x ≡ Less → IsIdent (old_above_inverse a x)
inner_ident a x i l = (old_above_iso a).onto x (i, record { less = l })

pub inner_less : (a x y : List Tuple) → IsIdent x → IsIdent y → ident_cmp a x ≡ Less → ident_cmp a y ≡ Less → ident_cmp x y ≡ Less → ident_cmp (old_above_inverse a x) (old_above_inverse a y) ≡ Less
inner_less a x y i j l k h = (down (old_above_iso a) x y (i, record { less = l }) (j, record { less = k }) (record { less = h })).less
