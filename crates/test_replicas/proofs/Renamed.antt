-- A renaming keeps the order of identifiers.
use Rattle.std.proofs.Common.{◌∙◌, ap}
use Rattle.std.specs.Ordering.{is_lt}
use Rattle.rls_doc.specs.Documents.{KeepsOrder}
use Rattle.rls_rename.specs.Renaming.{Renaming, IsFormer, forward}
use Rattle.rls_rename.proofs.Laws.{order_kept}

pub forward_keeps : (R : Renaming) → IsFormer R.former → KeepsOrder (forward R)
forward_keeps R h x y i j l = ap is_lt (order_kept R x y h i j).0 ∙ l
