-- Translations that go by way of another epoch.
use Rattle.std.proofs.Common.{◌≡◌, true, List, map, refl, ap, ◌∙◌}
use Rattle.std.specs.List.{list_all}
use Rattle.rls_ident.specs.declared.tuple.Tuple.{Tuple}
use Rattle.rls_ident.specs.declared.epoch_name.EpochName.{EpochName}
use Rattle.rls_ident.specs.Identifiers.{is_ident, IsIdent}
use Rattle.rls_rename.specs.Tree.{AreNodes, Node, translate}
use Rattle.rls_rename.proofs.Paths.{translate_translate}
use Rattle.rls_epoch.proofs.KnownRuns.{map_goes_on}

-- where an identifier is after a part of its way, it has as far to go as before
pub ident_goes_on : (ns : List Node) → AreNodes ns → (e m f : EpochName) (x y z : List Tuple) → IsIdent x → y ≡ translate ns e m x → translate ns e f x ≡ z → translate ns m f y ≡ z
ident_goes_on ns d e m f x y z i q r = ap (translate ns m f) q ∙ (translate_translate ns e m f x d i ∙ r)

-- the same of lists
pub runs_go_on : (ns : List Node) → AreNodes ns → (e m f : EpochName) (xs ys zs : List (List Tuple)) → list_all is_ident xs ≡ true → ys ≡ map (translate ns e m) xs → map (translate ns e f) xs ≡ zs → map (translate ns m f) ys ≡ zs
runs_go_on ns d e m f xs ys zs a q r = map_goes_on ns d e m f (translate ns e m) (λ x i. refl) xs ys a q ∙ r
