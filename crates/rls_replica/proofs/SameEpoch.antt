-- From an epoch to itself nothing changes.
use Rattle.std.proofs.Common.{◌≡◌, ◌∙◌, List, [], ◌∷◌, map, refl, sym, ap}
use Rattle.std.specs.Prelude.{if◌then◌else◌}
use Rattle.rls_ident.specs.declared.tuple.Tuple.{Tuple}
use Rattle.rls_ident.specs.declared.epoch_name.EpochName.{EpochName}
use Rattle.rls_ident.proofs.Named.{name_eq_refl}
use Rattle.rls_rename.specs.Renaming.{Renaming}
use Rattle.rls_rename.specs.Tree.{Node, along, back_all, forward_all, name_of, path, translate}

along_same : (Rs : List Renaming) (x : List Tuple) → along Rs Rs x ≡ x
unfolding along forward_all
along_same [] x = refl
along_same (R ∷ Rs) x = ap (λ b. if b then along Rs Rs x else forward_all (R ∷ Rs) (back_all (R ∷ Rs) x)) (name_eq_refl (name_of R)) ∙ along_same Rs x

pub to_itself : (nodes : List Node) (e : EpochName) (x : List Tuple) → translate nodes e e x ≡ x
unfolding translate
to_itself nodes e x = along_same (path nodes e) x

-- the same of each identifier
pub all_to_itself : (nodes : List Node) (e : EpochName) (xs : List (List Tuple)) → map (translate nodes e e) xs ≡ xs
all_to_itself nodes e [] = refl
all_to_itself nodes e (x ∷ xs) = ap (λ y. y ∷ map (translate nodes e e) xs) (to_itself nodes e x) ∙ ap (λ ys. x ∷ ys) (all_to_itself nodes e xs)

pub unmoved : (nodes : List Node) (e f : EpochName) (xs : List (List Tuple)) → e ≡ f → map (translate nodes e f) xs ≡ xs
unmoved nodes e f xs same = ap (λ (g : EpochName). map (translate nodes e g) xs) (sym same) ∙ all_to_itself nodes e xs
