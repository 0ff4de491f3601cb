-- A tree with one more node: what was kept is translated as before, and the new epoch is one renaming behind its parent.
use Rattle.std.proofs.Common.{◌≡◌, true, false, List, [], ◌∷◌, ◌++◌, refl, sym, ap, ◌∙◌, append-nil}
use Rattle.std.specs.Prelude.{if◌then◌else◌, ◌||◌}
use Rattle.rls_ident.specs.declared.tuple.Tuple.{Tuple}
use Rattle.rls_ident.specs.declared.epoch_name.EpochName.{EpochName}
use Rattle.rls_ident.specs.EpochNames.{name_eq}
use Rattle.rls_ident.specs.Identifiers.{IsIdent}
use Rattle.rls_ident.proofs.Members.{not_true}
use Rattle.rls_rename.specs.Renaming.{Renaming, IsFormer, forward, back}
use Rattle.rls_rename.specs.Tree.{Node, name_of, is_of, has_node, is_kept, AreNodes, AreBelow, path, forward_all, back_all, along, translate}
use Rattle.rls_rename.proofs.Paths.{name_eq_is, path_iso, path-renamings, renaming_iso, translate_is, translate_translate}

pub path_other : (node : Node) (older : List Node) (e : EpochName) → is_of node e ≡ false → path (node ∷ older) e ≡ path older e
unfolding path
path_other node older e h = ap (λ b. path older (if b then node.parent else e) ++ (if b then node.renaming ∷ [] else [])) h ∙ append-nil (path older e)

pub path_child : (node : Node) (older : List Node) (e : EpochName) → is_of node e ≡ true → path (node ∷ older) e ≡ path older node.parent ++ (node.renaming ∷ [])
unfolding path
path_child node older e h = ap (λ b. path older (if b then node.parent else e) ++ (if b then node.renaming ∷ [] else [])) h

-- what was kept is not the new node
pub kept_other : (top : EpochName) (node : Node) (older : List Node) (e : EpochName) → AreNodes (node ∷ older) → AreBelow top (node ∷ older) → is_kept top older e ≡ true → is_of node e ≡ false
kept_other top node older e n b k = not_true (is_of node e) (λ h. go h (name_eq_is (name_of node.renaming) e h))
  where
    go : is_of node e ≡ true → name_of node.renaming ≡ e → ⊥
    go h q =
        let s : is_kept top older (name_of node.renaming) ≡ true = ap (is_kept top older) q ∙ k in
        let t : (name_eq (name_of node.renaming) top || has_node older (name_of node.renaming)) ≡ false = let x = b.1 in let y = n.1 in rw (x, y) refl in
        absurd (cc)

pub translate_other : (node : Node) (older : List Node) (e f : EpochName) (x : List Tuple) → is_of node e ≡ false → is_of node f ≡ false → translate (node ∷ older) e f x ≡ translate older e f x
unfolding translate
translate_other node older e f x h k = ap (λ p. along p (path (node ∷ older) f) x) (path_other node older e h) ∙ ap (λ p. along (path older e) p x) (path_other node older f k)

forward_append : (Rs : List Renaming) (R : Renaming) (x : List Tuple) → forward_all (Rs ++ (R ∷ [])) x ≡ forward R (forward_all Rs x)
unfolding forward_all
forward_append [] R x = refl
forward_append (S ∷ Rs) R x = forward_append Rs R (forward S x)

-- to the new epoch
pub translate_child : (node : Node) (older : List Node) (e f : EpochName) (x : List Tuple) → AreNodes (node ∷ older) → IsIdent x → is_of node e ≡ false → is_of node f ≡ true →
    translate (node ∷ older) e f x ≡ forward node.renaming (translate older e node.parent x)
translate_child node older e f x n i h k =
    translate_is (node ∷ older) e f x n i
    ∙ (ap (λ p. forward_all p (back_all (path (node ∷ older) e) x)) (path_child node older f k)
    ∙ (ap (λ p. forward_all (path older node.parent ++ (node.renaming ∷ [])) (back_all p x)) (path_other node older e h)
    ∙ (forward_append (path older node.parent) node.renaming (back_all (path older e) x)
    ∙ ap (forward node.renaming) (sym (translate_is older e node.parent x n.2 i)))))

pub translate_same : (nodes : List Node) (e : EpochName) (x : List Tuple) → AreNodes nodes → IsIdent x → translate nodes e e x ≡ x
translate_same nodes e x n i = translate_is nodes e e x n i ∙ (path_iso (path nodes e) (path-renamings nodes n e)).back x i

-- and back to where it came from
pub translate_back : (nodes : List Node) (e f : EpochName) (x : List Tuple) → AreNodes nodes → IsIdent x → translate nodes f e (translate nodes e f x) ≡ x
translate_back nodes e f x n i = translate_translate nodes e f e x n i ∙ translate_same nodes e x n i

pub forward_same : (R : Renaming) (x y : List Tuple) → IsFormer R.former → IsIdent x → IsIdent y → forward R x ≡ forward R y → x ≡ y
forward_same R x y h i j e = let m = renaming_iso R h in sym (m.there x i) ∙ (ap (back R) e ∙ m.there y j)
