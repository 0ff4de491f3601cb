-- Translation along a tree goes by way of the topmost epoch, so it does not depend on the way.
use Rattle.std.proofs.Common.{◌≡◌, Bool, true, false, List, [], ◌∷◌, ◌++◌, refl, sym, ap, ◌∙◌, subst, inl, inr}
use Rattle.std.specs.Prelude.{if◌then◌else◌, ◌⊎◌}
use Rattle.rls_ident.specs.declared.tuple.Tuple.{Tuple}
use Rattle.rls_ident.specs.declared.epoch_name.EpochName.{EpochName}
use Rattle.rls_ident.specs.EpochNames.{name_eq}
use Rattle.rls_ident.specs.Identifiers.{IsIdent, ident_cmp}
use Rattle.rls_ident.specs.Lists.{IsIn}
use Rattle.rls_ident.proofs.Iso.{Iso, inverse, compose, kept}
use Rattle.rls_ident.proofs.Tuples.{tuples}
use Rattle.rls_ident.proofs.Members.{or_left, or_right}
pub use Rattle.rls_ident.proofs.Named.{name_eq_is, name_eq_refl}
use Rattle.rls_rename.specs.Renaming.{Renaming, IsFormer, new_spot, forward, back}
use Rattle.rls_rename.specs.Tree.{Node, name_of, same_name, is_of, has_node, AreNodes, path, forward_all, back_all, along, translate}
use Rattle.rls_rename.proofs.Increasing.{forward_iso}

-- ---- the renamings of one tree

-- the renaming of some node
abbrev pub IsAmong : List Node → Renaming → Type 0
IsAmong [] R = ⊥
IsAmong (node ∷ older) R = (node.renaming ≡ R) ⊎ IsAmong older R

abbrev pub AreAmong : List Node → List Renaming → Type 0
AreAmong nodes [] = Unit {0}
AreAmong nodes (R ∷ Rs) = IsAmong nodes R × AreAmong nodes Rs

pub among_node : (nodes : List Node) (R : Renaming) → IsAmong nodes R → (node : Node) × IsIn node nodes × (node.renaming ≡ R)
among_node [] R p = absurd p
among_node (node ∷ older) R (inl e) = (node, inl refl, e)
among_node (node ∷ older) R (inr p) = let r = among_node older R p in (r.0, inr r.1, r.2)

-- a node that is there has its name there
pub named : (nodes : List Node) (R : Renaming) → IsAmong nodes R → has_node nodes (name_of R) ≡ true
named [] R p = absurd p
named (node ∷ older) R (inl e) = or_left (is_of node (name_of R)) (has_node older (name_of R)) (ap (λ S. name_eq (name_of S) (name_of R)) e ∙ name_eq_refl (name_of R))
named (node ∷ older) R (inr p) = or_right (is_of node (name_of R)) (has_node older (name_of R)) (named older R p)

-- two of one name are one
pub one_name : (nodes : List Node) → AreNodes nodes → (R S : Renaming) → IsAmong nodes R → IsAmong nodes S → same_name R S ≡ true → R ≡ S
one_name [] n R S p q e = absurd p
one_name (node ∷ older) n R S (inl p) (inl q) e = sym p ∙ q
one_name (node ∷ older) n R S (inl p) (inr q) e =
    let f = name_eq_is (name_of R) (name_of S) e in
    let g : has_node older (name_of node.renaming) ≡ true = ap (λ T. has_node older (name_of T)) p ∙ (ap (has_node older) f ∙ named older S q) in
    let h = n.1 in absurd (cc)
one_name (node ∷ older) n R S (inr p) (inl q) e =
    let f = name_eq_is (name_of R) (name_of S) e in
    let g : has_node older (name_of node.renaming) ≡ true = ap (λ T. has_node older (name_of T)) q ∙ (ap (has_node older) (sym f) ∙ named older R p) in
    let h = n.1 in absurd (cc)
one_name (node ∷ older) n R S (inr p) (inr q) e = one_name older n.2 R S p q e

pub former_among : (nodes : List Node) → AreNodes nodes → (R : Renaming) → IsAmong nodes R → IsFormer R.former
former_among [] n R p = absurd p
former_among (node ∷ older) n R (inl p) = let P : Renaming → Type 0 = λ T. IsFormer T.former in subst P p n.0
former_among (node ∷ older) n R (inr p) = former_among older n.2 R p

among-older : (node : Node) (older : List Node) (Rs : List Renaming) → AreAmong older Rs → AreAmong (node ∷ older) Rs
among-older node older [] h = tt
among-older node older (R ∷ Rs) h = (inr h.0, among-older node older Rs h.1)

among-append : (nodes : List Node) (Rs Ss : List Renaming) → AreAmong nodes Rs → AreAmong nodes Ss → AreAmong nodes (Rs ++ Ss)
among-append nodes [] Ss g h = h
among-append nodes (R ∷ Rs) Ss g h = (g.0, among-append nodes Rs Ss g.1 h)

pub path-among : (nodes : List Node) (e : EpochName) → AreAmong nodes (path nodes e)
unfolding path
path-among [] e = tt
path-among (node ∷ older) e =
    among-append (node ∷ older) (path older (if is_of node e then node.parent else e)) (if is_of node e then node.renaming ∷ [] else [])
    (among-older node older (path older (if is_of node e then node.parent else e)) (path-among older (if is_of node e then node.parent else e)))
    (go (is_of node e))
  where
    go : (b : Bool) → AreAmong (node ∷ older) (if b then node.renaming ∷ [] else [])
    go true = (inl refl, tt)
    go false = tt

-- ---- a path is an increasing map

-- one renaming is an increasing map of all identifiers onto all identifiers
pub renaming_iso : (R : Renaming) → IsFormer R.former → Iso tuples IsIdent IsIdent (forward R) (back R)
unfolding forward back
renaming_iso R h = forward_iso (new_spot R) R.former h

abbrev pub AreRenamings : List Renaming → Type 0
AreRenamings [] = Unit {0}
AreRenamings (R ∷ Rs) = IsFormer R.former × AreRenamings Rs

renamings-among : (nodes : List Node) → AreNodes nodes → (Rs : List Renaming) → AreAmong nodes Rs → AreRenamings Rs
renamings-among nodes n [] g = tt
renamings-among nodes n (R ∷ Rs) g = (former_among nodes n R g.0, renamings-among nodes n Rs g.1)

pub path-renamings : (nodes : List Node) → AreNodes nodes → (e : EpochName) → AreRenamings (path nodes e)
path-renamings nodes n e = renamings-among nodes n (path nodes e) (path-among nodes e)

identity : Iso tuples IsIdent IsIdent (λ x. x) (λ x. x)
identity = record { into = λ x i. i; onto = λ x i. i; there = λ x i. refl; back = λ x i. refl; up = λ x y i j l. l }

pub path_iso : (Rs : List Renaming) → AreRenamings Rs → Iso tuples IsIdent IsIdent (forward_all Rs) (back_all Rs)
unfolding forward_all back_all
path_iso [] a = identity
path_iso (R ∷ Rs) a = compose (renaming_iso R a.0) (path_iso Rs a.1)

-- ---- by way of the topmost epoch

-- where the two paths have one name at one place, from the front on, they have one renaming there
abbrev Agree : List Renaming → List Renaming → Type 0
Agree [] Ss = Unit {0}
Agree (R ∷ Rs) [] = Unit {0}
Agree (R ∷ Rs) (S ∷ Ss) = same_name R S ≡ true → (R ≡ S) × Agree Rs Ss

agree-among : (nodes : List Node) → AreNodes nodes → (Rs Ss : List Renaming) → AreAmong nodes Rs → AreAmong nodes Ss → Agree Rs Ss
agree-among nodes n [] Ss g h = tt
agree-among nodes n (R ∷ Rs) [] g h = tt
agree-among nodes n (R ∷ Rs) (S ∷ Ss) g h = λ e. (one_name nodes n R S g.0 h.0 e, agree-among nodes n Rs Ss g.1 h.1)

along-top : (Rs Ss : List Renaming) → AreRenamings Rs → Agree Rs Ss → (x : List Tuple) → IsIdent x → along Rs Ss x ≡ forward_all Ss (back_all Rs x)
unfolding along forward_all back_all
along-top [] Ss a g x i = refl
along-top (R ∷ Rs) [] a g x i = refl
along-top (R ∷ Rs) (S ∷ Ss) a g x i = go (same_name R S) refl (λ q. along-top Rs Ss a.1 q x i)
  where
    go : (b : Bool) → same_name R S ≡ b → (Agree Rs Ss → along Rs Ss x ≡ forward_all Ss (back_all Rs x))
        → (if b then along Rs Ss x else forward_all Ss (forward S (back R (back_all Rs x)))) ≡ forward_all Ss (forward S (back R (back_all Rs x)))
    go false e ih = refl
    go true e ih =
        let m = g e in
        let j = (path_iso Rs a.1).onto x i in
        ih m.1
        ∙ (ap (forward_all Ss) (sym ((renaming_iso R a.0).back (back_all Rs x) j))
        ∙ ap (λ T. forward_all Ss (forward T (back R (back_all Rs x)))) m.0)

pub translate_is : (nodes : List Node) (e f : EpochName) (x : List Tuple) → AreNodes nodes → IsIdent x → translate nodes e f x ≡ forward_all (path nodes f) (back_all (path nodes e) x)
unfolding translate
translate_is nodes e f x n i =
    along-top (path nodes e) (path nodes f) (path-renamings nodes n e) (agree-among nodes n (path nodes e) (path nodes f) (path-among nodes e) (path-among nodes f)) x i

pub over_top : (nodes : List Node) (e f : EpochName) → AreNodes nodes → Iso tuples IsIdent IsIdent (λ x. forward_all (path nodes f) (back_all (path nodes e) x)) (λ x. forward_all (path nodes e) (back_all (path nodes f) x))
over_top nodes e f n = compose (inverse (path_iso (path nodes e) (path-renamings nodes n e))) (path_iso (path nodes f) (path-renamings nodes n f))

-- ---- what translation keeps

pub translate_ident : (nodes : List Node) (e f : EpochName) (x : List Tuple) → AreNodes nodes → IsIdent x → IsIdent (translate nodes e f x)
translate_ident nodes e f x n i = subst IsIdent (sym (translate_is nodes e f x n i)) ((over_top nodes e f n).into x i)

pub translate_translate : (nodes : List Node) (e f g : EpochName) (x : List Tuple) → AreNodes nodes → IsIdent x → translate nodes f g (translate nodes e f x) ≡ translate nodes e g x
translate_translate nodes e f g x n i =
    let a = translate_is nodes e f x n i in
    let j = (path_iso (path nodes e) (path-renamings nodes n e)).onto x i in
    let m = path_iso (path nodes f) (path-renamings nodes n f) in
    let k = m.into (back_all (path nodes e) x) j in
    ap (translate nodes f g) a ∙ (translate_is nodes f g (forward_all (path nodes f) (back_all (path nodes e) x)) n k
    ∙ (ap (forward_all (path nodes g)) (m.there (back_all (path nodes e) x) j) ∙ sym (translate_is nodes e g x n i)))

pub translate_order : (nodes : List Node) (e f : EpochName) (x y : List Tuple) → AreNodes nodes → IsIdent x → IsIdent y → ident_cmp (translate nodes e f x) (translate nodes e f y) ≡ ident_cmp x y
translate_order nodes e f x y n i j =
    let a = translate_is nodes e f x n i in
    let b = translate_is nodes e f y n j in
    rw (a, b) (kept (over_top nodes e f n) x y i j)
