-- Two trees with the same nodes have the same paths, translations and greatest epoch, in whatever order the nodes stand.
use Rattle.std.proofs.Common.{◌≡◌, Bool, true, false, List, [], ◌∷◌, ◌++◌, map, refl, sym, ap, ◌∙◌, subst, inl, inr, ⊎_elim}
use Rattle.std.specs.Prelude.{if◌then◌else◌, ◌||◌}
use Rattle.std.specs.declared.cmp.Ordering.{Ordering}
use Rattle.std.specs.declared.cmp.Ordering.TheVariants.{Less, Equal, Greater}
use Rattle.std.specs.Ordering.{is_lt, nat_cmp, ordering_reverse}
use Rattle.std.specs.Cmp.{IsTotalOrder}
use Rattle.std.specs.Cmp.Lexicographic.{slice_cmp}
use Rattle.std.specs.FinMap.{nat_cmp-IsAntisymmetric}
use Rattle.std.proofs.lemmas.Cmp.{on_total, then_total, nat_cmp_total, lists_total}
use Rattle.rls_ident.specs.declared.tuple.Tuple.{Tuple}
use Rattle.rls_ident.specs.declared.epoch_name.EpochName.{EpochName}
use Rattle.rls_ident.specs.EpochNames.{name_eq}
use Rattle.rls_ident.specs.Lists.{IsIn, AreIn}
use Rattle.rls_ident.proofs.Lists.{then_equal}
use Rattle.rls_ident.proofs.Members.{bool_cases, less_is, or_left, or_right, or_split}
use Rattle.rls_rename.specs.Renaming.{Renaming}
use Rattle.rls_rename.specs.Tree.{Node, name_of, is_of, has_node, is_kept, AreNodes, AreBelow, path, renaming_cmp, epoch_cmp, later_of, greatest_from, names, greatest, along, translate}
use Rattle.rls_rename.proofs.Kept.{kept_more, greatest_kept}
use Rattle.rls_rename.proofs.Paths.{name_eq_is, name_eq_refl}
use Rattle.rls_rename.proofs.Growth.{path_other, path_child, kept_other}

-- ---- names

pub node_named : (n : Node) (ns : List Node) → IsIn n ns → has_node ns (name_of n.renaming) ≡ true
node_named n [] p = absurd p
node_named n (m ∷ ns) (inl e) = or_left (is_of m (name_of n.renaming)) (has_node ns (name_of n.renaming)) (ap (λ (k : Node). name_eq (name_of k.renaming) (name_of n.renaming)) e ∙ name_eq_refl (name_of n.renaming))
node_named n (m ∷ ns) (inr p) = or_right (is_of m (name_of n.renaming)) (has_node ns (name_of n.renaming)) (node_named n ns p)

pub parent_kept : (top : EpochName) (n : Node) (ns : List Node) → AreBelow top ns → IsIn n ns → is_kept top ns n.parent ≡ true
parent_kept top n [] b p = absurd p
parent_kept top n (m ∷ ns) b (inl e) = subst (λ (k : Node). is_kept top (m ∷ ns) k.parent ≡ true) e (kept_more top m ns m.parent b.0)
parent_kept top n (m ∷ ns) b (inr p) = kept_more top m ns n.parent (parent_kept top n ns b.2 p)

path_none : (e : EpochName) → path [] e ≡ []
unfolding path
path_none e = refl

pub path_top : (top : EpochName) (ns : List Node) → AreBelow top ns → path ns top ≡ []
path_top top [] b = path_none top
path_top top (m ∷ ns) b = path_other m ns top b.1 ∙ path_top top ns b.2

-- a node's path is its parent's with its renaming
pub path_member : (top : EpochName) (n : Node) (ns : List Node) → AreNodes ns → AreBelow top ns → IsIn n ns → path ns (name_of n.renaming) ≡ path ns n.parent ++ (n.renaming ∷ [])
path_member top n [] d b p = absurd p
path_member top n (m ∷ ns) d b (inl e) =
    let P : Node → Type 0 = λ k. path (m ∷ ns) (name_of k.renaming) ≡ path (m ∷ ns) k.parent ++ (k.renaming ∷ []) in
    let h : P m = path_child m ns (name_of m.renaming) (name_eq_refl (name_of m.renaming)) ∙ ap (λ q. q ++ (m.renaming ∷ [])) (sym (path_other m ns m.parent (kept_other top m ns m.parent d b b.0))) in
    subst P e h
path_member top n (m ∷ ns) d b (inr p) =
    let k : is_kept top ns (name_of n.renaming) ≡ true = or_right (name_eq (name_of n.renaming) top) (has_node ns (name_of n.renaming)) (node_named n ns p) in
    path_other m ns (name_of n.renaming) (kept_other top m ns (name_of n.renaming) d b k)
    ∙ (path_member top n ns d.2 b.2 p
    ∙ ap (λ q. q ++ (n.renaming ∷ [])) (sym (path_other m ns n.parent (kept_other top m ns n.parent d b (parent_kept top n ns b.2 p)))))

-- ---- a tree within a tree

-- what is kept in the smaller one has the same path in the greater one
pub path_within : (top : EpochName) (A B : List Node) → AreNodes A → AreBelow top A → AreNodes B → AreBelow top B → AreIn A B → (e : EpochName) → is_kept top A e ≡ true → path A e ≡ path B e
path_within top [] B d b f g i e k =
    ⊎_elim (λ h. let q = name_eq_is e top h in ap (path []) q ∙ (path_top top [] tt ∙ (sym (path_top top B g) ∙ ap (path B) (sym q)))) (λ h. absurd (cc)) (or_split (name_eq e top) false k)
path_within top (n ∷ A) B d b f g i e k =
    bool_cases (is_of n e)
    (λ h. let q = name_eq_is (name_of n.renaming) e h in
    path_child n A e h
    ∙ (ap (λ p. p ++ (n.renaming ∷ [])) (path_within top A B d.2 b.2 f g i.1 n.parent b.0)
    ∙ (sym (path_member top n B f g i.0) ∙ ap (path B) q)))
    (λ h. path_other n A e h ∙ path_within top A B d.2 b.2 f g i.1 e (sym (ap (λ c. name_eq e top || (c || has_node A e)) h) ∙ k))

pub kept_within : (top : EpochName) (A B : List Node) → AreIn A B → (e : EpochName) → is_kept top A e ≡ true → is_kept top B e ≡ true
kept_within top [] B i e k = ⊎_elim (λ h. or_left (name_eq e top) (has_node B e) h) (λ h. absurd (cc)) (or_split (name_eq e top) false k)
kept_within top (n ∷ A) B i e k =
    bool_cases (is_of n e)
    (λ h. or_right (name_eq e top) (has_node B e) (ap (has_node B) (sym (name_eq_is (name_of n.renaming) e h)) ∙ node_named n B i.0))
    (λ h. kept_within top A B i.1 e (sym (ap (λ c. name_eq e top || (c || has_node A e)) h) ∙ k))

pub translate_within : (top : EpochName) (A B : List Node) → AreNodes A → AreBelow top A → AreNodes B → AreBelow top B → AreIn A B → (e f : EpochName) (x : List Tuple) → is_kept top A e ≡ true → is_kept top A f ≡ true →
    translate A e f x ≡ translate B e f x
unfolding translate
translate_within top A B d b f g i e h x k l =
    ap (λ p. along p (path A h) x) (path_within top A B d b f g i e k) ∙ ap (λ p. along (path B e) p x) (path_within top A B d b f g i h l)

-- ---- the order of the epochs

pub renaming_total : IsTotalOrder renaming_cmp
renaming_total = then_total (on_total (λ R. R.replica) nat_cmp_total) (on_total (λ R. R.seq) nat_cmp_total)

-- equal paths have equal names
pub same_names : (p q : List Renaming) → slice_cmp renaming_cmp p q ≡ Equal → map name_of p ≡ map name_of q
same_names [] [] h = refl
same_names [] (S ∷ q) h = absurd (cc)
same_names (R ∷ p) [] h = absurd (cc)
same_names (R ∷ p) (S ∷ q) h =
    let e = then_equal (renaming_cmp R S) (slice_cmp renaming_cmp p q) h in
    let f = then_equal (nat_cmp R.replica S.replica) (nat_cmp R.seq S.seq) e.0 in
    let a = nat_cmp-IsAntisymmetric R.replica S.replica f.0 in
    let b = nat_cmp-IsAntisymmetric R.seq S.seq f.1 in
    let c = same_names p q e.1 in
    let d : name_of R ≡ name_of S = cc in
    cc

last_or : EpochName → List EpochName → EpochName
last_or top [] = top
last_or top (e ∷ es) = last_or e es

last_end : (top : EpochName) (Rs : List Renaming) (R : Renaming) → last_or top (map name_of (Rs ++ (R ∷ []))) ≡ name_of R
unfolding last_or
last_end top [] R = refl
last_end top (S ∷ Rs) R = last_end (name_of S) Rs R

-- a kept epoch is the last name of its path
path_last : (top : EpochName) (ns : List Node) → AreNodes ns → AreBelow top ns → (e : EpochName) → is_kept top ns e ≡ true → last_or top (map name_of (path ns e)) ≡ e
unfolding last_or
path_last top [] d b e k =
    ⊎_elim (λ h. let q = name_eq_is e top h in ap (λ p. last_or top (map name_of p)) (ap (path []) q ∙ path_top top [] tt) ∙ sym q) (λ h. absurd (cc)) (or_split (name_eq e top) false k)
path_last top (n ∷ ns) d b e k =
    bool_cases (is_of n e)
    (λ h. ap (λ p. last_or top (map name_of p)) (path_child n ns e h) ∙ (last_end top (path ns n.parent) n.renaming ∙ name_eq_is (name_of n.renaming) e h))
    (λ h. ap (λ p. last_or top (map name_of p)) (path_other n ns e h) ∙ path_last top ns d.2 b.2 e (sym (ap (λ c. name_eq e top || (c || has_node ns e)) h) ∙ k))

-- equal in the order, equal
pub epoch_same : (top : EpochName) (ns : List Node) → AreNodes ns → AreBelow top ns → (e f : EpochName) → is_kept top ns e ≡ true → is_kept top ns f ≡ true → epoch_cmp ns e f ≡ Equal → e ≡ f
epoch_same top ns d b e f k l h = sym (path_last top ns d b e k) ∙ (ap (last_or top) (same_names (path ns e) (path ns f) h) ∙ path_last top ns d b f l)

-- ---- the greatest epoch

pub paths_total : IsTotalOrder (slice_cmp renaming_cmp)
paths_total = lists_total renaming_total

-- g is less than none of these
abbrev pub IsTop : List Node → EpochName → List EpochName → Type 0
IsTop ns g [] = Unit {0}
IsTop ns g (f ∷ fs) = (epoch_cmp ns g f ≡ Less → ⊥) × IsTop ns g fs

-- what is less than f is less than e, where e isn't less than f
through : (ns : List Node) (g e f : EpochName) → (o : Ordering) → epoch_cmp ns e f ≡ o → is_lt o ≡ false → epoch_cmp ns g f ≡ Less → epoch_cmp ns g e ≡ Less
through ns g e f Less h k l = absurd (cc)
through ns g e f Equal h k l =
    paths_total.antisymm (path ns g) (path ns e)
    ∙ (ap ordering_reverse (paths_total.congr (path ns e) (path ns f) (path ns g) h)
    ∙ (sym (paths_total.antisymm (path ns g) (path ns f)) ∙ l))
through ns g e f Greater h k l =
    paths_total.trans (path ns g) (path ns f) (path ns e) l (paths_total.antisymm (path ns f) (path ns e) ∙ ap ordering_reverse h)

pub from_top : (ns : List Node) (e : EpochName) (fs : List EpochName) → (epoch_cmp ns (greatest_from ns e fs) e ≡ Less → ⊥) × IsTop ns (greatest_from ns e fs) fs
from_top ns e [] = ((λ h. irrefl h), tt)
  where
    irrefl : epoch_cmp ns e e ≡ Less → ⊥
    irrefl h = let k = paths_total.antisymm (path ns e) (path ns e) ∙ ap ordering_reverse h in cc
from_top ns e (f ∷ fs) = go (is_lt (epoch_cmp ns e f)) refl (from_top ns (later_of ns e f) fs)
  where
    G : EpochName
    G = greatest_from ns (later_of ns e f) fs

    go : (b : Bool) → is_lt (epoch_cmp ns e f) ≡ b → (epoch_cmp ns G (later_of ns e f) ≡ Less → ⊥) × IsTop ns G fs → (epoch_cmp ns G e ≡ Less → ⊥) × ((epoch_cmp ns G f ≡ Less → ⊥) × IsTop ns G fs)
    go true h p =
        let q : later_of ns e f ≡ f = ap (λ b. if b then f else e) h in
        let r : epoch_cmp ns G f ≡ Less → ⊥ = λ l. p.0 (ap (epoch_cmp ns G) q ∙ l) in
        ((λ l. r (paths_total.trans (path ns G) (path ns e) (path ns f) l (less_is (epoch_cmp ns e f) h))), (r, p.1))
    go false h p =
        let q : later_of ns e f ≡ e = ap (λ b. if b then f else e) h in
        let r : epoch_cmp ns G e ≡ Less → ⊥ = λ l. p.0 (ap (epoch_cmp ns G) q ∙ l) in
        (r, ((λ l. r (through ns G e f (epoch_cmp ns e f) refl h l)), p.1))

pub top_at : (ns : List Node) (g f : EpochName) (fs : List EpochName) → IsTop ns g fs → IsIn f fs → epoch_cmp ns g f ≡ Less → ⊥
top_at ns g f [] t p l = p
top_at ns g f (h ∷ fs) t (inl e) l = t.0 (ap (epoch_cmp ns g) e ∙ l)
top_at ns g f (h ∷ fs) t (inr p) l = top_at ns g f fs t.1 p l

pub name_in : (ns : List Node) (e : EpochName) → has_node ns e ≡ true → IsIn e (names ns)
name_in [] e h = absurd (cc)
name_in (n ∷ ns) e h = ⊎_elim (λ k. inl (name_eq_is (name_of n.renaming) e k)) (λ k. inr (name_in ns e k)) (or_split (is_of n e) (has_node ns e) h)

-- no kept epoch is greater
pub greatest_top : (top : EpochName) (ns : List Node) (e : EpochName) → is_kept top ns e ≡ true → epoch_cmp ns (greatest top ns) e ≡ Less → ⊥
unfolding greatest
greatest_top top ns e k l =
    let t = from_top ns top (names ns) in
    ⊎_elim (λ h. t.0 (ap (epoch_cmp ns (greatest_from ns top (names ns))) (sym (name_eq_is e top h)) ∙ l)) (λ h. top_at ns (greatest_from ns top (names ns)) e (names ns) t.1 (name_in ns e h) l) (or_split (name_eq e top) (has_node ns e) k)

pub tied : (o : Ordering) → (o ≡ Less → ⊥) → (ordering_reverse o ≡ Less → ⊥) → o ≡ Equal
tied Less h k = absurd (h refl)
tied Equal h k = refl
tied Greater h k = absurd (k refl)

-- and the greatest is the same in both
pub greatest_same : (top : EpochName) (A B : List Node) → AreNodes A → AreBelow top A → AreNodes B → AreBelow top B → AreIn A B → AreIn B A → greatest top A ≡ greatest top B
greatest_same top A B d b f g i j =
    let x = greatest top A in
    let y = greatest top B in
    let kx = greatest_kept top A in
    let ky = kept_within top B A j y (greatest_kept top B) in
    let lx = kept_within top A B i x kx in
    let h : epoch_cmp B y x ≡ Less → ⊥ = greatest_top top B x lx in
    let e : epoch_cmp B y x ≡ epoch_cmp A y x =
    ap (λ p. slice_cmp renaming_cmp p (path B x)) (sym (path_within top A B d b f g i y ky)) ∙ ap (λ p. slice_cmp renaming_cmp (path A y) p) (sym (path_within top A B d b f g i x kx)) in
    epoch_same top A d b x y kx ky
    (tied (epoch_cmp A x y) (greatest_top top A y ky) (λ l. h (e ∙ (paths_total.antisymm (path A y) (path A x) ∙ l))))
