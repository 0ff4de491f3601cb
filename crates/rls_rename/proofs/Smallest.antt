-- What is spanned is the smallest connected part, and a window computes what the whole does.
use Rattle.std.proofs.Common.{◌≡◌, ℕ, zero, suc, true, List, [], ◌∷◌, ◌++◌, length, refl, sym, ap, ◌∙◌, subst, inl, inr, ⊎_elim, arith, length-append}
use Rattle.rls_ident.specs.declared.epoch_name.EpochName.{EpochName}
use Rattle.rls_ident.specs.EpochNames.{name_eq}
use Rattle.rls_ident.specs.Lists.{IsIn}
use Rattle.rls_ident.proofs.Members.{bool_cases, or_right, or_split, each_in, are_in}
use Rattle.rls_rename.specs.Renaming.{Renaming}
use Rattle.rls_rename.specs.Tree.{Node, Epochs, name_of, has_node, is_kept, AreNodes, IsTree, path}
use Rattle.rls_rename.specs.Connected.{top_path, spanned, AreConnected, AreKept, AreRising}
use Rattle.rls_rename.specs.Keeping.{end_of, kept_nodes, part}
use Rattle.rls_rename.specs.Laws.{Spanned, WindowSame}
use Rattle.rls_rename.proofs.Paths.{name_eq_is, name_eq_refl}
use Rattle.rls_rename.proofs.SameNodes.{node_named, path_top, path_member}
use Rattle.rls_rename.proofs.Hull.{IsFront, front_refl, front_trans, front_none, IsPart, path_same, node_at, in_spanned, spanned_in, needed_spanned, spanned_top, top_spanned, spanned_part, spanned_least}
use Rattle.rls_rename.proofs.Windows.{window_of, translate_window, cmp_window, greatest_window, within_window}
use Rattle.rls_rename.proofs.Ordered.{Rises, spanned_rises, spanned_same}

-- ---- connected epochs are a part

twice : (k : Node) (ns : List Node) → AreNodes (k ∷ ns) → (n : Node) → IsIn n ns → name_of k.renaming ≡ name_of n.renaming → ⊥
twice k ns d n p e = let x = ap (has_node ns) e ∙ node_named n ns p in let y = d.1 in absurd (cc)

-- the node of a name is one
one_node : (ns : List Node) → AreNodes ns → (m n : Node) → IsIn m ns → IsIn n ns → name_of m.renaming ≡ name_of n.renaming → m ≡ n
one_node [] d m n p q e = absurd p
one_node (k ∷ ns) d m n (inl a) (inl b) e = sym a ∙ b
one_node (k ∷ ns) d m n (inl a) (inr q) e = absurd (twice k ns d n q (ap (λ (l : Node). name_of l.renaming) a ∙ e))
one_node (k ∷ ns) d m n (inr p) (inl b) e = absurd (twice k ns d m p (ap (λ (l : Node). name_of l.renaming) b ∙ sym e))
one_node (k ∷ ns) d m n (inr p) (inr q) e = one_node ns d.2 m n p q e

-- each lies below the topmost one
lies_below : (E : Epochs) → IsTree E → (u : EpochName) (fs : List EpochName) → AreConnected E u fs → (k : ℕ) (f : EpochName) → IsIn f fs → length (path E.nodes f) ≡ k → IsFront (path E.nodes u) (path E.nodes f)
lies_below E t u fs c zero f p l =
    bool_cases (name_eq f u) (λ h. subst (λ g. IsFront (path E.nodes u) (path E.nodes g)) (sym (name_eq_is f u h)) (front_refl (path E.nodes u)))
    (λ h. absurd (not_first (c.2 f p (λ e. let x = ap (λ g. name_eq g u) e ∙ name_eq_refl u in absurd (cc)))))
  where
    not_first : (n : Node) × IsIn n E.nodes × (name_of n.renaming ≡ f) × IsIn n.parent fs → ⊥
    not_first r =
        let a = ap length (sym (ap (path E.nodes) r.2) ∙ path_member E.top r.0 E.nodes t.0 t.1 r.1) in
        let b = length-append (path E.nodes (r.0).parent) ((r.0).renaming ∷ []) in
        absurd (omega arith)
lies_below E t u fs c (suc k) f p l =
    bool_cases (name_eq f u) (λ h. subst (λ g. IsFront (path E.nodes u) (path E.nodes g)) (sym (name_eq_is f u h)) (front_refl (path E.nodes u)))
    (λ h. up (c.2 f p (λ e. let x = ap (λ g. name_eq g u) e ∙ name_eq_refl u in absurd (cc))) (λ g q m. lies_below E t u fs c k g q m))
  where
    up : (n : Node) × IsIn n E.nodes × (name_of n.renaming ≡ f) × IsIn n.parent fs → ((g : EpochName) → IsIn g fs → length (path E.nodes g) ≡ k → IsFront (path E.nodes u) (path E.nodes g)) → IsFront (path E.nodes u) (path E.nodes f)
    up r ih =
        let e = sym (ap (path E.nodes) r.2) ∙ path_member E.top r.0 E.nodes t.0 t.1 r.1 in
        let a = ap length e in
        let b = length-append (path E.nodes (r.0).parent) ((r.0).renaming ∷ []) in
        front_trans (path E.nodes u) (path E.nodes (r.0).parent) (path E.nodes f) (ih (r.0).parent r.3 (omega arith)) ((r.0).renaming ∷ [], e)

node_kept : (E : Epochs) (n : Node) (f : EpochName) → IsIn n E.nodes → name_of n.renaming ≡ f → is_kept E.top E.nodes f ≡ true
node_kept E n f p e = or_right (name_eq f E.top) (has_node E.nodes f) (subst (λ g. has_node E.nodes g ≡ true) e (node_named n E.nodes p))

part_of : (E : Epochs) → IsTree E → (u : EpochName) (fs : List EpochName) → AreConnected E u fs → IsPart E.top E.nodes u (λ f. IsIn f fs)
part_of E t u fs c = record {
  kept = λ f p. bool_cases (name_eq f u) (λ h. subst (λ g. is_kept E.top E.nodes g ≡ true) (sym (name_eq_is f u h)) c.0)
      (λ h. let r = c.2 f p (λ e. let x = ap (λ g. name_eq g u) e ∙ name_eq_refl u in absurd (cc)) in node_kept E r.0 f r.1 r.2);
  below = λ f p. lies_below E t u fs c (length (path E.nodes f)) f p refl;
  parents = λ n p q v.
      let r = c.2 (name_of n.renaming) q v in
      subst (λ (m : Node). IsIn m.parent fs) (one_node E.nodes t.0 r.0 n r.1 p r.2) r.3;
}

-- ---- and a part is connected

connected_of : (E : Epochs) → IsTree E → (u : EpochName) (fs : List EpochName) → IsIn u fs → IsPart E.top E.nodes u (λ f. IsIn f fs) → AreConnected E u fs
connected_of E t u fs p c = (c.kept u p, p, λ f q v. ⊎_elim (λ h. absurd (v (at_top f q (name_eq_is f E.top h)))) (λ h. node f q v (node_at E.nodes f h)) (or_split (name_eq f E.top) (has_node E.nodes f) (c.kept f q)))
  where
    at_top : (f : EpochName) → IsIn f fs → f ≡ E.top → f ≡ u
    at_top f q e =
        let z : path E.nodes f ≡ [] = ap (path E.nodes) e ∙ path_top E.top E.nodes t.1 in
        let n = front_none (path E.nodes u) (subst (IsFront (path E.nodes u)) z (c.below f q)) in
        path_same E.top E.nodes t.0 t.1 f u (c.kept f q) (c.kept u p) (z ∙ n)

    node : (f : EpochName) → IsIn f fs → (f ≡ u → ⊥) → (n : Node) × IsIn n E.nodes × (name_of n.renaming ≡ f) → (n : Node) × IsIn n E.nodes × (name_of n.renaming ≡ f) × IsIn n.parent fs
    node f q v r = (r.0, r.1, r.2, c.parents r.0 r.1 (subst (λ g. IsIn g fs) (sym r.2) q) (λ w. v (sym r.2 ∙ w)))

-- ---- what is spanned

rising_of : (ns : List Node) (es : List EpochName) → Rises ns es → AreRising ns es
rising_of ns [] r = tt
rising_of ns (e ∷ []) r = tt
rising_of ns (e ∷ (f ∷ es)) r = ((r.0).0, rising_of ns (f ∷ es) r.1)

pub spanned_law : Spanned
spanned_law E e es t k =
    let fs = spanned E.top E.nodes e es in
    let u = spanned_top E.top E.nodes t.0 t.1 e es (k e (inl refl)) in
    let in_u = spanned_in E.top E.nodes e es u.0 u.1 (top_spanned E.nodes t.0 e es u.0 u.2) in (
      (u.0, connected_of E t u.0 fs in_u (spanned_part E.top E.nodes t.0 t.1 e es u.0 u.1 u.2)),
      are_in (e ∷ es) fs (λ g p. spanned_in E.top E.nodes e es g (k g p) (needed_spanned E.nodes t.0 e es g p)),
      λ v gs c h. are_in fs gs (λ f p. let r = in_spanned E.top E.nodes e es f p in
          spanned_least E.top E.nodes t.0 t.1 e es v (λ g. IsIn g gs) (part_of E t v gs c) (λ g q. each_in g (e ∷ es) gs h q) f r.0 r.1),
      rising_of E.nodes fs (spanned_rises E.top E.nodes t.0 t.1 e es),
    )

-- ---- windows

pub window_law : WindowSame
window_law M E t w =
    let v = window_of M E t w in (
      λ e f x k. translate_window v e f x (k e (inl refl)) (k f (inr (inl refl))),
      λ e f k. cmp_window v e f (k e (inl refl)) (k f (inr (inl refl))),
      λ k. greatest_window v k,
      λ c k. within_window v c k,
      λ e es k. spanned_same v e es k,
    )

-- ---- keeping what is spanned

end_append : (top : EpochName) (p : List Renaming) (R : Renaming) → end_of top (p ++ (R ∷ [])) ≡ name_of R
end_append top [] R = refl
end_append top (S ∷ p) R = end_append (name_of S) p R

-- a path leads to its epoch
pub path_end : (E : Epochs) → IsTree E → (f : EpochName) → is_kept E.top E.nodes f ≡ true → end_of E.top (path E.nodes f) ≡ f
path_end E t f k =
    ⊎_elim (λ h. let e = name_eq_is f E.top h in ap (end_of E.top) (ap (path E.nodes) e ∙ path_top E.top E.nodes t.1) ∙ sym e)
    (λ h. let r = node_at E.nodes f h in
    ap (end_of E.top) (ap (path E.nodes) (sym r.2) ∙ path_member E.top r.0 E.nodes t.0 t.1 r.1) ∙ (end_append E.top (path E.nodes (r.0).parent) (r.0).renaming ∙ r.2))
    (or_split (name_eq f E.top) (has_node E.nodes f) k)

-- what is spanned, with its own topmost epoch
pub part_is : (E : Epochs) → IsTree E → (e : EpochName) (es : List EpochName) → AreKept E (e ∷ es) →
    (u : EpochName) × (is_kept E.top E.nodes u ≡ true) × (path E.nodes u ≡ top_path E.nodes e es) × (record { top = u; nodes = kept_nodes E.nodes e es } ≡ part E e es)
unfolding part
part_is E t e es k =
    let u = spanned_top E.top E.nodes t.0 t.1 e es (k e (inl refl)) in (
      u.0,
      u.1,
      u.2,
      ap (λ v. record { top = v; nodes = kept_nodes E.nodes e es }) (sym (path_end E t u.0 u.1) ∙ ap (end_of E.top) u.2),
    )
