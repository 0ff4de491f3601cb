-- How many former identifiers are retained can be told from a window that keeps the retained epochs.
use Rattle.std.proofs.Common.{◌≡◌, ℕ, ◌+◌, true, List, [], ◌∷◌, ◌++◌, map, length, refl, sym, ap, ◌∙◌, subst, inl, inr, ⊎_elim, arith, append_assoc}
use Rattle.std.specs.Prelude.{not, fold, sum_by, Some}
use Rattle.rls_ident.specs.declared.epoch_name.EpochName.{EpochName}
use Rattle.rls_ident.specs.declared.epoch_name.EpochName.TheVariants.{Origin}
use Rattle.rls_ident.specs.EpochNames.{name_eq}
use Rattle.rls_ident.specs.Lists.{IsIn}
use Rattle.rls_ident.proofs.Members.{AreOnce, once_filter, or_right, or_split, and_true, in_left, in_right, in_split, in_filter, filter_in, each_in}
use Rattle.rls_rename.specs.Renaming.{Renaming}
use Rattle.rls_rename.specs.Tree.{Node, name_of, has_node, is_kept, AreNodes, AreBelow, path}
use Rattle.rls_rename.specs.Tree as tree
use Rattle.rls_rename.specs.Connected.{top_path, is_spanned, spanned, spanned_renamings}
use Rattle.rls_rename.specs.Keeping.{is_below, kept_nodes}
use Rattle.rls_rename.proofs.Hull.{IsFront, spanned_is, spanned_top, top_spanned, path_same, node_at, in_spanned, spanned_in}
use Rattle.rls_rename.proofs.Paths.{name_eq_is}
use Rattle.rls_rename.proofs.SameNodes.{node_named}
use Rattle.rls_rename.proofs.Windows.{kept_window, path_window, both_fronts, low_or_top, stays_is, kept-renamings}
use Rattle.rls_model.specs.History.{History}
use Rattle.rls_model.specs.Stability.{stable, unstable}
use Rattle.rls_model.specs.Epochs.{epochs, greatest}
use Rattle.rls_model.specs.Legal.{IsLegal}
use Rattle.rls_model.specs.Parts.{node_of}
use Rattle.rls_model.specs.Retained.{needed, retained, retained_renamings}
use Rattle.rls_model.proofs.Dropping.{Keeps, needed_over, over_kept, retained_same, retained_kept}
use Rattle.rls_model.proofs.Later.{IsTopmost, topmost_path}
use Rattle.rls_model.proofs.WindowAnswers.{named_once, node_found}

-- ---- sums over lists with the same elements

total : (Node → ℕ) → List Node → ℕ
total f [] = 0
total f (n ∷ ns) = f n + total f ns

split_at : (x : Node) (ys : List Node) → IsIn x ys → (a : List Node) × (b : List Node) × (ys ≡ a ++ (x ∷ b))
split_at x [] p = absurd p
split_at x (y ∷ ys) (inl e) = ([], ys, ap (λ z. z ∷ ys) e)
split_at x (y ∷ ys) (inr p) = let r = split_at x ys p in (y ∷ r.0, r.1, ap (λ zs. y ∷ zs) r.2)

total_middle : (f : Node → ℕ) (a b : List Node) (x : Node) → total f (a ++ (x ∷ b)) ≡ f x + total f (a ++ b)
unfolding total
total_middle f [] b x = refl
total_middle f (y ∷ a) b x = let h = total_middle f a b x in omega arith

once_middle : (a b : List Node) (x : Node) → AreOnce (a ++ (x ∷ b)) → AreOnce (a ++ b) × (IsIn x (a ++ b) → ⊥)
once_middle [] b x o = (o.1, o.0)
once_middle (y ∷ a) b x o =
    let r = once_middle a b x o.1 in (
      ((λ p. o.0 (more p)), r.0),
      λ p. ⊎_elim (λ e. o.0 (in_right y a (x ∷ b) (inl (sym e)))) r.1 p,
    )
  where
    more : IsIn y (a ++ b) → IsIn y (a ++ (x ∷ b))
    more p = ⊎_elim (λ q. in_left y a (x ∷ b) q) (λ q. in_right y a (x ∷ b) (inr q)) (in_split y a b p)

total_same : (f : Node → ℕ) (xs ys : List Node) → AreOnce xs → AreOnce ys → ((z : Node) → IsIn z xs → IsIn z ys) → ((z : Node) → IsIn z ys → IsIn z xs) → total f xs ≡ total f ys
unfolding total
total_same f [] [] o q h k = refl
total_same f [] (y ∷ ys) o q h k = absurd (k y (inl refl))
total_same f (x ∷ xs) ys o q h k =
    let r = split_at x ys (h x (inl refl)) in
    let a = r.0 in
    let b = r.1 in
    let m = once_middle a b x (subst AreOnce r.2 q) in
    let e = total_same f xs (a ++ b) o.1 m.0 (into a b (λ z p. subst (λ (zs : List Node). IsIn z zs) r.2 (h z (inr p)))) (onto a b m.1 (λ z p. k z (subst (λ (zs : List Node). IsIn z zs) (sym r.2) p))) in
    ap (λ n. f x + n) e ∙ (sym (total_middle f a b x) ∙ ap (total f) (sym r.2))
  where
    into : (a b : List Node) → ((z : Node) → IsIn z xs → IsIn z (a ++ (x ∷ b))) → (z : Node) → IsIn z xs → IsIn z (a ++ b)
    into a b g z p =
        ⊎_elim (λ s. in_left z a b s) (λ s. ⊎_elim (λ e. absurd (o.0 (subst (λ (w : Node). IsIn w xs) (sym e) p))) (λ t. in_right z a b t) s) (in_split z a (x ∷ b) (g z p))

    onto : (a b : List Node) → (IsIn x (a ++ b) → ⊥) → ((z : Node) → IsIn z (a ++ (x ∷ b)) → IsIn z (x ∷ xs)) → (z : Node) → IsIn z (a ++ b) → IsIn z xs
    onto a b n g z p =
        ⊎_elim (λ e. absurd (n (subst (λ (w : Node). IsIn w (a ++ b)) (sym e) p))) (λ t. t)
        (g z (⊎_elim (λ s. in_left z a (x ∷ b) s) (λ s. in_right z a (x ∷ b) (inr s)) (in_split z a b p)))

-- std's sum
fold_total : (f : Renaming → ℕ) (n : ℕ) (ns : List Node) → fold (λ a R. a + f R) n (map (λ m. m.renaming) ns) ≡ n + total (λ m. f m.renaming) ns
unfolding total
fold_total f n [] = omega arith
fold_total f n (m ∷ ns) = let h = fold_total f (n + f m.renaming) ns in h ∙ assoc n (f m.renaming) (total (λ k. f k.renaming) ns)
  where
    assoc : (a b c : ℕ) → (a + b) + c ≡ a + (b + c)
    assoc a b c = omega arith

sum_total : (f : Renaming → ℕ) (ns : List Node) → sum_by f (map (λ m. m.renaming) ns) ≡ total (λ m. f m.renaming) ns
sum_total f ns = fold_total f 0 ns ∙ none (total (λ m. f m.renaming) ns)
  where
    none : (n : ℕ) → 0 + n ≡ n
    none n = omega arith

-- ---- the nodes that stay

nodes_once : (ns : List Node) → AreNodes ns → AreOnce ns
nodes_once [] d = tt
nodes_once (n ∷ ns) d = ((λ p. let x = node_named n ns p in let y = d.1 in absurd (cc)), nodes_once ns d.2)

kept_once : (ns : List Node) (e : EpochName) (es : List EpochName) → AreNodes ns → AreOnce (kept_nodes ns e es)
kept_once ns e es d = once_filter (is_below ns e es) ns (nodes_once ns d)

node_kept : (top : EpochName) (ns : List Node) (n : Node) → IsIn n ns → is_kept top ns (name_of n.renaming) ≡ true
node_kept top ns n p = let h = node_named n ns p in or_right (name_eq (name_of n.renaming) top) (has_node ns (name_of n.renaming)) h

-- a node stays just if its epoch is spanned and isn't the topmost
node_stays : (top : EpochName) (ns : List Node) → AreNodes ns → AreBelow top ns → (e : EpochName) (es : List EpochName) (u : EpochName) → is_kept top ns u ≡ true → path ns u ≡ top_path ns e es →
    (n : Node) → IsIn n ns → IsIn (name_of n.renaming) (spanned top ns e es) → (name_of n.renaming ≡ u → ⊥) → IsIn n (kept_nodes ns e es)
node_stays top ns d b e es u ku h n p q v =
    let f = name_of n.renaming in
    let s = (in_spanned top ns e es f q).1 in
    ⊎_elim (λ w. absurd (v (path_same top ns d b f u (node_kept top ns n p) ku (w ∙ sym h))))
    (λ w. filter_in (is_below ns e es) n ns p (and_true (is_spanned ns e es f) _ s (ap not w)))
    (low_or_top ns d e es f s)

stays_node : (top : EpochName) (ns : List Node) → (e : EpochName) (es : List EpochName) (u : EpochName) → path ns u ≡ top_path ns e es →
    (n : Node) → IsIn n (kept_nodes ns e es) → IsIn n ns × IsIn (name_of n.renaming) (spanned top ns e es) × (name_of n.renaming ≡ u → ⊥)
stays_node top ns e es u h n p =
    let r = in_filter (is_below ns e es) n ns p in
    let s = stays_is ns e es n r.1 in
    (r.0, spanned_in top ns e es (name_of n.renaming) (node_kept top ns n r.0) s.0, λ q. s.1 (ap (path ns) q ∙ h))

some_same : (m n : Node) → Some m ≡ Some n → m ≡ n
some_same m n e = cc

-- a node of the whole whose epoch is retained and isn't the topmost is the window's
whole_node : (H : History) (U : EpochName) (A : List Node) → IsLegal H → Keeps H U A → (u : EpochName) → IsTopmost H u → (n : Node) → IsIn n (epochs H) → IsIn (name_of n.renaming) (retained H) → (name_of n.renaming ≡ u → ⊥) → IsIn n A
whole_node H U A l k u t n p q v =
    let w = k.window in
    let f = name_of n.renaming in
    ⊎_elim
    (λ h. let e = name_eq_is f U h in
    let x = t.1 f q in
    let y : IsFront (path (epochs H) U) (path (epochs H) u) = (path A u, path_window w u (k.keeps u t.0)) in
    let z = both_fronts (path (epochs H) u) (path (epochs H) U) (subst (λ g. IsFront (path (epochs H) u) (path (epochs H) g)) e x) y in
    absurd (v (e ∙ sym (path_same Origin (epochs H) w.whole w.tree u U (retained_kept H u t.0) w.first z))))
    (λ h. let r = node_at A f h in
    let m = r.0 in
    let a = node_found (epochs H) (named_once (epochs H) w.whole) m (each_in m A (epochs H) w.each r.1) in
    let b = node_found (epochs H) (named_once (epochs H) w.whole) n p in
    let e : m ≡ n = some_same m n (sym a ∙ (ap (node_of (epochs H)) r.2 ∙ b)) in
    subst (λ (z : Node). IsIn z A) e r.1)
    (or_split (name_eq f U) (has_node A f) (k.keeps f q))

of_retained : (H : History) (f : EpochName) → IsIn f (retained H) → IsIn f (spanned Origin (epochs H) (greatest H) (needed H))
unfolding retained
of_retained H f p = p

to_retained : (H : History) (f : EpochName) → IsIn f (spanned Origin (epochs H) (greatest H) (needed H)) → IsIn f (retained H)
unfolding retained
to_retained H f p = p

-- the topmost epoch by the window is the topmost one
topmost_over : (H : History) (U : EpochName) (A : List Node) → IsLegal H → Keeps H U A → (u : EpochName) → is_kept U A u ≡ true → path A u ≡ top_path A (tree.greatest U A) (needed_over U A (stable H) (unstable H)) → IsTopmost H u
topmost_over H U A l k u ku h =
    let w = k.window in
    let g = tree.greatest U A in
    let es = needed_over U A (stable H) (unstable H) in
    let same = retained_same H U A l k in (
      subst (IsIn u) same (spanned_in U A g es u ku (top_spanned A w.nodes g es u h)),
      λ f p. let r = in_spanned U A g es f (subst (IsIn f) (sym same) p) in
          let s = (spanned_is A w.nodes g es f r.1).0 in
          let q : path (epochs H) f ≡ path (epochs H) u ++ s.0 =
          path_window w f r.0 ∙ (ap (λ z. path (epochs H) U ++ z) (s.1 ∙ ap (λ z. z ++ s.0) (sym h)) ∙ (sym (append_assoc (path (epochs H) U) (path A u) s.0) ∙ ap (λ z. z ++ s.0) (sym (path_window w u ku)))) in
          (s.0, q),
    )

-- the former identifiers of the retained epochs, counted over the window
pub former_window : (H : History) (U : EpochName) (A : List Node) → IsLegal H → Keeps H U A →
    sum_by (λ R. length R.former) (spanned_renamings A (tree.greatest U A) (needed_over U A (stable H) (unstable H))) ≡ sum_by (λ R. length R.former) (retained_renamings H)
unfolding retained_renamings
former_window H U A l k =
    let w = k.window in
    let g = tree.greatest U A in
    let es = needed_over U A (stable H) (unstable H) in
    let B = epochs H in
    let c = spanned_top U A w.nodes w.below g es (over_kept H U A l k g (inl refl)) in
    let top = topmost_over H U A l k c.0 c.1 c.2 in
    let pt = topmost_path H l c.0 top in
    let kt = kept_window w c.0 c.1 in
    let f : Renaming → ℕ = λ R. length R.former in
    let same = retained_same H U A l k in
    ap (sum_by f) (kept-renamings A g es)
    ∙ (sum_total f (kept_nodes A g es)
    ∙ (total_same (λ m. f m.renaming) (kept_nodes A g es) (kept_nodes B (greatest H) (needed H)) (kept_once A g es w.nodes) (kept_once B (greatest H) (needed H) w.whole)
    (λ n p. let r = stays_node U A g es c.0 c.2 n p in
    node_stays Origin B w.whole w.tree (greatest H) (needed H) c.0 kt pt n (each_in n A B w.each r.0) (of_retained H (name_of n.renaming) (subst (IsIn (name_of n.renaming)) same r.1)) r.2)
    (λ n p. let r = stays_node Origin B (greatest H) (needed H) c.0 pt n p in
    let q = to_retained H (name_of n.renaming) r.1 in
    node_stays U A w.nodes w.below g es c.0 c.1 c.2 n (whole_node H U A l k c.0 top n r.0 q r.2) (subst (IsIn (name_of n.renaming)) (sym same) q) r.2)
    ∙ (sym (sum_total f (kept_nodes B (greatest H) (needed H))) ∙ ap (sum_by f) (sym (kept-renamings B (greatest H) (needed H))))))
