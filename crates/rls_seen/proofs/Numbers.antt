-- After dropping, what is kept has the numbers of what is retained.
use Rattle.std.proofs.Common.{◌≡◌, ℕ, suc, ◌+◌, ◌||◌, not, Bool, true, false, cond, List, [], ◌∷◌, length, map, refl, sym, ap, ◌∙◌, subst, arith, inl, inr, ⊎_elim}
use Rattle.std.specs.Prelude.{filter, fold, sum_by}
use Rattle.rls_ident.specs.declared.epoch_name.EpochName.{EpochName}
use Rattle.rls_ident.specs.EpochNames.{name_eq}
use Rattle.rls_ident.specs.Lists.{IsIn}
use Rattle.rls_ident.proofs.Members.{bool_cases, not_true, same_bool, and_left, and_true, or_left, or_right, or_split}
use Rattle.rls_rename.specs.Renaming.{Renaming}
use Rattle.rls_rename.specs.Tree.{Node, AreNodes, AreBelow, name_of, has_node, is_kept, names, path}
use Rattle.rls_rename.specs.Connected.{begins_with, top_path, is_spanned, spanned, spanned_renamings}
use Rattle.rls_rename.specs.Keeping.{is_below, kept_nodes, part}
use Rattle.rls_rename.proofs.Hull.{IsFront, front_none, path_same, spanned_is, spanned_top, top_spanned}
use Rattle.rls_rename.proofs.Paths.{name_eq_is, name_eq_refl}
use Rattle.rls_rename.proofs.SameNodes.{node_named, path_top}
use Rattle.rls_rename.proofs.Windows.{kept-renamings, low_or_top, stays_is}
use Rattle.rls_rename.proofs.Ordered.{length-in_order}
use Rattle.rls_seen.specs.Seen.{Seen, greatest_over, unstable_over}
use Rattle.rls_seen.specs.Kept.{needed_over, dropped, retained_over, kept_operations, kept_epochs, kept_former}
use Rattle.rls_seen.specs.Sane.{IsSane}
use Rattle.rls_seen.proofs.Dropped.{needed_kept}

-- ---- sums and lengths

sum_map : {A B : Type 0} (f : B → ℕ) (g : A → B) (xs : List A) → sum_by f (map g xs) ≡ sum_by (λ x. f (g x)) xs
sum_map {A} f g xs = go 0 xs
  where
    go : (n : ℕ) (ys : List A) → fold (λ a x. a + f x) n (map g ys) ≡ fold (λ a x. a + f (g x)) n ys
    go n [] = refl
    go n (y ∷ ys) = go (n + f (g y)) ys

-- ---- the topmost of a part is one

-- a node of the part is its topmost or lies below it
spanned_node : (ns : List Node) → AreNodes ns → (e : EpochName) (es : List EpochName) (u : EpochName) (top : EpochName) → AreBelow top ns → is_kept top ns u ≡ true → path ns u ≡ top_path ns e es → (n : Node) → IsIn n ns
    → is_spanned ns e es (name_of n.renaming) ≡ (name_eq (name_of n.renaming) u || is_below ns e es n)
spanned_node ns d e es u top b k p n q =
    let f = name_of n.renaming in
    same_bool (is_spanned ns e es f) (name_eq f u || is_below ns e es n)
    (λ h. ⊎_elim
    (λ r. or_left (name_eq f u) (is_below ns e es n) (ap (name_eq f) (sym (path_same top ns d b f u (or_right (name_eq f top) (has_node ns f) (node_named n ns q)) k (r ∙ sym p))) ∙ name_eq_refl f))
    (λ r. or_right (name_eq f u) (is_below ns e es n) (and_true (is_spanned ns e es f) (not (begins_with (top_path ns e es) (path ns f))) h (ap not r)))
    (low_or_top ns d e es f h))
    (λ h. ⊎_elim
    (λ r. subst (λ g. is_spanned ns e es g ≡ true) (sym (name_eq_is f u r)) (top_spanned ns d e es u p))
    (λ r. and_left (is_spanned ns e es f) (not (begins_with (top_path ns e es) (path ns f))) r)
    (or_split (name_eq f u) (is_below ns e es n) h))

-- the topmost itself doesn't lie below
top_not_below : (ns : List Node) (e : EpochName) (es : List EpochName) (n : Node) → path ns (name_of n.renaming) ≡ top_path ns e es → is_below ns e es n ≡ false
top_not_below ns e es n p = not_true (is_below ns e es n) (λ h. (stays_is ns e es n h).1 p)

one_if : Bool → ℕ
one_if true = 1
one_if false = 0

-- how many names are spanned, by how many nodes lie below the topmost
count_names : (ns : List Node) (e : EpochName) (es : List EpochName) (u : EpochName) → path ns u ≡ top_path ns e es
    → ((n : Node) → IsIn n ns → is_spanned ns e es (name_of n.renaming) ≡ (name_eq (name_of n.renaming) u || is_below ns e es n))
    → (ms : List Node) → AreNodes ms → ((n : Node) → IsIn n ms → IsIn n ns)
    → length (filter (is_spanned ns e es) (names ms)) ≡ one_if (has_node ms u) + length (filter (is_below ns e es) ms)
unfolding one_if
count_names ns e es u p f [] d i = omega arith
count_names ns e es u p f (m ∷ ms) d i =
    let ih = count_names ns e es u p f ms d.2 (λ n q. i n (inr q)) in
    let g = name_of m.renaming in
    bool_cases (name_eq g u)
    (λ h.
    let q : g ≡ u = name_eq_is g u h in
    let s : is_spanned ns e es g ≡ true = f m (i m (inl refl)) ∙ or_left (name_eq g u) (is_below ns e es m) h in
    let b = top_not_below ns e es m (ap (path ns) q ∙ p) in
    let o : has_node ms u ≡ false = ap (has_node ms) (sym q) ∙ d.1 in
    let l : length (filter (is_spanned ns e es) (names (m ∷ ms))) ≡ suc (length (filter (is_spanned ns e es) (names ms))) = ap (λ c. length (cond c (g ∷ filter (is_spanned ns e es) (names ms)) (filter (is_spanned ns e es) (names ms)))) s in
    let r : length (filter (is_below ns e es) (m ∷ ms)) ≡ length (filter (is_below ns e es) ms) = ap (λ c. length (cond c (m ∷ filter (is_below ns e es) ms) (filter (is_below ns e es) ms))) b in
    let x : one_if (has_node (m ∷ ms) u) ≡ 1 = ap (λ c. one_if (c || has_node ms u)) h in
    let y : one_if (has_node ms u) ≡ 0 = ap one_if o in
    omega arith)
    (λ h.
    let s : is_spanned ns e es g ≡ is_below ns e es m = f m (i m (inl refl)) ∙ ap (λ c. c || is_below ns e es m) h in
    let x : one_if (has_node (m ∷ ms) u) ≡ one_if (has_node ms u) = ap (λ c. one_if (c || has_node ms u)) h in
    ap (λ c. length (cond c (g ∷ filter (is_spanned ns e es) (names ms)) (filter (is_spanned ns e es) (names ms)))) s
    ∙ step (is_below ns e es m) x ih)
  where
    step : {k : ℕ} (c : Bool) → k ≡ one_if (has_node ms u)
        → length (filter (is_spanned ns e es) (names ms)) ≡ one_if (has_node ms u) + length (filter (is_below ns e es) ms)
        → length (cond c (name_of m.renaming ∷ filter (is_spanned ns e es) (names ms)) (filter (is_spanned ns e es) (names ms))) ≡ k + length (cond c (m ∷ filter (is_below ns e es) ms) (filter (is_below ns e es) ms))
    step true x ih = omega arith
    step false x ih = omega arith

-- the topmost epoch of all is spanned just where it is the topmost of the part
first_spanned : (top : EpochName) (ns : List Node) → AreNodes ns → AreBelow top ns → (e : EpochName) (es : List EpochName) (u : EpochName) → is_kept top ns u ≡ true → path ns u ≡ top_path ns e es
    → is_spanned ns e es top ≡ name_eq u top
first_spanned top ns d b e es u k p =
    same_bool (is_spanned ns e es top) (name_eq u top)
    (λ h.
    let r = (spanned_is ns d e es top h).0 in
    let z = front_none (top_path ns e es) (subst (IsFront (top_path ns e es)) (path_top top ns b) r) in
    let q : u ≡ top = path_same top ns d b u top k (or_left (name_eq top top) (has_node ns top) (name_eq_refl top)) (p ∙ (sym z ∙ sym (path_top top ns b))) in
    ap (λ x. name_eq x top) q ∙ name_eq_refl top)
    (λ h. subst (λ x. is_spanned ns e es x ≡ true) (name_eq_is u top h) (top_spanned ns d e es u p))

pub length-spanned : (top : EpochName) (ns : List Node) → AreNodes ns → AreBelow top ns → (e : EpochName) (es : List EpochName) → is_kept top ns e ≡ true → length (spanned top ns e es) ≡ suc (length (kept_nodes ns e es))
unfolding spanned one_if
length-spanned top ns d b e es k =
    let u = spanned_top top ns d b e es k in
    let found : List EpochName = filter (is_spanned ns e es) (names ns) in
    let c = count_names ns e es u.0 u.2 (spanned_node ns d e es u.0 top b u.1 u.2) ns d (λ n q. q) in
    length-in_order ns (filter (is_spanned ns e es) (top ∷ names ns))
    ∙ (ap (λ x. length (cond x (top ∷ found) found)) (first_spanned top ns d b e es u.0 u.1 u.2)
    ∙ one found (name_eq u.0 top) (has_node ns u.0) (exclusive u.0) u.1 c)
  where
    exclusive : (u : EpochName) → name_eq u top ≡ true → has_node ns u ≡ false
    exclusive u h = ap (has_node ns) (name_eq_is u top h) ∙ top_none ns b
      where
        top_none : (ms : List Node) → AreBelow top ms → has_node ms top ≡ false
        top_none [] c = refl
        top_none (m ∷ ms) c = ap (λ x. x || has_node ms top) c.1 ∙ top_none ms c.2

    one : {m : ℕ} (fs : List EpochName) (x y : Bool) → (x ≡ true → y ≡ false) → (x || y) ≡ true → length fs ≡ one_if y + m → length (cond x (top ∷ fs) fs) ≡ suc m
    one fs true true g h c = let q = g refl in absurd (cc)
    one fs true false g h c = omega arith
    one fs false true g h c = omega arith
    one fs false false g h c = absurd (cc)

-- ---- after dropping

pub kept_operations_dropped : (s : Seen) → kept_operations (dropped s) ≡ length (unstable_over s)
unfolding dropped
kept_operations_dropped s = refl

pub kept_epochs_dropped : (s : Seen) → IsSane s → kept_epochs (dropped s) ≡ length (retained_over s)
unfolding dropped part retained_over
kept_epochs_dropped s sane = sym (length-spanned s.epochs.top s.epochs.nodes sane.epochs.nodes sane.epochs.below (greatest_over s) (needed_over s) (needed_kept s sane (greatest_over s) (inl refl)))

pub kept_former_dropped : (s : Seen) → kept_former (dropped s) ≡ sum_by (λ R. length R.former) (spanned_renamings s.epochs.nodes (greatest_over s) (needed_over s))
unfolding dropped part
kept_former_dropped s =
    let f : Renaming → ℕ = λ R. length R.former in
    sym (ap (sum_by f) (kept-renamings s.epochs.nodes (greatest_over s) (needed_over s)) ∙ sum_map f (λ (n : Node). n.renaming) (kept_nodes s.epochs.nodes (greatest_over s) (needed_over s)))
