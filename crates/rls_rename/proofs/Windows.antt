-- Windows: a part of the epochs with an own topmost one computes what the whole computes, and what is spanned makes one.
use Rattle.std.proofs.Common.{◌≡◌, ℕ, Bool, true, false, List, [], ◌∷◌, ◌++◌, map, length, refl, sym, ap, ◌∙◌, subst, inl, inr, ◌⊎◌, ⊎_elim, arith, append_assoc, append-nil, length-append}
use Rattle.std.specs.Prelude.{not, cond, ◌&&◌, ◌||◌, filter, if◌then◌else◌}
use Rattle.std.specs.declared.cmp.Ordering.TheVariants.{Less}
use Rattle.std.specs.List.{list_any}
use Rattle.std.specs.Cmp.Lexicographic.{slice_cmp}
use Rattle.rls_ident.specs.declared.tuple.Tuple.{Tuple}
use Rattle.rls_ident.specs.declared.epoch_name.EpochName.{EpochName}
use Rattle.rls_ident.specs.EpochNames.{name_eq}
use Rattle.rls_ident.specs.Lists.{IsIn, AreIn}
use Rattle.rls_ident.proofs.Members.{bool_cases, not_true, not_is, or_left, or_right, or_split, and_left, and_right, and_true, in_filter, filter_in, each_in, are_in}
use Rattle.rls_ident.proofs.Agreeing.{any_same}
use Rattle.rls_rename.specs.Renaming.{Renaming}
use Rattle.rls_rename.specs.Tree.{Node, Epochs, name_of, is_of, has_node, is_kept, AreNodes, AreBelow, IsTree, IsWindow, path, renaming_cmp, epoch_cmp, greatest, greatest_within, forward_all, back_all, along, translate}
use Rattle.rls_rename.specs.Connected.{begins_with, common_prefix, common_prefix_of, top_path, is_spanned, spanned, spanned_renamings}
use Rattle.rls_rename.specs.Keeping.{is_below, kept_nodes}
use Rattle.rls_rename.proofs.Growth.{path_other, path_child}
use Rattle.rls_rename.proofs.Kept.{kept_more}
use Rattle.rls_rename.proofs.Order.{front_same, IsAllowed, within_allowed, within_top, within_is, greatest_is}
use Rattle.rls_rename.proofs.Paths.{name_eq_is, name_eq_refl, AreAmong, path-among}
use Rattle.rls_rename.proofs.SameNodes.{node_named, path_top, path_member, greatest_top}
use Rattle.rls_rename.proofs.Hull.{IsFront, front_begins, begins_front, front_among, top_front, spanned_is, path_same, front_kept, node_at, top_spanned, parent_spanned, in_spanned, spanned_in, cons_tail}

-- the nodes A below U are a part of the nodes B below top
pub record Window (U : EpochName) (A : List Node) (top : EpochName) (B : List Node) : Type 0 where
  pub nodes : AreNodes A
  pub below : AreBelow U A
  pub whole : AreNodes B
  pub tree : AreBelow top B
  pub each : AreIn A B
  pub first : is_kept top B U ≡ true

pub window_of : (M E : Epochs) → IsTree E → IsWindow M E → Window M.top M.nodes E.top E.nodes
window_of M E t w = record { nodes = (w.0).0; below = (w.0).1; whole = t.0; tree = t.1; each = w.1; first = w.2 }

pub of_window : (M E : Epochs) → Window M.top M.nodes E.top E.nodes → IsWindow M E
of_window M E w = ((w.nodes, w.below), w.each, w.first)

-- ---- what is kept, and paths

-- what is kept in the part is kept in the whole
kept_from : (U : EpochName) (A : List Node) (top : EpochName) (B : List Node) → AreIn A B → is_kept top B U ≡ true → (e : EpochName) → is_kept U A e ≡ true → is_kept top B e ≡ true
kept_from U A top B i u e k =
    ⊎_elim (λ h. ap (is_kept top B) (name_eq_is e U h) ∙ u)
    (λ h. let r = node_at A e h in or_right (name_eq e top) (has_node B e) (subst (λ f. has_node B f ≡ true) r.2 (node_named r.0 B (each_in r.0 A B i r.1))))
    (or_split (name_eq e U) (has_node A e) k)

pub kept_window : {U : EpochName} {A : List Node} {top : EpochName} {B : List Node} → Window U A top B → (e : EpochName) → is_kept U A e ≡ true → is_kept top B e ≡ true
kept_window {U = U} {A = A} {top = top} {B = B} w e k = kept_from U A top B w.each w.first e k

-- a path in the whole is that of the part's topmost epoch, and then that in the part
path_from : (U : EpochName) (A : List Node) (top : EpochName) (B : List Node) → AreNodes A → AreBelow U A → AreNodes B → AreBelow top B → AreIn A B → (e : EpochName) → is_kept U A e ≡ true → path B e ≡ path B U ++ path A e
path_from U [] top B d b f g i e k =
    ⊎_elim (λ h. let q = name_eq_is e U h in ap (path B) q ∙ (sym (append-nil (path B U)) ∙ ap (λ p. path B U ++ p) (sym (path_top U [] tt) ∙ ap (path []) (sym q)))) (λ h. absurd (cc)) (or_split (name_eq e U) false k)
path_from U (n ∷ A) top B d b f g i e k =
    bool_cases (is_of n e)
    (λ h. let q = name_eq_is (name_of n.renaming) e h in
    ap (path B) (sym q)
    ∙ (path_member top n B f g i.0
    ∙ (ap (λ p. p ++ (n.renaming ∷ [])) (path_from U A top B d.2 b.2 f g i.1 n.parent b.0)
    ∙ (append_assoc (path B U) (path A n.parent) (n.renaming ∷ []) ∙ ap (λ p. path B U ++ p) (sym (path_child n A e h))))))
    (λ h. path_from U A top B d.2 b.2 f g i.1 e (sym (ap (λ c. name_eq e U || (c || has_node A e)) h) ∙ k) ∙ ap (λ p. path B U ++ p) (sym (path_other n A e h)))

pub path_window : {U : EpochName} {A : List Node} {top : EpochName} {B : List Node} → Window U A top B → (e : EpochName) → is_kept U A e ≡ true → path B e ≡ path B U ++ path A e
path_window {U = U} {A = A} {top = top} {B = B} w e k = path_from U A top B w.nodes w.below w.whole w.tree w.each e k

pub window_trans : {U : EpochName} {A : List Node} {V : EpochName} {B : List Node} {top : EpochName} {D : List Node} → Window U A V B → Window V B top D → Window U A top D
window_trans {U = U} {A = A} {V = V} {B = B} {top = top} {D = D} v w = record {
  nodes = v.nodes;
  below = v.below;
  whole = w.whole;
  tree = w.tree;
  each = are_in A D (λ n p. each_in n B D w.each (each_in n A B v.each p));
  first = kept_window w U v.first;
}

-- ---- translation and order

along_front : (p a b : List Renaming) (x : List Tuple) → along (p ++ a) (p ++ b) x ≡ along a b x
unfolding along
along_front [] a b x = refl
along_front (R ∷ p) a b x =
    ap (λ c. if c then along (p ++ a) (p ++ b) x else forward_all (R ∷ (p ++ b)) (back_all (R ∷ (p ++ a)) x)) (name_eq_refl (name_of R)) ∙ along_front p a b x

pub translate_window : {U : EpochName} {A : List Node} {top : EpochName} {B : List Node} → Window U A top B → (e f : EpochName) (x : List Tuple) → is_kept U A e ≡ true → is_kept U A f ≡ true → translate A e f x ≡ translate B e f x
unfolding translate
translate_window {U = U} {A = A} {top = top} {B = B} w e f x k l =
    sym (ap (λ p. along p (path B f) x) (path_window w e k) ∙ (ap (λ p. along (path B U ++ path A e) p x) (path_window w f l) ∙ along_front (path B U) (path A e) (path A f) x))

pub cmp_window : {U : EpochName} {A : List Node} {top : EpochName} {B : List Node} → Window U A top B → (e f : EpochName) → is_kept U A e ≡ true → is_kept U A f ≡ true → epoch_cmp A e f ≡ epoch_cmp B e f
cmp_window {U = U} {A = A} {top = top} {B = B} w e f k l =
    sym (ap (λ p. slice_cmp renaming_cmp p (path B f)) (path_window w e k) ∙ (ap (λ p. slice_cmp renaming_cmp (path B U ++ path A e) p) (path_window w f l) ∙ front_same (path B U) (path A e) (path A f)))

-- ---- the greatest

-- no kept epoch is below the topmost
pub none_below : (U : EpochName) (A : List Node) → AreBelow U A → (e : EpochName) → epoch_cmp A e U ≡ Less → ⊥
none_below U A b e h = go (path A e) (ap (λ p. slice_cmp renaming_cmp (path A e) p) (sym (path_top U A b)) ∙ h)
  where
    go : (p : List Renaming) → slice_cmp renaming_cmp p [] ≡ Less → ⊥
    go [] q = absurd (cc)
    go (R ∷ p) q = absurd (cc)

-- the greatest epoch of the whole is that of the part, where the part keeps it
pub greatest_window : {U : EpochName} {A : List Node} {top : EpochName} {B : List Node} → Window U A top B → is_kept U A (greatest top B) ≡ true → greatest U A ≡ greatest top B
greatest_window {U = U} {A = A} {top = top} {B = B} w k =
    greatest_is U A w.nodes w.below (greatest top B) k (λ e l h. greatest_top top B e (kept_window w e l) (sym (cmp_window w (greatest top B) e k l) ∙ h))

-- so is the greatest within a vector
pub within_window : {U : EpochName} {A : List Node} {top : EpochName} {B : List Node} → Window U A top B → (v : List ℕ) → is_kept U A (greatest_within top B v) ≡ true → greatest_within U A v ≡ greatest_within top B v
within_window {U = U} {A = A} {top = top} {B = B} w v k =
    let g = greatest_within top B v in
    within_is U A v w.nodes w.below g k allowed
    (λ e l a h. ⊎_elim (λ q. none_below U A w.below g (subst (λ f. epoch_cmp A g f ≡ Less) q h)) (λ q. within_top top B v e (kept_window w e l) (inr q) (sym (cmp_window w g e k l) ∙ h)) a)
  where
    no_top : (n : Node) (ns : List Node) → AreBelow top ns → IsIn n ns → name_of n.renaming ≡ top → ⊥
    no_top n [] b p e = p
    no_top n (m ∷ ns) b (inl q) e = let x = b.1 in let y : is_of m top ≡ true = ap (λ (z : Node). name_eq (name_of z.renaming) top) q ∙ (ap (λ f. name_eq f top) e ∙ name_eq_refl top) in absurd (cc)
    no_top n (m ∷ ns) b (inr p) e = let y : is_of m top ≡ false = b.1 in no_top n ns b.2 p e

    allowed : IsAllowed U v (greatest_within top B v)
    allowed =
        ⊎_elim (λ h. inl (name_eq_is (greatest_within top B v) U h))
        (λ h. let r = node_at A (greatest_within top B v) h in
        ⊎_elim (λ q. absurd (no_top r.0 B w.tree (each_in r.0 A B w.each r.1) (r.2 ∙ q))) (λ q. inr q) (within_allowed top B v))
        (or_split (name_eq (greatest_within top B v) U) (has_node A (greatest_within top B v)) k)

-- ---- what is spanned

begins_with_front : (p a b : List Renaming) → begins_with (p ++ a) (p ++ b) ≡ begins_with a b
begins_with_front [] a b = refl
begins_with_front (R ∷ p) a b = ap (λ c. c && begins_with (p ++ a) (p ++ b)) (name_eq_refl (name_of R)) ∙ begins_with_front p a b

common_front : (p a b : List Renaming) → common_prefix (p ++ a) (p ++ b) ≡ p ++ common_prefix a b
common_front [] a b = refl
common_front (R ∷ p) a b = ap (λ c. if c then R ∷ common_prefix (p ++ a) (p ++ b) else []) (name_eq_refl (name_of R)) ∙ ap (λ q. R ∷ q) (common_front p a b)

of_front : (A B : List Node) (p a : List Renaming) (es : List EpochName) → ((g : EpochName) → IsIn g es → path B g ≡ p ++ path A g) → common_prefix_of (p ++ a) (map (path B) es) ≡ p ++ common_prefix_of a (map (path A) es)
of_front A B p a [] f = refl
of_front A B p a (e ∷ es) f =
    ap (λ q. common_prefix_of q (map (path B) es)) (ap (common_prefix (p ++ a)) (f e (inl refl)) ∙ common_front p a (path A e)) ∙ of_front A B p (common_prefix a (path A e)) es (λ g q. f g (inr q))

-- the given epochs are kept
abbrev pub AllKept : EpochName → List Node → List EpochName → Type 0
AllKept U A es = (g : EpochName) → IsIn g es → is_kept U A g ≡ true

pub top_path_window : {U : EpochName} {A : List Node} {top : EpochName} {B : List Node} → Window U A top B → (e : EpochName) (es : List EpochName) → AllKept U A (e ∷ es) → top_path B e es ≡ path B U ++ top_path A e es
unfolding top_path
top_path_window {U = U} {A = A} {top = top} {B = B} w e es k =
    ap (λ q. common_prefix_of q (map (path B) es)) (path_window w e (k e (inl refl))) ∙ of_front A B (path B U) (path A e) es (λ g q. path_window w g (k g (inr q)))

pub is_spanned_window : {U : EpochName} {A : List Node} {top : EpochName} {B : List Node} → Window U A top B → (e : EpochName) (es : List EpochName) → AllKept U A (e ∷ es) → (f : EpochName) → is_kept U A f ≡ true → is_spanned B e es f ≡ is_spanned A e es f
unfolding is_spanned
is_spanned_window {U = U} {A = A} {top = top} {B = B} w e es k f h =
    let p = path B U in
    let x : begins_with (path B f) (top_path B e es) ≡ begins_with (path A f) (top_path A e es) =
    ap (λ q. begins_with q (top_path B e es)) (path_window w f h) ∙ (ap (begins_with (p ++ path A f)) (top_path_window w e es k) ∙ begins_with_front p (path A f) (top_path A e es)) in
    let y : list_any (λ g. begins_with (path B g) (path B f)) (e ∷ es) ≡ list_any (λ g. begins_with (path A g) (path A f)) (e ∷ es) =
    any_same (λ g. begins_with (path B g) (path B f)) (λ g. begins_with (path A g) (path A f)) (e ∷ es)
    (λ g q. ap (λ r. begins_with r (path B f)) (path_window w g (k g q)) ∙ (ap (begins_with (p ++ path A g)) (path_window w f h) ∙ begins_with_front p (path A g) (path A f))) in
    ap (λ b. b && list_any (λ g. begins_with (path B g) (path B f)) (e ∷ es)) x ∙ ap (λ b. begins_with (path A f) (top_path A e es) && b) y

cancel : (p x y : List Renaming) → p ++ x ≡ p ++ y → x ≡ y
cancel [] x y e = e
cancel (R ∷ p) x y e = cancel p x y (cons_tail R R (p ++ x) (p ++ y) e)

-- what is spanned by kept epochs is kept
pub spanned_kept : {U : EpochName} {A : List Node} {top : EpochName} {B : List Node} → Window U A top B → (e : EpochName) (es : List EpochName) → AllKept U A (e ∷ es) → (f : EpochName) → is_kept top B f ≡ true → is_spanned B e es f ≡ true → is_kept U A f ≡ true
spanned_kept {U = U} {A = A} {top = top} {B = B} w e es k f h s =
    let r = spanned_is B w.whole e es f s in
    let p = path B U in
    let t = top_path A e es in
    let q = (r.0).0 in
    let pf : path B f ≡ p ++ (t ++ q) = (r.0).1 ∙ (ap (λ z. z ++ q) (top_path_window w e es k) ∙ append_assoc p t q) in
    let g = (r.1).0 in
    let kg = k g (r.1).1 in
    let z = (r.1).2 in
    let c : path A g ≡ (t ++ q) ++ z.0 = cancel p (path A g) ((t ++ q) ++ z.0) (sym (path_window w g kg) ∙ (z.1 ∙ (ap (λ y. y ++ z.0) pf ∙ append_assoc p (t ++ q) z.0))) in
    let a = front_kept U A w.nodes w.below g (t ++ q) kg (z.0, c) in
    let same : a.0 ≡ f = path_same top B w.whole w.tree a.0 f (kept_window w a.0 a.1) h (path_window w a.0 a.1 ∙ (ap (λ y. p ++ y) a.2 ∙ sym pf)) in
    subst (λ d. is_kept U A d ≡ true) same a.1

-- the two parts have the same elements
pub window_spanned : {U : EpochName} {A : List Node} {top : EpochName} {B : List Node} → Window U A top B → (e : EpochName) (es : List EpochName) → AllKept U A (e ∷ es) → (f : EpochName) → IsIn f (spanned U A e es) → IsIn f (spanned top B e es)
window_spanned {U = U} {A = A} {top = top} {B = B} w e es k f p =
    let r = in_spanned U A e es f p in spanned_in top B e es f (kept_window w f r.0) (is_spanned_window w e es k f r.0 ∙ r.1)

pub spanned_window : {U : EpochName} {A : List Node} {top : EpochName} {B : List Node} → Window U A top B → (e : EpochName) (es : List EpochName) → AllKept U A (e ∷ es) → (f : EpochName) → IsIn f (spanned top B e es) → IsIn f (spanned U A e es)
spanned_window {U = U} {A = A} {top = top} {B = B} w e es k f p =
    let r = in_spanned top B e es f p in
    let h = spanned_kept w e es k f r.0 r.1 in
    spanned_in U A e es f h (sym (is_spanned_window w e es k f h) ∙ r.1)

-- ---- keeping what is spanned

filter_map : (t : Renaming → Bool) (ns : List Node) → filter t (map (λ n. n.renaming) ns) ≡ map (λ n. n.renaming) (filter (λ n. t n.renaming) ns)
filter_map t [] = refl
filter_map t (n ∷ ns) = go (t n.renaming) (filter_map t ns)
  where
    go : (b : Bool) → filter t (map (λ n. n.renaming) ns) ≡ map (λ n. n.renaming) (filter (λ n. t n.renaming) ns) →
        cond b (n.renaming ∷ filter t (map (λ n. n.renaming) ns)) (filter t (map (λ n. n.renaming) ns)) ≡ map (λ n. n.renaming) (cond b (n ∷ filter (λ n. t n.renaming) ns) (filter (λ n. t n.renaming) ns))
    go true h = ap (λ Rs. n.renaming ∷ Rs) h
    go false h = h

-- their renamings are those of the part
pub kept-renamings : (ns : List Node) (e : EpochName) (es : List EpochName) → spanned_renamings ns e es ≡ map (λ n. n.renaming) (kept_nodes ns e es)
unfolding spanned_renamings
kept-renamings ns e es = filter_map (λ R. is_spanned ns e es (name_of R) && not (begins_with (top_path ns e es) (path ns (name_of R)))) ns

filter_node : (t : Node → Bool) (ns : List Node) (e : EpochName) → has_node (filter t ns) e ≡ true → has_node ns e ≡ true
filter_node t ns e h = let r = node_at (filter t ns) e h in subst (λ f. has_node ns f ≡ true) r.2 (node_named r.0 ns (in_filter t r.0 ns r.1).0)

filter_nodes : (t : Node → Bool) (ns : List Node) → AreNodes ns → AreNodes (filter t ns)
filter_nodes t [] d = tt
filter_nodes t (n ∷ ns) d = go (t n) (filter_nodes t ns d.2)
  where
    go : (b : Bool) → AreNodes (filter t ns) → AreNodes (cond b (n ∷ filter t ns) (filter t ns))
    go true h = (d.0, not_true (has_node (filter t ns) (name_of n.renaming)) (λ q. let x = filter_node t ns (name_of n.renaming) q in let y = d.1 in absurd (cc)), h)
    go false h = h

pub both_fronts : (p q : List Renaming) → IsFront p q → IsFront q p → p ≡ q
both_fronts p q ([], h) k = sym (h ∙ append-nil p)
both_fronts p q (R ∷ a, h) k =
    let x = ap length h ∙ length-append p (R ∷ a) in
    let y = ap length k.1 ∙ length-append q k.0 in
    absurd (omega arith)

-- a spanned epoch has the topmost's path, or isn't above it
pub low_or_top : (ns : List Node) → AreNodes ns → (e : EpochName) (es : List EpochName) (f : EpochName) → is_spanned ns e es f ≡ true → (path ns f ≡ top_path ns e es) ⊎ (begins_with (top_path ns e es) (path ns f) ≡ false)
low_or_top ns d e es f s =
    let t = top_path ns e es in
    let g = top_front ns d e es e (inl refl) in
    let r = spanned_is ns d e es f s in
    bool_cases (begins_with t (path ns f))
    (λ h. inl (both_fronts (path ns f) t (begins_front ns d (path ns f) t (path-among ns f) (among t g) h) r.0))
    (λ h. inr h)
  where
    among : (t : List Renaming) → IsFront t (path ns e) → AreAmong ns t
    among t g = front_among ns t (path ns e) g (path-among ns e)

-- an epoch that is kept among these nodes, and is spanned, is kept after the others were dropped
keep_spanned : (top : EpochName) (ns : List Node) → AreNodes ns → AreBelow top ns → (e : EpochName) (es : List EpochName) (u : EpochName) → is_kept top ns u ≡ true → path ns u ≡ top_path ns e es →
    (older : List Node) → ((f : EpochName) → is_kept top older f ≡ true → is_kept top ns f ≡ true) → (f : EpochName) → is_kept top older f ≡ true → is_spanned ns e es f ≡ true → is_kept u (filter (is_below ns e es) older) f ≡ true
keep_spanned top ns d b e es u ku h older into f k s =
    ⊎_elim here
    (λ l. ⊎_elim (λ q. here (first l (name_eq_is f top q)))
    (λ q. let r = node_at older f q in
    let m : is_below ns e es r.0 ≡ true = subst (λ g. (is_spanned ns e es g && not (begins_with (top_path ns e es) (path ns g))) ≡ true) (sym r.2) (and_true (is_spanned ns e es f) (not (begins_with (top_path ns e es) (path ns f))) s (ap not l)) in
    or_right (name_eq f u) (has_node (filter (is_below ns e es) older) f)
    (subst (λ g. has_node (filter (is_below ns e es) older) g ≡ true) r.2 (node_named r.0 (filter (is_below ns e es) older) (filter_in (is_below ns e es) r.0 older r.1 m))))
    (or_split (name_eq f top) (has_node older f) k))
    (low_or_top ns d e es f s)
  where
    here : path ns f ≡ top_path ns e es → is_kept u (filter (is_below ns e es) older) f ≡ true
    here q =
        let w = path_same top ns d b f u (into f k) ku (q ∙ sym h) in
        or_left (name_eq f u) (has_node (filter (is_below ns e es) older) f) (ap (name_eq f) (sym w) ∙ name_eq_refl f)

    -- the topmost epoch of the tree has the empty path, of which the part's is a front
    first : begins_with (top_path ns e es) (path ns f) ≡ false → f ≡ top → path ns f ≡ top_path ns e es
    first l q =
        let z : path ns f ≡ [] = ap (path ns) q ∙ path_top top ns b in
        let y : begins_with (top_path ns e es) (path ns f) ≡ true = ap (begins_with (top_path ns e es)) z ∙ nothing (top_path ns e es) in
        absurd (cc)
      where
        nothing : (p : List Renaming) → begins_with p [] ≡ true
        nothing [] = refl
        nothing (R ∷ p) = refl

pub stays_is : (ns : List Node) (e : EpochName) (es : List EpochName) (n : Node) → is_below ns e es n ≡ true → (is_spanned ns e es (name_of n.renaming) ≡ true) × (path ns (name_of n.renaming) ≡ top_path ns e es → ⊥)
stays_is ns e es n h =
    let b = is_spanned ns e es (name_of n.renaming) in
    let c = begins_with (top_path ns e es) (path ns (name_of n.renaming)) in
    (and_left b (not c) h, λ q. let x = not_is c (and_right b (not c) h) in let y : c ≡ true = front_begins (path ns (name_of n.renaming)) (top_path ns e es) ([], sym q ∙ sym (append-nil (path ns (name_of n.renaming)))) in absurd (cc))

keep_below : (top : EpochName) (ns : List Node) → AreNodes ns → AreBelow top ns → (e : EpochName) (es : List EpochName) (u : EpochName) → is_kept top ns u ≡ true → path ns u ≡ top_path ns e es →
    (older : List Node) → AreIn older ns → AreBelow top older → ((f : EpochName) → is_kept top older f ≡ true → is_kept top ns f ≡ true) → AreBelow u (filter (is_below ns e es) older)
keep_below top ns d b e es u ku h [] i c into = tt
keep_below top ns d b e es u ku h (n ∷ older) i c into =
    go (is_below ns e es n) refl (keep_below top ns d b e es u ku h older i.1 c.2 (λ f k. into f (kept_more top n older f k)))
  where
    go : (x : Bool) → is_below ns e es n ≡ x → AreBelow u (filter (is_below ns e es) older) → AreBelow u (cond x (n ∷ filter (is_below ns e es) older) (filter (is_below ns e es) older))
    go false q ih = ih
    go true q ih =
        let s = stays_is ns e es n q in (
          keep_spanned top ns d b e es u ku h older (λ f k. into f (kept_more top n older f k)) n.parent c.0 (parent_spanned top ns d b e es n i.0 s.0 s.1),
          not_true (is_of n u) (λ r. s.1 (ap (path ns) (name_eq_is (name_of n.renaming) u r) ∙ h)),
          ih,
        )

-- keeping what is spanned leaves a window
pub keep_window : (top : EpochName) (ns : List Node) → AreNodes ns → AreBelow top ns → (e : EpochName) (es : List EpochName) (u : EpochName) → is_kept top ns u ≡ true → path ns u ≡ top_path ns e es → Window u (kept_nodes ns e es) top ns
keep_window top ns d b e es u ku h = record {
  nodes = filter_nodes (is_below ns e es) ns d;
  below = keep_below top ns d b e es u ku h ns (are_in ns ns (λ n p. p)) b (λ f k. k);
  whole = d;
  tree = b;
  each = are_in (filter (is_below ns e es) ns) ns (λ n p. (in_filter (is_below ns e es) n ns p).0);
  first = ku;
}

-- which keeps what is spanned
pub keep_kept : (top : EpochName) (ns : List Node) → AreNodes ns → AreBelow top ns → (e : EpochName) (es : List EpochName) (u : EpochName) → is_kept top ns u ≡ true → path ns u ≡ top_path ns e es →
    (f : EpochName) → is_kept top ns f ≡ true → is_spanned ns e es f ≡ true → is_kept u (kept_nodes ns e es) f ≡ true
keep_kept top ns d b e es u ku h f k s = keep_spanned top ns d b e es u ku h ns (λ g q. q) f k s

-- and nothing else
pub kept_keep : (top : EpochName) (ns : List Node) → AreNodes ns → (e : EpochName) (es : List EpochName) (u : EpochName) → path ns u ≡ top_path ns e es → (f : EpochName) → is_kept u (kept_nodes ns e es) f ≡ true → is_spanned ns e es f ≡ true
kept_keep top ns d e es u h f k =
    ⊎_elim (λ q. subst (λ g. is_spanned ns e es g ≡ true) (sym (name_eq_is f u q)) (top_spanned ns d e es u h))
    (λ q. let r = node_at (filter (is_below ns e es) ns) f q in
    let s = in_filter (is_below ns e es) r.0 ns r.1 in
    subst (λ g. is_spanned ns e es g ≡ true) r.2 (stays_is ns e es r.0 s.1).0)
    (or_split (name_eq f u) (has_node (filter (is_below ns e es) ns) f) k)
