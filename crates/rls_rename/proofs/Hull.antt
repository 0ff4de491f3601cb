-- The smallest connected part of a tree that holds given epochs.
use Rattle.std.proofs.Common.{◌≡◌, ℕ, zero, suc, Bool, true, false, List, [], ◌∷◌, ◌++◌, map, length, refl, sym, ap, ◌∙◌, subst, inl, inr, ◌⊎◌, ⊎_elim, arith, append_assoc, append-nil, length-append}
use Rattle.std.specs.Prelude.{◌||◌, filter, if◌then◌else◌}
use Rattle.std.specs.List.{list_any}
use Rattle.std.specs.Ordering.{is_lt}
use Rattle.std.specs.Cmp.Lexicographic.{slice_cmp}
use Rattle.std.proofs.lemmas.Cmp.{tied_itself}
use Rattle.rls_ident.specs.declared.epoch_name.EpochName.{EpochName}
use Rattle.rls_ident.specs.EpochNames.{name_eq}
use Rattle.rls_ident.specs.Lists.{IsIn}
use Rattle.rls_ident.proofs.Members.{bool_cases, or_left, or_right, or_split, and_left, and_right, and_true, in_filter, filter_in, in_any, any_in}
use Rattle.rls_rename.specs.Renaming.{Renaming}
use Rattle.rls_rename.specs.Tree.{Node, name_of, same_name, is_of, has_node, is_kept, AreNodes, AreBelow, path, renaming_cmp, epoch_cmp, names}
use Rattle.rls_rename.specs.Connected.{begins_with, common_prefix, common_prefix_of, top_path, is_spanned, put_epoch, in_order, spanned}
use Rattle.rls_rename.proofs.Growth.{path_other, path_child, kept_other}
use Rattle.rls_rename.proofs.Kept.{kept_more, top_kept}
use Rattle.rls_rename.proofs.Paths.{name_eq_is, name_eq_refl, IsAmong, AreAmong, one_name, path-among}
use Rattle.rls_rename.proofs.SameNodes.{epoch_same, name_in, path_top, path_member, parent_kept, paths_total}

-- ---- fronts of paths

-- p is a front of x
abbrev pub IsFront : List Renaming → List Renaming → Type 0
IsFront p x = (q : List Renaming) × (x ≡ p ++ q)

pub front_refl : (p : List Renaming) → IsFront p p
front_refl p = ([], sym (append-nil p))

pub front_trans : (p q r : List Renaming) → IsFront p q → IsFront q r → IsFront p r
front_trans p q r h k = (h.0 ++ k.0, k.1 ∙ (ap (λ x. x ++ k.0) h.1 ∙ append_assoc p h.0 k.0))

pub front_cons : (R : Renaming) (p x : List Renaming) → IsFront p x → IsFront (R ∷ p) (R ∷ x)
front_cons R p x h = (h.0, ap (λ y. R ∷ y) h.1)

pub cons_head : (R S : Renaming) (p q : List Renaming) → R ∷ p ≡ S ∷ q → R ≡ S
cons_head R S p q e = cc

pub cons_tail : (R S : Renaming) (p q : List Renaming) → R ∷ p ≡ S ∷ q → p ≡ q
cons_tail R S p q e = cc

pub front_tail : (R S : Renaming) (p x : List Renaming) → IsFront (R ∷ p) (S ∷ x) → (S ≡ R) × IsFront p x
front_tail R S p x h = (cons_head S R x (p ++ h.0) h.1, (h.0, cons_tail S R x (p ++ h.0) h.1))

-- the front of a list with one more at its end is the whole or a front of the list
pub snoc_front : (p x : List Renaming) (R : Renaming) → IsFront p (x ++ (R ∷ [])) → (p ≡ x ++ (R ∷ [])) ⊎ IsFront p x
snoc_front [] x R h = inr (x, refl)
snoc_front (S ∷ p) [] R h = go p h.0 (cons_head R S [] (p ++ h.0) h.1) (cons_tail R S [] (p ++ h.0) h.1)
  where
    go : (p q : List Renaming) → R ≡ S → [] ≡ p ++ q → (S ∷ p ≡ R ∷ []) ⊎ IsFront (S ∷ p) []
    go [] q e f = inl (ap (λ T. T ∷ []) (sym e))
    go (T ∷ p) q e f = absurd (cc)
snoc_front (S ∷ p) (T ∷ x) R h =
    let t = front_tail S T p (x ++ (R ∷ [])) h in
    ⊎_elim (λ e. inl (ap (λ U. U ∷ p) (sym t.0) ∙ ap (λ y. T ∷ y) e)) (λ f. inr (subst (λ U. IsFront (U ∷ p) (T ∷ x)) t.0 (front_cons T p x f))) (snoc_front p x R t.1)

pub front_begins : (p x : List Renaming) → IsFront p x → begins_with x p ≡ true
front_begins [] [] h = refl
front_begins [] (S ∷ x) h = refl
front_begins (R ∷ p) [] h = absurd (none h.1)
  where
    none : [] ≡ R ∷ (p ++ h.0) → ⊥
    none e = absurd (cc)
front_begins (R ∷ p) (S ∷ x) h =
    let t = front_tail R S p x h in
    and_true (same_name S R) (begins_with x p) (ap (λ T. same_name S T) (sym t.0) ∙ name_eq_refl (name_of S)) (front_begins p x t.1)

-- in one tree equal names are equal renamings
pub begins_front : (ns : List Node) → AreNodes ns → (p x : List Renaming) → AreAmong ns p → AreAmong ns x → begins_with x p ≡ true → IsFront p x
begins_front ns n [] x g h b = (x, refl)
begins_front ns n (R ∷ p) [] g h b = absurd (cc)
begins_front ns n (R ∷ p) (S ∷ x) g h b =
    let e = one_name ns n S R h.0 g.0 (and_left (same_name S R) (begins_with x p) b) in
    subst (λ T. IsFront (T ∷ p) (S ∷ x)) e (front_cons S p x (begins_front ns n p x g.1 h.1 (and_right (same_name S R) (begins_with x p) b)))

pub front_among : (ns : List Node) (p x : List Renaming) → IsFront p x → AreAmong ns x → AreAmong ns p
front_among ns [] x h a = tt
front_among ns (R ∷ p) [] h a = absurd (none h.1)
  where
    none : [] ≡ R ∷ (p ++ h.0) → ⊥
    none e = absurd (cc)
front_among ns (R ∷ p) (S ∷ x) h a = let t = front_tail R S p x h in (subst (IsAmong ns) t.0 a.0, front_among ns p x t.1 a.1)

-- ---- the longest common front

common_first : (x y : List Renaming) → IsFront (common_prefix x y) x
common_first [] y = ([], refl)
common_first (R ∷ x) [] = (R ∷ x, refl)
common_first (R ∷ x) (S ∷ y) = go (same_name R S) (common_first x y)
  where
    go : (b : Bool) → IsFront (common_prefix x y) x → IsFront (if b then R ∷ common_prefix x y else []) (R ∷ x)
    go true h = front_cons R (common_prefix x y) x h
    go false h = (R ∷ x, refl)

common_second : (ns : List Node) → AreNodes ns → (x y : List Renaming) → AreAmong ns x → AreAmong ns y → IsFront (common_prefix x y) y
common_second ns n [] y g h = (y, refl)
common_second ns n (R ∷ x) [] g h = ([], refl)
common_second ns n (R ∷ x) (S ∷ y) g h = go (same_name R S) refl (common_second ns n x y g.1 h.1)
  where
    go : (b : Bool) → same_name R S ≡ b → IsFront (common_prefix x y) y → IsFront (if b then R ∷ common_prefix x y else []) (S ∷ y)
    go true e f = let q = one_name ns n R S g.0 h.0 e in subst (λ T. IsFront (T ∷ common_prefix x y) (S ∷ y)) (sym q) (front_cons S (common_prefix x y) y f)
    go false e f = (S ∷ y, refl)

common_most : (p x y : List Renaming) → IsFront p x → IsFront p y → IsFront p (common_prefix x y)
common_most [] x y h k = (common_prefix x y, refl)
common_most (T ∷ p) [] y h k = absurd (none h.1)
  where
    none : [] ≡ T ∷ (p ++ h.0) → ⊥
    none e = absurd (cc)
common_most (T ∷ p) (R ∷ x) [] h k = absurd (none k.1)
  where
    none : [] ≡ T ∷ (p ++ k.0) → ⊥
    none e = absurd (cc)
common_most (T ∷ p) (R ∷ x) (S ∷ y) h k =
    let a = front_tail T R p x h in
    let b = front_tail T S p y k in
    let e : same_name R S ≡ true = ap (λ U. same_name R U) (b.0 ∙ sym a.0) ∙ name_eq_refl (name_of R) in
    subst (IsFront (T ∷ p)) (sym (ap (λ c. if c then R ∷ common_prefix x y else []) e)) (subst (λ U. IsFront (T ∷ p) (U ∷ common_prefix x y)) (sym a.0) (front_cons T p (common_prefix x y) (common_most p x y a.1 b.1)))

of_first : (x : List Renaming) (xs : List (List Renaming)) → IsFront (common_prefix_of x xs) x
of_first x [] = front_refl x
of_first x (y ∷ ys) = front_trans (common_prefix_of (common_prefix x y) ys) (common_prefix x y) x (of_first (common_prefix x y) ys) (common_first x y)

of_each : (ns : List Node) → AreNodes ns → (x : List Renaming) (es : List EpochName) → AreAmong ns x → (g : EpochName) → IsIn g es → IsFront (common_prefix_of x (map (path ns) es)) (path ns g)
of_each ns n x [] a g p = absurd p
of_each ns n x (f ∷ es) a g (inl e) =
    let c = common_prefix x (path ns f) in
    subst (λ h. IsFront (common_prefix_of c (map (path ns) es)) (path ns h)) e
    (front_trans (common_prefix_of c (map (path ns) es)) c (path ns f) (of_first c (map (path ns) es)) (common_second ns n x (path ns f) a (path-among ns f)))
of_each ns n x (f ∷ es) a g (inr p) = let c = common_prefix x (path ns f) in of_each ns n c es (front_among ns c x (common_first x (path ns f)) a) g p

of_most : (ns : List Node) (p x : List Renaming) (es : List EpochName) → IsFront p x → ((g : EpochName) → IsIn g es → IsFront p (path ns g)) → IsFront p (common_prefix_of x (map (path ns) es))
of_most ns p x [] h f = h
of_most ns p x (g ∷ es) h f = of_most ns p (common_prefix x (path ns g)) es (common_most p x (path ns g) h (f g (inl refl))) (λ k q. f k (inr q))

-- the path of the top is a front of each path, and each common front is a front of it
pub top_front : (ns : List Node) → AreNodes ns → (e : EpochName) (es : List EpochName) (g : EpochName) → IsIn g (e ∷ es) → IsFront (top_path ns e es) (path ns g)
unfolding top_path
top_front ns n e es g (inl h) = subst (λ k. IsFront (common_prefix_of (path ns e) (map (path ns) es)) (path ns k)) h (of_first (path ns e) (map (path ns) es))
top_front ns n e es g (inr p) = of_each ns n (path ns e) es (path-among ns e) g p

pub top_most : (ns : List Node) (e : EpochName) (es : List EpochName) (p : List Renaming) → ((g : EpochName) → IsIn g (e ∷ es) → IsFront p (path ns g)) → IsFront p (top_path ns e es)
unfolding top_path
top_most ns e es p f = of_most ns p (path ns e) es (f e (inl refl)) (λ g q. f g (inr q))

top_among : (ns : List Node) → AreNodes ns → (e : EpochName) (es : List EpochName) → AreAmong ns (top_path ns e es)
top_among ns n e es = front_among ns (top_path ns e es) (path ns e) (top_front ns n e es e (inl refl)) (path-among ns e)

-- ---- what is spanned, by fronts

abbrev pub Spanned : List Node → EpochName → List EpochName → EpochName → Type 0
Spanned ns e es f = IsFront (top_path ns e es) (path ns f) × ((g : EpochName) × IsIn g (e ∷ es) × IsFront (path ns f) (path ns g))

pub spanned_is : (ns : List Node) → AreNodes ns → (e : EpochName) (es : List EpochName) (f : EpochName) → is_spanned ns e es f ≡ true → Spanned ns e es f
unfolding is_spanned
spanned_is ns n e es f h =
    let b = begins_with (path ns f) (top_path ns e es) in
    let c = list_any (λ g. begins_with (path ns g) (path ns f)) (e ∷ es) in
    let r = in_any (λ g. begins_with (path ns g) (path ns f)) (e ∷ es) (and_right b c h) in (
      begins_front ns n (top_path ns e es) (path ns f) (top_among ns n e es) (path-among ns f) (and_left b c h),
      (r.0, r.1, begins_front ns n (path ns f) (path ns r.0) (path-among ns f) (path-among ns r.0) r.2),
    )

pub is_spanned_of : (ns : List Node) (e : EpochName) (es : List EpochName) (f : EpochName) → Spanned ns e es f → is_spanned ns e es f ≡ true
unfolding is_spanned
is_spanned_of ns e es f h =
    let g = (h.1).0 in
    and_true (begins_with (path ns f) (top_path ns e es)) (list_any (λ g. begins_with (path ns g) (path ns f)) (e ∷ es)) (front_begins (top_path ns e es) (path ns f) h.0)
    (any_in (λ g. begins_with (path ns g) (path ns f)) g (e ∷ es) (h.1).1 (front_begins (path ns f) (path ns g) (h.1).2))

-- it holds the given epochs
pub needed_spanned : (ns : List Node) → AreNodes ns → (e : EpochName) (es : List EpochName) (g : EpochName) → IsIn g (e ∷ es) → is_spanned ns e es g ≡ true
needed_spanned ns n e es g p = is_spanned_of ns e es g (top_front ns n e es g p, (g, p, front_refl (path ns g)))

-- ---- kept epochs by their paths

pub path_same : (top : EpochName) (ns : List Node) → AreNodes ns → AreBelow top ns → (e f : EpochName) → is_kept top ns e ≡ true → is_kept top ns f ≡ true → path ns e ≡ path ns f → e ≡ f
path_same top ns d b e f k l h = epoch_same top ns d b e f k l (ap (slice_cmp renaming_cmp (path ns e)) (sym h) ∙ tied_itself paths_total (path ns e))

pub front_none : (p : List Renaming) → IsFront p [] → [] ≡ p
front_none [] h = refl
front_none (R ∷ p) h = absurd (none h.1)
  where
    none : [] ≡ R ∷ (p ++ h.0) → ⊥
    none e = absurd (cc)

-- each front of a kept epoch's path is the path of a kept epoch
pub front_kept : (top : EpochName) (ns : List Node) → AreNodes ns → AreBelow top ns → (e : EpochName) (p : List Renaming) → is_kept top ns e ≡ true → IsFront p (path ns e) → (f : EpochName) × (is_kept top ns f ≡ true) × (path ns f ≡ p)
front_kept top [] d b e p k h =
    ⊎_elim (λ q. let t = path_top top [] tt in (top, top_kept top [], t ∙ front_none p (subst (IsFront p) (ap (path []) (name_eq_is e top q) ∙ t) h))) (λ q. absurd (cc)) (or_split (name_eq e top) false k)
front_kept top (n ∷ ns) d b e p k h =
    bool_cases (is_of n e)
    (λ q. ⊎_elim (λ w. (e, k, path_child n ns e q ∙ sym w)) (λ f. older (front_kept top ns d.2 b.2 n.parent p b.0 f)) (snoc_front p (path ns n.parent) n.renaming (subst (IsFront p) (path_child n ns e q) h)))
    (λ q. older (front_kept top ns d.2 b.2 e p (sym (ap (λ c. name_eq e top || (c || has_node ns e)) q) ∙ k) (subst (IsFront p) (path_other n ns e q) h)))
  where
    older : (f : EpochName) × (is_kept top ns f ≡ true) × (path ns f ≡ p) → (f : EpochName) × (is_kept top (n ∷ ns) f ≡ true) × (path (n ∷ ns) f ≡ p)
    older r = (r.0, kept_more top n ns r.0 r.1, path_other n ns r.0 (kept_other top n ns r.0 d b r.1) ∙ r.2)

pub node_at : (ns : List Node) (e : EpochName) → has_node ns e ≡ true → (n : Node) × IsIn n ns × (name_of n.renaming ≡ e)
node_at [] e h = absurd (cc)
node_at (n ∷ ns) e h = ⊎_elim (λ q. (n, inl refl, name_eq_is (name_of n.renaming) e q)) (λ q. let r = node_at ns e q in (r.0, inr r.1, r.2)) (or_split (is_of n e) (has_node ns e) h)

-- ---- the part is connected

-- its topmost epoch
pub spanned_top : (top : EpochName) (ns : List Node) → AreNodes ns → AreBelow top ns → (e : EpochName) (es : List EpochName) → is_kept top ns e ≡ true → (u : EpochName) × (is_kept top ns u ≡ true) × (path ns u ≡ top_path ns e es)
spanned_top top ns d b e es k = front_kept top ns d b e (top_path ns e es) k (top_front ns d e es e (inl refl))

pub top_spanned : (ns : List Node) → AreNodes ns → (e : EpochName) (es : List EpochName) (u : EpochName) → path ns u ≡ top_path ns e es → is_spanned ns e es u ≡ true
top_spanned ns n e es u h =
    is_spanned_of ns e es u (([], h ∙ sym (append-nil (top_path ns e es))), (e, inl refl, subst (λ p. IsFront p (path ns e)) (sym h) (top_front ns n e es e (inl refl))))

-- the parent of each of its epochs but the topmost is one of them
pub parent_spanned : (top : EpochName) (ns : List Node) → AreNodes ns → AreBelow top ns → (e : EpochName) (es : List EpochName) (n : Node) → IsIn n ns → is_spanned ns e es (name_of n.renaming) ≡ true → (path ns (name_of n.renaming) ≡ top_path ns e es → ⊥) →
    is_spanned ns e es n.parent ≡ true
parent_spanned top ns d b e es n p h u =
    let m = path_member top n ns d b p in
    let s = spanned_is ns d e es (name_of n.renaming) h in
    let g = (s.1).0 in
    let f : IsFront (top_path ns e es) (path ns n.parent) =
    ⊎_elim (λ w. absurd (u (m ∙ sym w))) (λ f. f) (snoc_front (top_path ns e es) (path ns n.parent) n.renaming (subst (IsFront (top_path ns e es)) m s.0)) in
    is_spanned_of ns e es n.parent (f, (g, (s.1).1, front_trans (path ns n.parent) (path ns (name_of n.renaming)) (path ns g) (n.renaming ∷ [], m) (s.1).2))

-- ---- and the least such

-- a connected part with this topmost epoch
pub record IsPart (top : EpochName) (ns : List Node) (u : EpochName) (C : EpochName → Type 0) : Type 0 where
  pub kept : (e : EpochName) → C e → is_kept top ns e ≡ true
  pub below : (e : EpochName) → C e → IsFront (path ns u) (path ns e)
  pub parents : (n : Node) → IsIn n ns → C (name_of n.renaming) → (name_of n.renaming ≡ u → ⊥) → C n.parent

-- up from g, which is in the part, to f, which isn't above its topmost epoch
climb : (top : EpochName) (ns : List Node) → AreNodes ns → AreBelow top ns → (u : EpochName) (C : EpochName → Type 0) → IsPart top ns u C → (f : EpochName) → is_kept top ns f ≡ true → IsFront (path ns u) (path ns f) →
    (k : ℕ) (g : EpochName) (q : List Renaming) → C g → path ns g ≡ path ns f ++ q → length q ≡ k → C f
climb top ns d b u C c f kf uf k g [] cg e l = subst C (path_same top ns d b g f (c.kept g cg) kf (e ∙ append-nil (path ns f))) cg
climb top ns d b u C c f kf uf zero g (R ∷ q) cg e l = absurd (omega arith)
climb top ns d b u C c f kf uf (suc k) g (R ∷ q) cg e l =
    ⊎_elim (λ h. absurd (no_top (ap (path ns) (sym (name_eq_is g top h)) ∙ e))) (λ h. step (node_at ns g h) (λ a t ca ea la. climb top ns d b u C c f kf uf k a t ca ea la)) (or_split (name_eq g top) (has_node ns g) (c.kept g cg))
  where
    no_top : path ns top ≡ path ns f ++ (R ∷ q) → ⊥
    no_top h = let m = ap length (sym (path_top top ns b) ∙ h) in let n = length-append (path ns f) (R ∷ q) in absurd (omega arith)

    not_u : (h : EpochName) → h ≡ g → h ≡ u → ⊥
    not_u h i j =
        let a = ap length (ap (path ns) (sym j ∙ i) ∙ e) in
        let m = length-append (path ns f) (R ∷ q) in
        let n = ap length uf.1 ∙ length-append (path ns u) uf.0 in
        absurd (omega arith)

    step : (n : Node) × IsIn n ns × (name_of n.renaming ≡ g) → ((a : EpochName) (t : List Renaming) → C a → path ns a ≡ path ns f ++ t → length t ≡ k → C f) → C f
    step r ih =
        let n = r.0 in
        let m : path ns n.parent ++ (n.renaming ∷ []) ≡ path ns f ++ (R ∷ q) = sym (path_member top n ns d b r.1) ∙ (ap (path ns) r.2 ∙ e) in
        let up = c.parents n r.1 (subst C (sym r.2) cg) (not_u (name_of n.renaming) r.2) in
        ⊎_elim
        (λ w. let x = ap length (w ∙ m) in let y = length-append (path ns f) (R ∷ q) in absurd (omega arith))
        (λ t. let x = ap length t.1 ∙ length-append (path ns f) t.0 in
        let y = ap length m in
        let z = length-append (path ns n.parent) (n.renaming ∷ []) in
        let w = length-append (path ns f) (R ∷ q) in
        ih n.parent t.0 up t.1 (omega arith))
        (snoc_front (path ns f) (path ns n.parent) n.renaming (R ∷ q, m))

-- each connected part that holds the given epochs holds what is spanned
pub spanned_least : (top : EpochName) (ns : List Node) → AreNodes ns → AreBelow top ns → (e : EpochName) (es : List EpochName) (u : EpochName) (C : EpochName → Type 0) → IsPart top ns u C → ((g : EpochName) → IsIn g (e ∷ es) → C g) →
    (f : EpochName) → is_kept top ns f ≡ true → is_spanned ns e es f ≡ true → C f
spanned_least top ns d b e es u C c h f k s =
    let r = spanned_is ns d e es f s in
    let g = (r.1).0 in
    let t = (r.1).2 in
    let v = top_most ns e es (path ns u) (λ a p. c.below a (h a p)) in
    climb top ns d b u C c f k (front_trans (path ns u) (top_path ns e es) (path ns f) v r.0) (length t.0) g t.0 (h g (r.1).1) t.1 refl

-- ---- the list of what is spanned

pub in_put : (ns : List Node) (f e : EpochName) (es : List EpochName) → IsIn f (put_epoch ns e es) → IsIn f (e ∷ es)
in_put ns f e [] p = p
in_put ns f e (g ∷ es) p = go (is_lt (epoch_cmp ns g e)) p (λ q. in_put ns f e es q)
  where
    go : (b : Bool) → IsIn f (if b then g ∷ put_epoch ns e es else e ∷ g ∷ es) → (IsIn f (put_epoch ns e es) → IsIn f (e ∷ es)) → IsIn f (e ∷ g ∷ es)
    go true (inl q) ih = inr (inl q)
    go true (inr q) ih = ⊎_elim (λ r. inl r) (λ r. inr (inr r)) (ih q)
    go false q ih = q

put_in : (ns : List Node) (f e : EpochName) (es : List EpochName) → IsIn f (e ∷ es) → IsIn f (put_epoch ns e es)
put_in ns f e [] p = p
put_in ns f e (g ∷ es) p = go (is_lt (epoch_cmp ns g e)) p (λ q. put_in ns f e es q)
  where
    go : (b : Bool) → IsIn f (e ∷ g ∷ es) → (IsIn f (e ∷ es) → IsIn f (put_epoch ns e es)) → IsIn f (if b then g ∷ put_epoch ns e es else e ∷ g ∷ es)
    go true (inl q) ih = inr (ih (inl q))
    go true (inr (inl q)) ih = inl q
    go true (inr (inr q)) ih = inr (ih (inr q))
    go false q ih = q

pub in_sorted : (ns : List Node) (f : EpochName) (es : List EpochName) → IsIn f (in_order ns es) → IsIn f es
in_sorted ns f [] p = p
in_sorted ns f (e ∷ es) p = ⊎_elim (λ q. inl q) (λ q. inr (in_sorted ns f es q)) (in_put ns f e (in_order ns es) p)

pub sorted_in : (ns : List Node) (f : EpochName) (es : List EpochName) → IsIn f es → IsIn f (in_order ns es)
sorted_in ns f [] p = p
sorted_in ns f (e ∷ es) p = put_in ns f e (in_order ns es) (⊎_elim (λ q. inl q) (λ q. inr (sorted_in ns f es q)) p)

pub in_name : (ns : List Node) (e : EpochName) → IsIn e (names ns) → has_node ns e ≡ true
in_name [] e p = absurd p
in_name (n ∷ ns) e (inl h) = or_left (is_of n e) (has_node ns e) (ap (name_eq (name_of n.renaming)) (sym h) ∙ name_eq_refl (name_of n.renaming))
in_name (n ∷ ns) e (inr p) = or_right (is_of n e) (has_node ns e) (in_name ns e p)

pub kept_in : (top : EpochName) (ns : List Node) (e : EpochName) → is_kept top ns e ≡ true → IsIn e (top ∷ names ns)
kept_in top ns e k = ⊎_elim (λ h. inl (sym (name_eq_is e top h))) (λ h. inr (name_in ns e h)) (or_split (name_eq e top) (has_node ns e) k)

pub in_kept : (top : EpochName) (ns : List Node) (e : EpochName) → IsIn e (top ∷ names ns) → is_kept top ns e ≡ true
in_kept top ns e (inl h) = or_left (name_eq e top) (has_node ns e) (ap (name_eq e) h ∙ name_eq_refl e)
in_kept top ns e (inr p) = or_right (name_eq e top) (has_node ns e) (in_name ns e p)

pub in_spanned : (top : EpochName) (ns : List Node) (e : EpochName) (es : List EpochName) (f : EpochName) → IsIn f (spanned top ns e es) → (is_kept top ns f ≡ true) × (is_spanned ns e es f ≡ true)
unfolding spanned
in_spanned top ns e es f p = let r = in_filter (is_spanned ns e es) f (top ∷ names ns) (in_sorted ns f (filter (is_spanned ns e es) (top ∷ names ns)) p) in (in_kept top ns f r.0, r.1)

pub spanned_in : (top : EpochName) (ns : List Node) (e : EpochName) (es : List EpochName) (f : EpochName) → is_kept top ns f ≡ true → is_spanned ns e es f ≡ true → IsIn f (spanned top ns e es)
unfolding spanned
spanned_in top ns e es f k h = sorted_in ns f (filter (is_spanned ns e es) (top ∷ names ns)) (filter_in (is_spanned ns e es) f (top ∷ names ns) (kept_in top ns f k) h)

-- what is spanned is a connected part below its topmost epoch
pub spanned_part : (top : EpochName) (ns : List Node) → AreNodes ns → AreBelow top ns → (e : EpochName) (es : List EpochName) (u : EpochName) → is_kept top ns u ≡ true → path ns u ≡ top_path ns e es → IsPart top ns u (λ f. IsIn f (spanned top ns e es))
spanned_part top ns d b e es u ku h = record {
  kept = λ f p. (in_spanned top ns e es f p).0;
  below = λ f p. subst (λ x. IsFront x (path ns f)) (sym h) (spanned_is ns d e es f (in_spanned top ns e es f p).1).0;
  parents = λ n p q v. let r = in_spanned top ns e es (name_of n.renaming) q in
      spanned_in top ns e es n.parent (parent_kept top n ns b p) (parent_spanned top ns d b e es n p r.1 (λ w. v (path_same top ns d b (name_of n.renaming) u r.0 ku (w ∙ sym h))));
}
