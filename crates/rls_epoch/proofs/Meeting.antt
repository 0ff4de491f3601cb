-- Two ways up that meet show the order of the epochs from which they come.
use Rattle.std.proofs.Common.{◌≡◌, ℕ, zero, suc, ◌-◌, ◌<◌, ◌≤◌, true, false, Option, Some, None, List, [], ◌∷◌, ◌++◌, map, length, take, drop, refl, sym, ap, ◌∙◌, subst, arith, ⊎_elim}
use Rattle.std.specs.Prelude.{reverse, slice_get}
use Rattle.std.specs.declared.cmp.Ordering.TheVariants.{Equal}
use Rattle.std.specs.Option.{option_map}
use Rattle.std.specs.Ordering.{ordering_then}
use Rattle.std.specs.Cmp.Lexicographic.{slice_cmp}
use Rattle.std.proofs.lemmas.Bool.{cases_lt}
use Rattle.std.proofs.lemmas.List.{append_assoc, map-append, reverse-append}
use Rattle.rls_ident.specs.declared.epoch_name.EpochName.{EpochName}
use Rattle.rls_ident.specs.EpochNames.{name_eq}
use Rattle.rls_ident.proofs.Named.{name_eq_is, name_eq_refl}
use Rattle.rls_ident.proofs.Members.{not_true, some_is, true_false}
use Rattle.rls_ident.proofs.Positions.{get_of}
use Rattle.rls_ident.proofs.Lists.{then_decided}
use Rattle.rls_rename.specs.Renaming.{Renaming}
use Rattle.rls_rename.specs.Tree.{Node, name_of, is_of, has_node, AreNodes, path, renaming_cmp, epoch_cmp}
use Rattle.rls_rename.proofs.Growth.{path_child, path_other}
use Rattle.rls_rename.proofs.Order.{front_same}
use Rattle.rls_rename.proofs.SameNodes.{same_names, node_named, path_member}
use Rattle.rls_epoch.specs.declared.climb.Climb.{Climb}
use Rattle.rls_epoch.specs.declared.placed.Placed.{Placed}
use Rattle.rls_epoch.specs.Climbing.{side_cmp}
pub use Rattle.rls_epoch.specs.Climbs.{StartsAt, IsAbove, AreTwo, below_or}
use Rattle.rls_epoch.specs.Jumps.{IsUpFrom}
use Rattle.rls_epoch.specs.Links.{name_at, epoch_at, up_at}
use Rattle.rls_epoch.specs.Seen.{node_of, nodes_of, AreLaid}
use Rattle.rls_epoch.specs.Sorted.{place_name}
use Rattle.rls_epoch.proofs.Reading.{name_read, up_read}
use Rattle.rls_epoch.proofs.Sorting.{get_split}
use Rattle.rls_epoch.proofs.Steps.{node_in}

-- ---- children of one epoch

-- the child at which what was passed begins
abbrev below_of : List Renaming → Option EpochName
below_of [] = None
below_of (R ∷ Rs) = Some (name_of R)

-- what was passed on two ways begins at two children
abbrev AreApart : List Renaming → List Renaming → Type 0
AreApart (R ∷ Rs) (S ∷ Ss) = name_eq (name_of R) (name_of S) ≡ false
AreApart _ _ = Unit {0}

not_tied : (R S : Renaming) → name_eq (name_of R) (name_of S) ≡ false → renaming_cmp R S ≡ Equal → ⊥
not_tied R S h q =
    let e = same_names (R ∷ []) (S ∷ []) (ap (λ o. ordering_then o Equal) q) in
    let f : name_of R ≡ name_of S = ap head e in
    let g : name_eq (name_of R) (name_of S) ≡ true = ap (λ z. name_eq (name_of R) z) (sym f) ∙ name_eq_refl (name_of R) in
    absurd (cc)
  where
    head : List EpochName → EpochName
    head [] = name_of R
    head (e ∷ es) = e

-- where they have met
side_is : (Xs Ys : List Renaming) → AreApart Xs Ys → side_cmp (below_of Xs) (below_of Ys) ≡ slice_cmp renaming_cmp Xs Ys
side_is [] [] a = refl
side_is [] (S ∷ Ys) a = refl
side_is (R ∷ Xs) [] a = refl
side_is (R ∷ Xs) (S ∷ Ys) a = sym (then_decided (renaming_cmp R S) (slice_cmp renaming_cmp Xs Ys) (not_tied R S a))

-- ---- names at places

-- the name that belongs to a number
pub at_is : (top : EpochName) (ps : List Placed) (n : ℕ) (e : EpochName) → name_at top ps n ≡ Some e → epoch_at top ps n ≡ e
at_is top ps zero e h = some_is top e h
at_is top ps (suc k) e h = go (slice_get ps k) refl h
  where
    go : (o : Option Placed) → slice_get ps k ≡ o → option_map (λ (z : Placed). name_of z.renaming) o ≡ Some e → place_name ps k ≡ e
    go None g j = absurd (cc)
    go (Some p) g j = name_read ps k p g ∙ some_is (name_of p.renaming) e j

pub named_at : (top : EpochName) (ps : List Placed) (n : ℕ) → n ≤ length ps → name_at top ps n ≡ Some (epoch_at top ps n)
named_at top ps zero h = refl
named_at top ps (suc k) h =
    let p = get_of ps k (omega arith) in
    let e : name_at top ps (suc k) ≡ Some (name_of (p.0).renaming) = ap (option_map (λ (z : Placed). name_of z.renaming)) p.1 in
    e ∙ ap Some (sym (at_is top ps (suc k) (name_of (p.0).renaming) e))

nodes_split : (xs ys : List Placed) → nodes_of (xs ++ ys) ≡ nodes_of ys ++ nodes_of xs
nodes_split xs ys = ap (map node_of) (reverse-append xs ys) ∙ map-append node_of (reverse ys) (reverse xs)

nodes_front : (xs ys : List Node) → AreNodes (xs ++ ys) → AreNodes ys
nodes_front [] ys d = d
nodes_front (x ∷ xs) ys d = nodes_front xs ys d.2

-- an earlier node has another name
earlier_other : (ps : List Placed) → AreNodes (nodes_of ps) → (h k : ℕ) (p q : Placed) → slice_get ps h ≡ Some p → slice_get ps k ≡ Some q → h < k → name_of p.renaming ≡ name_of q.renaming → ⊥
earlier_other ps d h k p q g j l e =
    let split = nodes_split (take k ps) (q ∷ drop (suc k) ps) in
    let whole = subst AreNodes (ap nodes_of (get_split ps k q j) ∙ split) d in
    let later = nodes_split (q ∷ []) (drop (suc k) ps) in
    let part = nodes_front (nodes_of (drop (suc k) ps)) (node_of q ∷ nodes_of (take k ps)) (subst AreNodes (ap (λ z. z ++ nodes_of (take k ps)) later ∙ append_assoc (nodes_of (drop (suc k) ps)) (node_of q ∷ []) (nodes_of (take k ps))) whole) in
    let there = node_in (take k ps) h p (get_taken ps h k p g l) in
    let named = ap (has_node (nodes_of (take k ps))) (sym e) ∙ node_named (node_of p) (nodes_of (take k ps)) there in
    let not = part.1 in
    absurd (cc)
  where
    get_taken : (xs : List Placed) (h k : ℕ) (p : Placed) → slice_get xs h ≡ Some p → h < k → slice_get (take k xs) h ≡ Some p
    get_taken xs h zero p g l = absurd (omega arith)
    get_taken [] h (suc k) p g l = absurd (cc)
    get_taken (x ∷ xs) zero (suc k) p g l = g
    get_taken (x ∷ xs) (suc h) (suc k) p g l = get_taken xs h k p g (omega arith)

-- nodes at two places have two names
pub places_apart : (ps : List Placed) → AreNodes (nodes_of ps) → (h k : ℕ) (p q : Placed) → slice_get ps h ≡ Some p → slice_get ps k ≡ Some q → (h ≡ k → ⊥) → name_of p.renaming ≡ name_of q.renaming → ⊥
places_apart ps d h k p q g j n e =
    ⊎_elim (λ l. earlier_other ps d h k p q g j l e) (λ l. ⊎_elim (λ m. earlier_other ps d k h q p j g m (sym e)) (λ m. n (omega arith)) (cases_lt k h)) (cases_lt h k)

-- ---- ways up

-- a parent has the path of its child but for the last renaming
pub path_up : (top : EpochName) (ps : List Placed) → AreLaid top ps → (k : ℕ) (p : Placed) → slice_get ps k ≡ Some p → path (nodes_of ps) (epoch_at top ps (suc k)) ≡ path (nodes_of ps) (epoch_at top ps p.up) ++ (p.renaming ∷ [])
path_up top ps l k p g =
    let up : epoch_at top ps p.up ≡ p.parent = at_is top ps p.up p.parent (l.links.parents k p g) in
    ap (path (nodes_of ps)) (name_read ps k p g) ∙ (path_member top (node_of p) (nodes_of ps) l.nodes l.below (node_in ps k p g) ∙ ap (λ z. path (nodes_of ps) z ++ (p.renaming ∷ [])) (sym up))

-- one step up
pub above_more : (top : EpochName) (ps : List Placed) → AreLaid top ps → (n m : ℕ) (d : Climb) → 0 < m → m ≤ length ps → d.at ≡ up_at ps (m - 1) → d.below ≡ Some (m - 1) → IsUpFrom top ps n m → IsAbove top ps (epoch_at top ps n) d
above_more top ps l n m d h w a b i =
    let k = m - 1 in
    let r = get_of ps k (omega arith) in
    let p = r.0 in
    let q : m ≡ suc k = omega arith in
    let up : d.at ≡ p.up = a ∙ up_read ps k p r.1 in
    let one : path (nodes_of ps) (epoch_at top ps m) ≡ path (nodes_of ps) (epoch_at top ps d.at) ++ (p.renaming ∷ []) =
    ap (λ (z : ℕ). path (nodes_of ps) (epoch_at top ps z)) q ∙ (path_up top ps l k p r.1 ∙ ap (λ (z : ℕ). path (nodes_of ps) (epoch_at top ps z) ++ (p.renaming ∷ [])) (sym up)) in (
      p.renaming ∷ i.0,
      i.1 ∙ (ap (λ z. z ++ i.0) one ∙ append_assoc (path (nodes_of ps) (epoch_at top ps d.at)) (p.renaming ∷ []) i.0),
      subst (λ o. StartsAt ps o (p.renaming ∷ i.0)) (sym b) (p, i.0, r.1, refl),
    )

below_is : (ps : List Placed) (o : Option ℕ) (Xs : List Renaming) → StartsAt ps o Xs → below_of Xs ≡ option_map (place_name ps) o
below_is ps None Xs s = ap below_of s
below_is ps (Some h) Xs s = ap below_of s.3 ∙ ap Some (sym (name_read ps h s.0 s.2))

apart_is : (ps : List Placed) → AreNodes (nodes_of ps) → (a b : Option ℕ) (Xs Ys : List Renaming) → StartsAt ps a Xs → StartsAt ps b Ys → AreTwo a b → AreApart Xs Ys
apart_is ps d None b Xs Ys s t n = subst (λ zs. AreApart zs Ys) (sym s) tt
apart_is ps d (Some h) None Xs Ys s t n = subst (λ zs. AreApart Xs zs) (sym t) (nothing Xs)
  where
    nothing : (zs : List Renaming) → AreApart zs []
    nothing [] = tt
    nothing (z ∷ zs) = tt
apart_is ps d (Some h) (Some k) Xs Ys s t n =
    let R = s.0.renaming in
    let S = t.0.renaming in
    let o : name_eq (name_of R) (name_of S) ≡ false = not_true (name_eq (name_of R) (name_of S)) (λ q. places_apart ps d h k s.0 t.0 s.2 t.2 n (name_eq_is (name_of R) (name_of S) q)) in
    subst (λ zs. AreApart zs Ys) (sym s.3) (subst (λ zs. AreApart (R ∷ s.1) zs) (sym t.3) o)

-- where they meet
pub met_is : (top : EpochName) (ps : List Placed) → AreNodes (nodes_of ps) → (e f : EpochName) (c d : Climb) → c.at ≡ d.at → AreTwo c.below d.below → IsAbove top ps e c → IsAbove top ps f d →
    side_cmp (option_map (place_name ps) c.below) (option_map (place_name ps) d.below) ≡ epoch_cmp (nodes_of ps) e f
met_is top ps n e f c d h two i j =
    let P = path (nodes_of ps) (epoch_at top ps c.at) in
    let q : path (nodes_of ps) f ≡ P ++ j.0 = j.1 ∙ ap (λ z. path (nodes_of ps) (epoch_at top ps z) ++ j.0) (sym h) in
    ap (λ o. side_cmp o (option_map (place_name ps) d.below)) (sym (below_is ps c.below i.0 i.2))
    ∙ (ap (side_cmp (below_of i.0)) (sym (below_is ps d.below j.0 j.2))
    ∙ (side_is i.0 j.0 (apart_is ps n c.below d.below i.0 j.0 i.2 j.2 two)
    ∙ (sym (front_same P i.0 j.0)
    ∙ (ap (λ z. slice_cmp renaming_cmp z (P ++ j.0)) (sym i.1) ∙ ap (slice_cmp renaming_cmp (path (nodes_of ps) e)) (sym q)))))

-- where one way has no child
pub two_none : (o : Option ℕ) → AreTwo o None
two_none None = tt
two_none (Some h) = tt

-- ---- an epoch that is to be opened

below_more : (ps : List Placed) (o : Option ℕ) (Ys : List Renaming) (R : Renaming) → StartsAt ps o Ys → below_of (Ys ++ (R ∷ [])) ≡ Some (below_or ps o (name_of R))
below_more ps None Ys R s = ap (λ zs. below_of (zs ++ (R ∷ []))) s
below_more ps (Some h) Ys R s = ap (λ zs. below_of (zs ++ (R ∷ []))) s.3 ∙ ap Some (sym (name_read ps h s.0 s.2))

apart_longer : (Xs Ys Zs : List Renaming) (S : Renaming) → AreApart Xs (S ∷ Ys) → AreApart Xs (S ∷ Zs)
apart_longer [] Ys Zs S a = tt
apart_longer (R ∷ Xs) Ys Zs S a = a

apart_new : (ps : List Placed) (o : Option ℕ) (Xs : List Renaming) (R : Renaming) → StartsAt ps o Xs → has_node (nodes_of ps) (name_of R) ≡ false → AreApart Xs (R ∷ [])
apart_new ps None Xs R s f = subst (λ zs. AreApart zs (R ∷ [])) (sym s) tt
apart_new ps (Some h) Xs R s f =
    let p = s.0 in
    let there : has_node (nodes_of ps) (name_of p.renaming) ≡ true = node_named (node_of p) (nodes_of ps) (node_in ps h p s.2) in
    let o : name_eq (name_of p.renaming) (name_of R) ≡ false =
    not_true (name_eq (name_of p.renaming) (name_of R)) (λ q. true_false (has_node (nodes_of ps) (name_of R)) (subst (λ z. has_node (nodes_of ps) z ≡ true) (name_eq_is (name_of p.renaming) (name_of R) q) there) f) in
    subst (λ zs. AreApart zs (R ∷ [])) (sym s.3) o

apart_opened : (ps : List Placed) → AreNodes (nodes_of ps) → (a b : Option ℕ) (Xs Ys : List Renaming) (R : Renaming) → StartsAt ps a Xs → StartsAt ps b Ys → AreTwo a b → has_node (nodes_of ps) (name_of R) ≡ false → AreApart Xs (Ys ++ (R ∷ []))
apart_opened ps d a None Xs Ys R s t n f = subst (λ zs. AreApart Xs (zs ++ (R ∷ []))) (sym t) (apart_new ps a Xs R s f)
apart_opened ps d a (Some k) Xs Ys R s t n f =
    let S = t.0.renaming in
    subst (λ zs. AreApart Xs (zs ++ (R ∷ []))) (sym t.3) (apart_longer Xs t.1 (t.1 ++ (R ∷ [])) S (subst (AreApart Xs) t.3 (apart_is ps d a (Some k) Xs Ys s t n)))

-- the order of a kept epoch and one that is to be opened in another
pub opened_is : (top : EpochName) (ps : List Placed) → AreNodes (nodes_of ps) → (e f : EpochName) (c d : Climb) (node : Node) → is_of node e ≡ false → has_node (nodes_of ps) (name_of node.renaming) ≡ false → node.parent ≡ f
    → c.at ≡ d.at → AreTwo c.below d.below → IsAbove top ps e c → IsAbove top ps f d →
    side_cmp (option_map (place_name ps) c.below) (Some (below_or ps d.below (name_of node.renaming))) ≡ epoch_cmp (node ∷ nodes_of ps) e (name_of node.renaming)
opened_is top ps n e f c d node k fresh g h two i j =
    let ns = nodes_of ps in
    let R = node.renaming in
    let P = path ns (epoch_at top ps c.at) in
    let old : path (node ∷ ns) e ≡ P ++ i.0 = path_other node ns e k ∙ i.1 in
    let new : path (node ∷ ns) (name_of R) ≡ P ++ (j.0 ++ (R ∷ [])) =
    path_child node ns (name_of R) (name_eq_refl (name_of R))
    ∙ (ap (λ z. path ns z ++ (R ∷ [])) g
    ∙ (ap (λ z. z ++ (R ∷ [])) (j.1 ∙ ap (λ z. path ns (epoch_at top ps z) ++ j.0) (sym h)) ∙ append_assoc P j.0 (R ∷ []))) in
    ap (λ o. side_cmp o (Some (below_or ps d.below (name_of R)))) (sym (below_is ps c.below i.0 i.2))
    ∙ (ap (side_cmp (below_of i.0)) (sym (below_more ps d.below j.0 R j.2))
    ∙ (side_is i.0 (j.0 ++ (R ∷ [])) (apart_opened ps n c.below d.below i.0 j.0 R i.2 j.2 two fresh)
    ∙ (sym (front_same P i.0 (j.0 ++ (R ∷ [])))
    ∙ (ap (λ z. slice_cmp renaming_cmp z (P ++ (j.0 ++ (R ∷ [])))) (sym old) ∙ ap (slice_cmp renaming_cmp (path (node ∷ ns) e)) (sym new)))))
