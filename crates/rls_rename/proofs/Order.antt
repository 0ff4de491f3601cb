-- The order of epochs: the greatest of a tree and the greatest within a vector are known by what is not above them.
use Rattle.std.proofs.Common.{◌≡◌, ℕ, Bool, true, false, List, [], ◌∷◌, ◌++◌, refl, sym, ap, ◌∙◌, subst, inl, inr, ◌⊎◌, ⊎_elim}
use Rattle.std.specs.Prelude.{if◌then◌else◌, ◌||◌}
use Rattle.std.specs.declared.cmp.Ordering.{Ordering}
use Rattle.std.specs.declared.cmp.Ordering.TheVariants.{Less, Equal, Greater}
use Rattle.std.specs.Ordering.{is_lt, ordering_then, ordering_reverse}
use Rattle.std.specs.Cmp.Lexicographic.{slice_cmp}
use Rattle.std.proofs.lemmas.Cmp.{tied_itself}
use Rattle.rls_ident.specs.declared.epoch_name.EpochName.{EpochName}
use Rattle.rls_ident.specs.EpochNames.{name_eq, is_within}
use Rattle.rls_ident.specs.Lists.{IsIn}
use Rattle.rls_ident.proofs.Members.{bool_cases, or_left, or_right, or_split}
use Rattle.rls_rename.specs.Renaming.{Renaming}
use Rattle.rls_rename.specs.Tree.{Node, name_of, is_of, has_node, is_kept, AreNodes, AreBelow, path, renaming_cmp, epoch_cmp, greatest_from, names, names_within, greatest, greatest_within}
use Rattle.rls_rename.proofs.Growth.{path_other, path_child, kept_other}
use Rattle.rls_rename.proofs.Kept.{greatest_kept, greatest_within_kept}
use Rattle.rls_rename.proofs.Paths.{name_eq_is, name_eq_refl}
use Rattle.rls_rename.proofs.SameNodes.{renaming_total, epoch_same, from_top, name_in, greatest_top, paths_total, tied, top_at}

-- ---- paths

pub front_same : (p x y : List Renaming) → slice_cmp renaming_cmp (p ++ x) (p ++ y) ≡ slice_cmp renaming_cmp x y
front_same [] x y = refl
front_same (R ∷ p) x y = ap (λ o. ordering_then o (slice_cmp renaming_cmp (p ++ x) (p ++ y))) (tied_itself renaming_total R) ∙ front_same p x y

pub longer_less : (p : List Renaming) (R : Renaming) (q : List Renaming) → slice_cmp renaming_cmp p (p ++ (R ∷ q)) ≡ Less
longer_less [] R q = refl
longer_less (S ∷ p) R q = ap (λ o. ordering_then o (slice_cmp renaming_cmp p (p ++ (R ∷ q)))) (tied_itself renaming_total S) ∙ longer_less p R q

-- ---- epochs

pub less_flips : (ns : List Node) (e f : EpochName) → epoch_cmp ns e f ≡ Less → epoch_cmp ns f e ≡ Less → ⊥
less_flips ns e f h k = let q = paths_total.antisymm (path ns e) (path ns f) ∙ ap ordering_reverse k in absurd (cc)

pub less_self : (ns : List Node) (e : EpochName) → epoch_cmp ns e e ≡ Less → ⊥
less_self ns e h = less_flips ns e e h h

-- what isn't below f, isn't below what is below or beside f
pub above_trans : (ns : List Node) (g f e : EpochName) → (epoch_cmp ns g f ≡ Less → ⊥) → (epoch_cmp ns f e ≡ Less → ⊥) → epoch_cmp ns g e ≡ Less → ⊥
above_trans ns g f e h k l = go (epoch_cmp ns g f) refl
  where
    go : (o : Ordering) → epoch_cmp ns g f ≡ o → ⊥
    go Less q = h q
    go Equal q = k (sym (paths_total.congr (path ns g) (path ns f) (path ns e) q) ∙ l)
    go Greater q =
        let r : epoch_cmp ns f g ≡ Less = paths_total.antisymm (path ns f) (path ns g) ∙ ap ordering_reverse q in
        k (paths_total.trans (path ns f) (path ns g) (path ns e) r l)

-- two kept epochs of which neither is below the other are one
pub level_same : (top : EpochName) (ns : List Node) → AreNodes ns → AreBelow top ns → (e f : EpochName) → is_kept top ns e ≡ true → is_kept top ns f ≡ true → (epoch_cmp ns e f ≡ Less → ⊥) → (epoch_cmp ns f e ≡ Less → ⊥) → e ≡ f
level_same top ns d b e f k l h m =
    epoch_same top ns d b e f k l (tied (epoch_cmp ns e f) h (λ q. m (paths_total.antisymm (path ns f) (path ns e) ∙ q)))

-- ---- the greatest

-- a kept epoch below which no kept epoch lies above is the greatest
pub greatest_is : (top : EpochName) (ns : List Node) → AreNodes ns → AreBelow top ns → (g : EpochName) → is_kept top ns g ≡ true → ((e : EpochName) → is_kept top ns e ≡ true → epoch_cmp ns g e ≡ Less → ⊥) → greatest top ns ≡ g
greatest_is top ns d b g k f =
    level_same top ns d b (greatest top ns) g (greatest_kept top ns) k (greatest_top top ns g k) (f (greatest top ns) (greatest_kept top ns))

pub kept_before : (top : EpochName) (node : Node) (older : List Node) (f : EpochName) → is_of node f ≡ false → is_kept top (node ∷ older) f ≡ true → is_kept top older f ≡ true
kept_before top node older f h k = sym (ap (λ b. name_eq f top || (b || has_node older f)) h) ∙ k

pub kept_here : (top : EpochName) (node : Node) (older : List Node) → is_kept top (node ∷ older) (name_of node.renaming) ≡ true
kept_here top node older =
    let e = name_of node.renaming in
    or_right (name_eq e top) (is_of node e || has_node older e) (or_left (is_of node e) (has_node older e) (name_eq_refl e))

-- a parent is below its child
pub parent_less : (top : EpochName) (node : Node) (older : List Node) → AreNodes (node ∷ older) → AreBelow top (node ∷ older) → epoch_cmp (node ∷ older) node.parent (name_of node.renaming) ≡ Less
parent_less top node older d b =
    let p = path_other node older node.parent (kept_other top node older node.parent d b b.0) in
    let q = path_child node older (name_of node.renaming) (name_eq_refl (name_of node.renaming)) in
    ap (λ x. slice_cmp renaming_cmp x (path (node ∷ older) (name_of node.renaming))) p
    ∙ (ap (λ x. slice_cmp renaming_cmp (path older node.parent) x) q ∙ longer_less (path older node.parent) node.renaming [])

-- two older epochs stand as before
pub older_cmp : (top : EpochName) (node : Node) (older : List Node) → AreNodes (node ∷ older) → AreBelow top (node ∷ older) → (e f : EpochName) → is_kept top older e ≡ true → is_kept top older f ≡ true → epoch_cmp (node ∷ older) e f ≡ epoch_cmp older e f
older_cmp top node older d b e f k l =
    ap (λ x. slice_cmp renaming_cmp x (path (node ∷ older) f)) (path_other node older e (kept_other top node older e d b k))
    ∙ ap (λ x. slice_cmp renaming_cmp (path older e) x) (path_other node older f (kept_other top node older f d b l))

-- the child of the greatest epoch is the greatest
pub greatest_child : (top : EpochName) (node : Node) (older : List Node) → AreNodes (node ∷ older) → AreBelow top (node ∷ older) → node.parent ≡ greatest top older → greatest top (node ∷ older) ≡ name_of node.renaming
greatest_child top node older d b h =
    let ns = node ∷ older in
    let n = name_of node.renaming in
    let up = parent_less top node older d b in
    greatest_is top ns d b n (kept_here top node older)
    (λ e k l. bool_cases (is_of node e)
    (λ q. less_self ns n (subst (λ z. epoch_cmp ns n z ≡ Less) (sym (name_eq_is n e q)) l))
    (λ q. let m = kept_before top node older e q k in
    let r : epoch_cmp ns node.parent e ≡ Less = paths_total.trans (path ns node.parent) (path ns n) (path ns e) up l in
    greatest_top top older e m (subst (λ z. epoch_cmp older z e ≡ Less) h (sym (older_cmp top node older d b node.parent e b.0 m) ∙ r))))

-- ---- the greatest within a vector

pub in_within : (es : List EpochName) (v : List ℕ) (e : EpochName) → IsIn e (names_within es v) → IsIn e es × (is_within e v ≡ true)
in_within [] v e p = absurd p
in_within (f ∷ es) v e p = go (is_within f v) refl p (λ q. in_within es v e q)
  where
    go : (b : Bool) → is_within f v ≡ b → IsIn e (if b then f ∷ names_within es v else names_within es v) → (IsIn e (names_within es v) → IsIn e es × (is_within e v ≡ true)) → IsIn e (f ∷ es) × (is_within e v ≡ true)
    go true h (inl q) ih = (inl q, ap (λ z. is_within z v) (sym q) ∙ h)
    go true h (inr q) ih = let r = ih q in (inr r.0, r.1)
    go false h q ih = let r = ih q in (inr r.0, r.1)

pub within_in : (es : List EpochName) (v : List ℕ) (e : EpochName) → IsIn e es → is_within e v ≡ true → IsIn e (names_within es v)
within_in [] v e p h = absurd p
within_in (f ∷ es) v e p h = go (is_within f v) refl p (λ q. within_in es v e q h)
  where
    go : (b : Bool) → is_within f v ≡ b → IsIn e (f ∷ es) → (IsIn e es → IsIn e (names_within es v)) → IsIn e (if b then f ∷ names_within es v else names_within es v)
    go true k (inl q) ih = inl q
    go true k (inr q) ih = inr (ih q)
    go false k (inl q) ih = let r = ap (λ z. is_within z v) q in absurd (cc)
    go false k (inr q) ih = ih q

from_in : (ns : List Node) (e : EpochName) (fs : List EpochName) → (greatest_from ns e fs ≡ e) ⊎ IsIn (greatest_from ns e fs) fs
from_in ns e [] = inl refl
from_in ns e (f ∷ fs) = go (is_lt (epoch_cmp ns e f)) (λ g. from_in ns g fs)
  where
    go : (b : Bool) → ((g : EpochName) → (greatest_from ns g fs ≡ g) ⊎ IsIn (greatest_from ns g fs) fs) → (greatest_from ns (if b then f else e) fs ≡ e) ⊎ IsIn (greatest_from ns (if b then f else e) fs) (f ∷ fs)
    go true ih = ⊎_elim (λ q. inr (inl (sym q))) (λ q. inr (inr q)) (ih f)
    go false ih = ⊎_elim (λ q. inl q) (λ q. inr (inr q)) (ih e)

-- an epoch that is the topmost or within the vector
abbrev pub IsAllowed : EpochName → List ℕ → EpochName → Type 0
IsAllowed top v e = (e ≡ top) ⊎ (is_within e v ≡ true)

pub within_allowed : (top : EpochName) (ns : List Node) (v : List ℕ) → IsAllowed top v (greatest_within top ns v)
unfolding greatest_within
within_allowed top ns v = ⊎_elim (λ e. inl e) (λ p. inr (in_within (names ns) v (greatest_from ns top (names_within (names ns) v)) p).1) (from_in ns top (names_within (names ns) v))

-- no kept epoch within the vector is greater, nor is the topmost
pub within_top : (top : EpochName) (ns : List Node) (v : List ℕ) (e : EpochName) → is_kept top ns e ≡ true → IsAllowed top v e → epoch_cmp ns (greatest_within top ns v) e ≡ Less → ⊥
unfolding greatest_within
within_top top ns v e k a l =
    let G = greatest_from ns top (names_within (names ns) v) in
    let t = from_top ns top (names_within (names ns) v) in
    let first : e ≡ top → ⊥ = λ q. t.0 (ap (epoch_cmp ns G) (sym q) ∙ l) in
    ⊎_elim first
    (λ w. ⊎_elim (λ h. first (name_eq_is e top h)) (λ h. top_at ns G e (names_within (names ns) v) t.1 (within_in (names ns) v e (name_in ns e h) w) l) (or_split (name_eq e top) (has_node ns e) k))
    a

-- a kept epoch that is allowed and below which no allowed one lies above is the greatest
pub within_is : (top : EpochName) (ns : List Node) (v : List ℕ) → AreNodes ns → AreBelow top ns → (g : EpochName) → is_kept top ns g ≡ true → IsAllowed top v g → ((e : EpochName) → is_kept top ns e ≡ true → IsAllowed top v e → epoch_cmp ns g e ≡ Less → ⊥) →
    greatest_within top ns v ≡ g
within_is top ns v d b g k a f =
    level_same top ns d b (greatest_within top ns v) g (greatest_within_kept top ns v) k (within_top top ns v g k a) (f (greatest_within top ns v) (greatest_within_kept top ns v) (within_allowed top ns v))
