-- The list of what is spanned rises strictly, so it is known by its elements, and it is the same over a window as over the whole.
use Rattle.std.proofs.Common.{◌≡◌, Bool, true, false, List, [], ◌∷◌, refl, sym, ap, ◌∙◌, subst, inl, inr, ◌⊎◌, ⊎_elim, length, suc}
use Rattle.std.specs.Prelude.{filter, if◌then◌else◌}
use Rattle.std.specs.declared.cmp.Ordering.TheVariants.{Less}
use Rattle.std.specs.Ordering.{is_lt}
use Rattle.rls_ident.specs.declared.epoch_name.EpochName.{EpochName}
use Rattle.rls_ident.specs.EpochNames.{name_eq}
use Rattle.rls_ident.specs.Lists.{IsIn}
use Rattle.rls_ident.proofs.Members.{AreOnce, bool_cases, in_filter, once_filter, less_is}
use Rattle.rls_rename.specs.Tree.{Node, name_of, is_of, is_kept, AreNodes, AreBelow, path, epoch_cmp, names}
use Rattle.rls_rename.specs.Connected.{is_spanned, put_epoch, in_order, spanned}
use Rattle.rls_rename.proofs.Paths.{name_eq_refl}
use Rattle.rls_rename.proofs.Order.{less_flips, level_same}
use Rattle.rls_rename.proofs.Hull.{in_sorted, in_put, in_kept, in_spanned, spanned_in, needed_spanned, spanned_top, spanned_part, spanned_least, in_name}
use Rattle.rls_rename.proofs.Windows.{Window, AllKept, cmp_window, window_spanned, spanned_window}
use Rattle.rls_rename.proofs.SameNodes.{paths_total}

-- e is below each of these
abbrev pub IsBelowAll : List Node → EpochName → List EpochName → Type 0
IsBelowAll ns e [] = Unit {0}
IsBelowAll ns e (f ∷ fs) = (epoch_cmp ns e f ≡ Less) × IsBelowAll ns e fs

-- each is below all later ones
abbrev pub Rises : List Node → List EpochName → Type 0
Rises ns [] = Unit {0}
Rises ns (e ∷ es) = IsBelowAll ns e es × Rises ns es

pub below_at : (ns : List Node) (e f : EpochName) (es : List EpochName) → IsBelowAll ns e es → IsIn f es → epoch_cmp ns e f ≡ Less
below_at ns e f [] b p = absurd p
below_at ns e f (g ∷ es) b (inl q) = subst (λ h. epoch_cmp ns e h ≡ Less) q b.0
below_at ns e f (g ∷ es) b (inr p) = below_at ns e f es b.1 p

below_all : (ns : List Node) (e : EpochName) (es : List EpochName) → ((f : EpochName) → IsIn f es → epoch_cmp ns e f ≡ Less) → IsBelowAll ns e es
below_all ns e [] h = tt
below_all ns e (f ∷ es) h = (h f (inl refl), below_all ns e es (λ g p. h g (inr p)))

-- strictly rising lists with the same elements are one
pub same_rising : (ns : List Node) (xs ys : List EpochName) → Rises ns xs → Rises ns ys → ((z : EpochName) → IsIn z xs → IsIn z ys) → ((z : EpochName) → IsIn z ys → IsIn z xs) → xs ≡ ys
same_rising ns [] [] r s f g = refl
same_rising ns [] (y ∷ ys) r s f g = absurd (g y (inl refl))
same_rising ns (x ∷ xs) [] r s f g = absurd (f x (inl refl))
same_rising ns (x ∷ xs) (y ∷ ys) r s f g =
    let e = heads (f x (inl refl)) (g y (inl refl)) in
    ap (λ w. w ∷ xs) e ∙ ap (λ zs. y ∷ zs) (same_rising ns xs ys r.1 s.1 (into e) (onto e))
  where
    heads : (y ≡ x) ⊎ IsIn x ys → (x ≡ y) ⊎ IsIn y xs → x ≡ y
    heads (inl p) q = sym p
    heads (inr p) (inl q) = q
    heads (inr p) (inr q) = absurd (less_flips ns x y (below_at ns x y xs r.0 q) (below_at ns y x ys s.0 p))

    into : x ≡ y → (z : EpochName) → IsIn z xs → IsIn z ys
    into e z p = ⊎_elim (λ q. let l = below_at ns x z xs r.0 p in let m = subst (λ w. epoch_cmp ns x w ≡ Less) (sym (e ∙ q)) l in absurd (less_flips ns x x m m)) (λ q. q) (f z (inr p))

    onto : x ≡ y → (z : EpochName) → IsIn z ys → IsIn z xs
    onto e z p = ⊎_elim (λ q. let l = below_at ns y z ys s.0 p in let m = subst (λ w. epoch_cmp ns y w ≡ Less) (sym (sym e ∙ q)) l in absurd (less_flips ns y y m m)) (λ q. q) (g z (inr p))

-- ---- putting in order

less_of : (top : EpochName) (ns : List Node) → AreNodes ns → AreBelow top ns → (e f : EpochName) → is_kept top ns e ≡ true → is_kept top ns f ≡ true → (e ≡ f → ⊥) → is_lt (epoch_cmp ns f e) ≡ false → epoch_cmp ns e f ≡ Less
less_of top ns d b e f k l n h =
    bool_cases (is_lt (epoch_cmp ns e f)) (λ q. less_is (epoch_cmp ns e f) q)
    (λ q. absurd (n (level_same top ns d b e f k l (λ r. let x = ap is_lt r in absurd (cc)) (λ r. let x = ap is_lt r in absurd (cc)))))

rises_put : (top : EpochName) (ns : List Node) → AreNodes ns → AreBelow top ns → (e : EpochName) (es : List EpochName) → is_kept top ns e ≡ true → ((f : EpochName) → IsIn f es → is_kept top ns f ≡ true) → (IsIn e es → ⊥) → Rises ns es → Rises ns (put_epoch ns e es)
rises_put top ns d b e [] k a n r = (tt, tt)
rises_put top ns d b e (f ∷ es) k a n r = go (is_lt (epoch_cmp ns f e)) refl (rises_put top ns d b e es k (λ g p. a g (inr p)) (λ p. n (inr p)) r.1)
  where
    go : (c : Bool) → is_lt (epoch_cmp ns f e) ≡ c → Rises ns (put_epoch ns e es) → Rises ns (if c then f ∷ put_epoch ns e es else e ∷ f ∷ es)
    go true h ih = (below_all ns f (put_epoch ns e es) (λ g p. ⊎_elim (λ q. subst (λ z. epoch_cmp ns f z ≡ Less) q (less_is (epoch_cmp ns f e) h)) (λ q. below_at ns f g es r.0 q) (in_put ns g e es p)), ih)
    go false h ih =
        let l = less_of top ns d b e f k (a f (inl refl)) (λ q. n (inl (sym q))) h in
        ((l, below_all ns e es (λ g p. paths_total.trans (path ns e) (path ns f) (path ns g) l (below_at ns f g es r.0 p))), r)

rises_order : (top : EpochName) (ns : List Node) → AreNodes ns → AreBelow top ns → (es : List EpochName) → ((f : EpochName) → IsIn f es → is_kept top ns f ≡ true) → AreOnce es → Rises ns (in_order ns es)
rises_order top ns d b [] a o = tt
rises_order top ns d b (e ∷ es) a o =
    rises_put top ns d b e (in_order ns es) (a e (inl refl)) (λ f p. a f (inr (in_sorted ns f es p))) (λ p. o.0 (in_sorted ns e es p)) (rises_order top ns d b es (λ f p. a f (inr p)) o.1)

names_once : (ns : List Node) → AreNodes ns → AreOnce (names ns)
names_once [] d = tt
names_once (n ∷ ns) d = ((λ p. let x = in_name ns (name_of n.renaming) p in let y = d.1 in absurd (cc)), names_once ns d.2)

top_once : (top : EpochName) (ns : List Node) → AreBelow top ns → IsIn top (names ns) → ⊥
top_once top [] b p = p
top_once top (n ∷ ns) b (inl h) = let x : is_of n top ≡ true = ap (name_eq (name_of n.renaming)) (sym h) ∙ name_eq_refl (name_of n.renaming) in let y = b.1 in absurd (cc)
top_once top (n ∷ ns) b (inr p) = top_once top ns b.2 p

-- ---- what is spanned

pub spanned_rises : (top : EpochName) (ns : List Node) → AreNodes ns → AreBelow top ns → (e : EpochName) (es : List EpochName) → Rises ns (spanned top ns e es)
unfolding spanned
spanned_rises top ns d b e es =
    rises_order top ns d b (filter (is_spanned ns e es) (top ∷ names ns)) (λ f p. in_kept top ns f (in_filter (is_spanned ns e es) f (top ∷ names ns) p).0)
    (once_filter (is_spanned ns e es) (top ∷ names ns) (top_once top ns b, names_once ns d))

below_window : {U : EpochName} {A : List Node} {top : EpochName} {B : List Node} → Window U A top B → (e : EpochName) (es : List EpochName) → is_kept U A e ≡ true → AllKept U A es → IsBelowAll A e es → IsBelowAll B e es
below_window w e [] k a h = tt
below_window w e (f ∷ es) k a h = (sym (cmp_window w e f k (a f (inl refl))) ∙ h.0, below_window w e es k (λ g p. a g (inr p)) h.1)

rises_window : {U : EpochName} {A : List Node} {top : EpochName} {B : List Node} → Window U A top B → (es : List EpochName) → AllKept U A es → Rises A es → Rises B es
rises_window w [] a r = tt
rises_window w (e ∷ es) a r = (below_window w e es (a e (inl refl)) (λ g p. a g (inr p)) r.0, rises_window w es (λ g p. a g (inr p)) r.1)

-- over a window that keeps the given epochs the list is that over the whole
pub spanned_same : {U : EpochName} {A : List Node} {top : EpochName} {B : List Node} → Window U A top B → (e : EpochName) (es : List EpochName) → AllKept U A (e ∷ es) → spanned U A e es ≡ spanned top B e es
spanned_same {U = U} {A = A} {top = top} {B = B} w e es k =
    same_rising B (spanned U A e es) (spanned top B e es)
    (rises_window w (spanned U A e es) (λ f p. (in_spanned U A e es f p).0) (spanned_rises U A w.nodes w.below e es))
    (spanned_rises top B w.whole w.tree e es)
    (window_spanned w e es k)
    (spanned_window w e es k)

least_in : (top : EpochName) (ns : List Node) → AreNodes ns → AreBelow top ns → (e : EpochName) (es : List EpochName) (f : EpochName) (fs : List EpochName) → AllKept top ns (f ∷ fs) → ((g : EpochName) → IsIn g (e ∷ es) → IsIn g (f ∷ fs)) →
    (z : EpochName) → IsIn z (spanned top ns e es) → IsIn z (spanned top ns f fs)
least_in top ns d b e es f fs k h z p =
    let u = spanned_top top ns d b f fs (k f (inl refl)) in
    let r = in_spanned top ns e es z p in
    spanned_least top ns d b e es u.0 (λ g. IsIn g (spanned top ns f fs)) (spanned_part top ns d b f fs u.0 u.1 u.2)
    (λ g q. spanned_in top ns f fs g (k g (h g q)) (needed_spanned ns d f fs g (h g q))) z r.0 r.1

-- what is spanned depends on the set of the given epochs alone
pub spanned_members : (top : EpochName) (ns : List Node) → AreNodes ns → AreBelow top ns → (e : EpochName) (es : List EpochName) (f : EpochName) (fs : List EpochName) → AllKept top ns (e ∷ es) → AllKept top ns (f ∷ fs) →
    ((g : EpochName) → IsIn g (e ∷ es) → IsIn g (f ∷ fs)) → ((g : EpochName) → IsIn g (f ∷ fs) → IsIn g (e ∷ es)) → spanned top ns e es ≡ spanned top ns f fs
spanned_members top ns d b e es f fs j k h i =
    same_rising ns (spanned top ns e es) (spanned top ns f fs) (spanned_rises top ns d b e es) (spanned_rises top ns d b f fs) (least_in top ns d b e es f fs k h) (least_in top ns d b f fs e es j i)

-- ---- lengths

length-put_epoch : (ns : List Node) (e : EpochName) (fs : List EpochName) → length (put_epoch ns e fs) ≡ suc (length fs)
length-put_epoch ns e [] = refl
length-put_epoch ns e (f ∷ fs) = go (is_lt (epoch_cmp ns f e)) (length-put_epoch ns e fs)
  where
    go : (b : Bool) → length (put_epoch ns e fs) ≡ suc (length fs) → length (if b then f ∷ put_epoch ns e fs else e ∷ f ∷ fs) ≡ suc (suc (length fs))
    go true h = ap suc h
    go false h = refl

pub length-in_order : (ns : List Node) (es : List EpochName) → length (in_order ns es) ≡ length es
length-in_order ns [] = refl
length-in_order ns (e ∷ es) = length-put_epoch ns e (in_order ns es) ∙ ap suc (length-in_order ns es)
