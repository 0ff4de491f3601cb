-- A renaming, and so translation, adds no tuples to an identifier but those of its new identifiers on the way down, and those of its former
-- ones on the way back.
use Rattle.std.proofs.Common.{◌≡◌, ℕ, suc, ◌+◌, ◌<◌, length, List, [], ◌∷◌, ◌++◌, refl, sym, ap, ◌∙◌, subst, arith, inl, inr}
use Rattle.std.specs.Prelude.{pos, negsuc}
use Rattle.rls_ident.specs.declared.tuple.Spot.{Spot}
use Rattle.rls_ident.specs.declared.tuple.Tuple.{Tuple}
use Rattle.rls_ident.specs.declared.tuple.Tuple.TheVariants.{Low, High}
use Rattle.rls_ident.specs.Lists.{IsIn}
use Rattle.rls_ident.specs.Tuples.{tuple_pred, at_offset}
use Rattle.rls_ident.specs.Identifiers.{IsIdent, ident_cmp, last_of, pred}
use Rattle.rls_ident.proofs.Lists.{Lt}
use Rattle.rls_ident.proofs.Tuples.{tuples}
use Rattle.rls_rename.specs.Renaming.{Renaming, IsFormer, new_spot, new_at, old_below, old_below_inverse, old_between, old_between_inverse, old_above_inverse, new_below, new_below_inverse, new_between, new_between_inverse, new_above_inverse, forward_above, forward_by, back_above, back_by, forward, back}
use Rattle.rls_rename.specs.Tree.{Node, forward_all, back_all}
use Rattle.rls_rename.proofs.Increasing.{old_above_iso, former_first}
use Rattle.rls_rename.proofs.Last.{low_last}
use Rattle.rls_rename.proofs.Paths.{IsAmong, AreAmong}
use Rattle.rls_passages.proofs.Inner.{Every, Inner, every_append, every_inner, every_pred, inner_cons, inner_drop, inner_order, inner_low, inner_high, inner_low_inverse, inner_high_inverse}

-- each former identifier has such tuples, also where its last offset is less by one
abbrev pub HaveFormer : (Tuple → Type 0) → List (List Tuple) → Type 0
HaveFormer T former = (a : List Tuple) → IsIn a former → Every T a × T (tuple_pred (last_of a))

-- the new identifiers are such tuples, and the one below them
abbrev pub HasNew : (Tuple → Type 0) → Spot → ℕ → Type 0
HasNew T s n = T (at_offset s (negsuc 0)) × ((j : ℕ) → j < n → T (at_offset s (pos j)))

-- ---- forward

above_forward : (T : Tuple → Type 0) (s : Spot) (i : ℕ) (a : List Tuple) (rest : List (List Tuple)) (x : List Tuple) → ((j : ℕ) → j < suc i + length rest → T (at_offset s (pos j))) → Inner T x → Inner T (forward_above s i a rest x)
unfolding forward_above
above_forward T s i a [] x f h = inner_low T (new_at s i) (old_above_inverse a x) (f i (omega arith), tt) (inner_low_inverse T (a ++ (Low ∷ [])) x h)
above_forward T s i a (b ∷ rest) x f h =
    let y = old_between_inverse a b x in
    let k : Inner T y = inner_high_inverse T (pred (old_above_inverse a b) ++ (High ∷ [])) (old_above_inverse a x) (inner_low_inverse T (a ++ (Low ∷ [])) x h) in
    inner_order T (ident_cmp x b) (new_between s i y) (new_at s (i + 1)) (forward_above s (i + 1) b rest x)
    (inner_cons T (at_offset s (pos i)) y (f i (omega arith)) k) tt
    (above_forward T s (i + 1) b rest x (λ j l. f j (omega arith)) h)

by_forward : (T : Tuple → Type 0) (s : Spot) (former : List (List Tuple)) (x : List Tuple) → HasNew T s (length former) → Inner T x → Inner T (forward_by s former x)
unfolding forward_by
by_forward T s [] x f h = h
by_forward T s (a ∷ rest) x f h =
    let y = old_below_inverse a x in
    inner_order T (ident_cmp x a) (new_below s y) (new_at s 0) (forward_above s 0 a rest x)
    (inner_high T (at_offset s (negsuc 0) ∷ []) y (f.0, tt) (inner_high_inverse T (pred a ++ (High ∷ [])) x h)) tt
    (above_forward T s 0 a rest x (λ j l. f.1 j (omega arith)) h)

pub forward_inner : (T : Tuple → Type 0) (R : Renaming) (x : List Tuple) → HasNew T (new_spot R) (length R.former) → Inner T x → Inner T (forward R x)
unfolding forward
forward_inner T R x f h = by_forward T (new_spot R) R.former x f h

-- ---- back

-- right above a former identifier
above_every : (T : Tuple → Type 0) (a : List Tuple) → T Low → Every T a → Every T (a ++ (Low ∷ []))
above_every T a l h = every_append T a (Low ∷ []) h (l, tt)

-- right below one
below_every : (T : Tuple → Type 0) (a : List Tuple) → T High → Inner T a → T (tuple_pred (last_of a)) → Every T (pred a ++ (High ∷ []))
below_every T a l h k = every_append T (pred a) (High ∷ []) (every_pred T a h k) (l, tt)

-- what the gap's map takes to b ends as b does
last_behind : (a b : List Tuple) → IsIdent b → Lt tuples a b → last_of (old_above_inverse a b) ≡ last_of b
last_behind a b i l =
    let m = old_above_iso a in
    let j = m.onto b (i, l) in
    sym (low_last (a ++ (Low ∷ [])) (old_above_inverse a b) j) ∙ ap last_of (m.back b (i, l))

above_back : (T : Tuple → Type 0) (s : Spot) (i : ℕ) (a : List Tuple) (rest : List (List Tuple)) (z : List Tuple) → T Low → T High → IsFormer (a ∷ rest) → HaveFormer T (a ∷ rest) → Inner T z → Inner T (back_above s i a rest z)
unfolding back_above
above_back T s i a [] z l g p f h = inner_low T (a ++ (Low ∷ [])) (new_above_inverse s i z) (above_every T a l (f a (inl refl)).0) (inner_low_inverse T (new_at s i) z h)
above_back T s i a (b ∷ rest) z l g p f h =
    let y = new_between_inverse z in
    let c = old_above_inverse a b in
    let fb = f b (inr (inl refl)) in
    let e = last_behind a b (former_first b rest p.2) (record { less = p.1 }) in
    let ic : Inner T c = inner_low_inverse T (a ++ (Low ∷ [])) b (every_inner T b fb.0) in
    let ec : Every T (pred c ++ (High ∷ [])) = below_every T c g ic (subst (λ t. T (tuple_pred t)) (sym e) fb.1) in
    inner_order T (ident_cmp z (new_at s (i + 1))) (old_between a b y) b (back_above s (i + 1) b rest z)
    (inner_low T (a ++ (Low ∷ [])) (old_below c y) (above_every T a l (f a (inl refl)).0) (inner_high T (pred c ++ (High ∷ [])) y ec (inner_drop T 1 z h)))
    (every_inner T b fb.0)
    (above_back T s (i + 1) b rest z l g p.2 (λ x q. f x (inr q)) h)

by_back : (T : Tuple → Type 0) (s : Spot) (former : List (List Tuple)) (z : List Tuple) → T Low → T High → IsFormer former → HaveFormer T former → Inner T z → Inner T (back_by s former z)
unfolding back_by
by_back T s [] z l g p f h = h
by_back T s (a ∷ rest) z l g p f h =
    let fa = f a (inl refl) in
    inner_order T (ident_cmp z (new_at s 0)) (old_below a (new_below_inverse s z)) a (back_above s 0 a rest z)
    (inner_high T (pred a ++ (High ∷ [])) (new_below_inverse s z) (below_every T a g (every_inner T a fa.0) fa.1) (inner_high_inverse T (at_offset s (negsuc 0) ∷ []) z h))
    (every_inner T a fa.0)
    (above_back T s 0 a rest z l g p f h)

pub back_inner : (T : Tuple → Type 0) (R : Renaming) (z : List Tuple) → T Low → T High → IsFormer R.former → HaveFormer T R.former → Inner T z → Inner T (back R z)
unfolding back
back_inner T R z l g p f h = by_back T (new_spot R) R.former z l g p f h

-- ---- paths

pub down_inner : (T : Tuple → Type 0) (nodes : List Node) (Rs : List Renaming) (x : List Tuple) → ((R : Renaming) → IsAmong nodes R → HasNew T (new_spot R) (length R.former)) → AreAmong nodes Rs → Inner T x → Inner T (forward_all Rs x)
unfolding forward_all
down_inner T nodes [] x f a h = h
down_inner T nodes (R ∷ Rs) x f a h = down_inner T nodes Rs (forward R x) f a.1 (forward_inner T R x (f R a.0) h)

pub up_inner : (T : Tuple → Type 0) (nodes : List Node) (Rs : List Renaming) (x : List Tuple) → T Low → T High → ((R : Renaming) → IsAmong nodes R → IsFormer R.former × HaveFormer T R.former) → AreAmong nodes Rs → Inner T x → Inner T (back_all Rs x)
unfolding back_all
up_inner T nodes [] x l g f a h = h
up_inner T nodes (R ∷ Rs) x l g f a h =
    let r = f R a.0 in
    back_inner T R (back_all Rs x) l g r.0 r.1 (up_inner T nodes Rs x l g f a.1 h)
