-- What holds of the tuples of an identifier, and of those before its last one.
use Rattle.std.proofs.Common.{ℕ, zero, suc, Bool, true, false, cond, List, [], ◌∷◌, ◌++◌, drop, length}
use Rattle.std.specs.Prelude.{ℤ, negsuc, nat_le, ◌+◌}
use Rattle.std.specs.declared.cmp.Ordering.{Ordering}
use Rattle.std.specs.declared.cmp.Ordering.TheVariants.{Less, Equal, Greater}
use Rattle.rls_ident.specs.declared.tuple.Tuple.{Tuple}
use Rattle.rls_ident.specs.declared.tuple.Tuple.TheVariants.{Low}
use Rattle.rls_ident.specs.Tuples.{tuple_cmp, tuple_eq, raised, tuple_pred}
use Rattle.rls_ident.specs.Identifiers.{last_of, shifted, pred}
use Rattle.rls_ident.specs.Maps.{by_order, under, low, high, low_inverse, high_inverse}
use Rattle.rls_ident.specs.Between.{last_pos, lower_number, upper_number, middle, below, upper_behind, between}
use Rattle.rls_ident.proofs.Lists.{Lt, lt_nil}
use Rattle.rls_ident.proofs.Tuples.{tuples}

-- each tuple
abbrev pub Every : (Tuple → Type 0) → List Tuple → Type 0
Every T [] = Unit {0}
Every T (t ∷ x) = T t × Every T x

-- each tuple but the last
abbrev pub Inner : (Tuple → Type 0) → List Tuple → Type 0
Inner T [] = Unit {0}
Inner T (t ∷ []) = Unit {0}
Inner T (t ∷ (u ∷ x)) = T t × Inner T (u ∷ x)

pub every_append : (T : Tuple → Type 0) (x y : List Tuple) → Every T x → Every T y → Every T (x ++ y)
every_append T [] y h k = k
every_append T (t ∷ x) y h k = (h.0, every_append T x y h.1 k)

pub inner_cons : (T : Tuple → Type 0) (t : Tuple) (x : List Tuple) → T t → Inner T x → Inner T (t ∷ x)
inner_cons T t [] h k = tt
inner_cons T t (u ∷ x) h k = (h, k)

pub inner_tail : (T : Tuple → Type 0) (t : Tuple) (x : List Tuple) → Inner T (t ∷ x) → Inner T x
inner_tail T t [] h = tt
inner_tail T t (u ∷ x) h = h.1

pub inner_append : (T : Tuple → Type 0) (p x : List Tuple) → Every T p → Inner T x → Inner T (p ++ x)
inner_append T [] x h k = k
inner_append T (t ∷ p) x h k = inner_cons T t (p ++ x) h.0 (inner_append T p x h.1 k)

pub inner_drop : (T : Tuple → Type 0) (n : ℕ) (x : List Tuple) → Inner T x → Inner T (drop n x)
inner_drop T zero x h = h
inner_drop T (suc n) [] h = tt
inner_drop T (suc n) (t ∷ x) h = inner_drop T n x (inner_tail T t x h)

pub every_inner : (T : Tuple → Type 0) (x : List Tuple) → Every T x → Inner T x
every_inner T [] h = tt
every_inner T (t ∷ x) h = inner_cons T t x h.0 (every_inner T x h.1)

pub inner_every : (T : Tuple → Type 0) (x : List Tuple) → Inner T x → T (last_of x) → Every T x
inner_every T [] h l = tt
inner_every T (t ∷ []) h l = (l, tt)
inner_every T (t ∷ (u ∷ x)) h l = (h.0, inner_every T (u ∷ x) h.1 l)

pub inner_more : (S T : Tuple → Type 0) → ((t : Tuple) → S t → T t) → (x : List Tuple) → Inner S x → Inner T x
inner_more S T f [] h = tt
inner_more S T f (t ∷ []) h = tt
inner_more S T f (t ∷ (u ∷ x)) h = (f t h.0, inner_more S T f (u ∷ x) h.1)

pub every_more : (S T : Tuple → Type 0) → ((t : Tuple) → S t → T t) → (x : List Tuple) → Every S x → Every T x
every_more S T f [] h = tt
every_more S T f (t ∷ x) h = (f t h.0, every_more S T f x h.1)

pub inner_shifted : (T : Tuple → Type 0) (k : ℤ) (x : List Tuple) → Inner T x → Inner T (shifted k x)
inner_shifted T k [] h = tt
inner_shifted T k (t ∷ []) h = tt
inner_shifted T k (t ∷ (u ∷ x)) h = inner_cons T t (shifted k (u ∷ x)) h.0 (inner_shifted T k (u ∷ x) h.1)

-- a tuple with something behind it
pub inner_at : (T : Tuple → Type 0) (base : List Tuple) (t : Tuple) (v : List Tuple) → Lt tuples [] v → Inner T (base ++ (t ∷ v)) → T t
inner_at T [] t [] l h = absurd (lt_nil l)
inner_at T [] t (u ∷ v) l h = h.0
inner_at T (s ∷ base) t v l h = inner_at T base t v l (inner_tail T s (base ++ (t ∷ v)) h)

pub every_pred : (T : Tuple → Type 0) (x : List Tuple) → Inner T x → T (tuple_pred (last_of x)) → Every T (pred x)
every_pred T [] h l = tt
every_pred T (t ∷ []) h l = (l, tt)
every_pred T (t ∷ (u ∷ x)) h l = (h.0, every_pred T (u ∷ x) h.1 l)

-- ---- the maps of a pattern

inner_cond : (T : Tuple → Type 0) (b : Bool) (x y : List Tuple) → Inner T x → Inner T y → Inner T (cond b x y)
inner_cond T true x y h k = h
inner_cond T false x y h k = k

pub inner_order : (T : Tuple → Type 0) (o : Ordering) (x y z : List Tuple) → Inner T x → Inner T y → Inner T z → Inner T (by_order o x y z)
inner_order T Less x y z h k l = h
inner_order T Equal x y z h k l = k
inner_order T Greater x y z h k l = l

pub inner_low : (T : Tuple → Type 0) (p x : List Tuple) → Every T p → Inner T x → Inner T (low tuple_cmp p x)
unfolding low
inner_low T p x h k = inner_cond T (under tuple_cmp x p) (p ++ x) x (inner_append T p x h k) k

pub inner_high : (T : Tuple → Type 0) (p x : List Tuple) → Every T p → Inner T x → Inner T (high tuple_cmp p x)
unfolding high
inner_high T p x h k = inner_cond T (under tuple_cmp x p) x (p ++ x) k (inner_append T p x h k)

pub inner_low_inverse : (T : Tuple → Type 0) (p x : List Tuple) → Inner T x → Inner T (low_inverse tuple_cmp p x)
unfolding low_inverse
inner_low_inverse T p x h = inner_cond T (under tuple_cmp x p) (drop (length p) x) x (inner_drop T (length p) x h) h

pub inner_high_inverse : (T : Tuple → Type 0) (p x : List Tuple) → Inner T x → Inner T (high_inverse tuple_cmp p x)
unfolding high_inverse
inner_high_inverse T p x h = inner_cond T (under tuple_cmp x p) x (drop (length p) x) h (inner_drop T (length p) x h)

-- ---- a new identifier has the tuples of its bounds but for its last one, and perhaps the upper one's last with its offset less one

below_inner : (T : Tuple → Type 0) (hi : List Tuple) (a s : ℕ) → Inner T hi → T (raised (negsuc 0) (last_of hi)) → Inner T (below hi a s)
below_inner T [] a s h l = tt
below_inner T (t ∷ []) a s h l =
    inner_cond T (nat_le 2 (upper_number (t ∷ []))) (middle 0 (upper_number (t ∷ [])) a s ∷ []) (raised (negsuc 0) t ∷ (middle 0 last_pos a s ∷ [])) tt (l, tt)
below_inner T (t ∷ (u ∷ us)) a s h l =
    inner_cond T (nat_le 2 (upper_number (t ∷ []))) (middle 0 (upper_number (t ∷ [])) a s ∷ []) (t ∷ below (u ∷ us) a s) tt
    (inner_cons T t (below (u ∷ us) a s) h.0 (below_inner T (u ∷ us) a s h.1 l))

-- what is left of the upper bound
behind_inner : (T : Tuple → Type 0) (t : Tuple) (hi : List Tuple) → T Low → Inner T hi → T (raised (negsuc 0) (last_of hi)) → Inner T (upper_behind t hi) × T (raised (negsuc 0) (last_of (upper_behind t hi)))
behind_inner T t [] z h l = (tt, z)
behind_inner T t (u ∷ []) z h l = go (tuple_eq t u)
  where
    go : (b : Bool) → Inner T (cond b [] []) × T (raised (negsuc 0) (last_of (cond b [] [])))
    go true = (tt, z)
    go false = (tt, z)
behind_inner T t (u ∷ (v ∷ us)) z h l = go (tuple_eq t u)
  where
    go : (b : Bool) → Inner T (cond b (v ∷ us) []) × T (raised (negsuc 0) (last_of (cond b (v ∷ us) [])))
    go true = (h.1, l)
    go false = (tt, z)

pub between_inner : (T : Tuple → Type 0) (lo hi : List Tuple) (a s : ℕ) → T Low → Every T lo → Inner T hi → T (raised (negsuc 0) (last_of hi)) → Inner T (between lo hi a s)
between_inner T [] hi a s z g h l = below_inner T hi a s h l
between_inner T (t ∷ ts) hi a s z g h l =
    let r = behind_inner T t hi z h l in
    inner_cond T (nat_le (lower_number (t ∷ []) + 2) (upper_number hi)) (middle (lower_number (t ∷ [])) (upper_number hi) a s ∷ []) (t ∷ between ts (upper_behind t hi) a s) tt
    (inner_cons T t (between ts (upper_behind t hi) a s) g.0 (between_inner T ts (upper_behind t hi) a s z g.1 r.0 r.1))
