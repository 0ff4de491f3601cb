-- Identifiers whose numbers and offsets are in the range of the format, and what is made of them.
use Rattle.std.proofs.Common.{◌≡◌, ℕ, zero, suc, ◌+◌, ◌^◌, ◌<◌, ◌≤◌, true, false, cond, Bool, List, [], ◌∷◌, ◌++◌, length, drop, Option, Some, None, subst, arith}
use Rattle.std.specs.Prelude.{ℤ, pos, negsuc, ◌+ℤ◌, ◌-ℤ◌, ◌≤ℤ◌, ◌/◌, nat_le}
use Rattle.std.specs.Int.RustNames.{int_le}
use Rattle.std.specs.declared.cmp.Ordering.{Ordering}
use Rattle.std.specs.declared.cmp.Ordering.TheVariants.{Less, Equal, Greater}
use Rattle.std.proofs.lemmas.Int.{ints}
use Rattle.rls_ident.specs.declared.limits.TheConstants.{OFFSETS_END}
use Rattle.rls_ident.specs.declared.tuple.Tuple.{Tuple}
use Rattle.rls_ident.specs.declared.tuple.Tuple.TheVariants.{Low, At, High}
use Rattle.rls_ident.specs.Maps.{by_order, under, low, high, low_inverse, high_inverse}
use Rattle.rls_ident.specs.Tuples.{offset_of, raised, tuple_pred, tuple_cmp}
use Rattle.rls_ident.specs.Identifiers.{IsIdent, last_of, least_offset, greatest_offset, pred, shifted, least_inner}
use Rattle.rls_ident.specs.Between.{last_pos, lower_number, upper_number, middle, below, upper_behind, between}
use Rattle.rls_ident.proofs.BetweenLaws.{below_ident, between_ident}
use Rattle.rls_ident.proofs.Members.{and_left, and_right, and_true, int_le_is, int_le_test}
use Rattle.rls_ident.proofs.Shifted.{ident_shifted, last_offset}
use Rattle.rls_runs.specs.Runs.{run_idents, runs_of, idents_of}
use Rattle.rls_ops.specs.WellFormed.{IsSmall}
use Rattle.rls_codec.specs.Reading.{is_offset}
use Rattle.rls_codec.specs.Spelled.{FitsInner, FitTuples, FitsBehind, FitRuns, Chained}
use Rattle.rls_codec.proofs.SpelledSound.{tuples_ident}

-- each tuple may stand before others, and the last one has no offset below the least
abbrev pub IsRanged : List Tuple → Type 0
IsRanged [] = Unit {0}
IsRanged (t ∷ []) = FitsInner t × (least_offset ≤ℤ offset_of t)
IsRanged (t ∷ (u ∷ x)) = FitsInner t × IsRanged (u ∷ x)

-- each tuple may stand before others
abbrev pub AreInner : List Tuple → Type 0
AreInner [] = Unit {0}
AreInner (t ∷ x) = FitsInner t × AreInner x

abbrev pub AllRanged : List (List Tuple) → Type 0
AllRanged [] = Unit {0}
AllRanged (x ∷ xs) = IsRanged x × AllRanged xs

-- ---- numbers

pub offset_to : (least z : ℤ) → least ≤ℤ z → z ≤ℤ greatest_offset → is_offset least z ≡ true
offset_to least z h k = and_true (int_le least z) (int_le z greatest_offset) (int_le_test least z h) (int_le_test z greatest_offset k)

offset_least : (least z : ℤ) → is_offset least z ≡ true → least ≤ℤ z
offset_least least z h = int_le_is least z (and_left (int_le least z) (int_le z greatest_offset) h)

offset_most : (least z : ℤ) → is_offset least z ≡ true → z ≤ℤ greatest_offset
offset_most least z h = int_le_is z greatest_offset (and_right (int_le least z) (int_le z greatest_offset) h)

-- ---- parts of an identifier

pub head_inner : (t : Tuple) (x : List Tuple) → IsRanged (t ∷ x) → FitsInner t
head_inner t [] h = h.0
head_inner t (u ∷ x) h = h.0

pub rest_ranged : (t : Tuple) (x : List Tuple) → IsRanged (t ∷ x) → IsRanged x
rest_ranged t [] h = tt
rest_ranged t (u ∷ x) h = h.1

pub all_inner : (x : List Tuple) → IsRanged x → AreInner x
all_inner [] h = tt
all_inner (t ∷ []) h = (h.0, tt)
all_inner (t ∷ (u ∷ x)) h = (h.0, all_inner (u ∷ x) h.1)

ranged_behind : (p : List Tuple) (u : Tuple) (y : List Tuple) → AreInner p → IsRanged (u ∷ y) → IsRanged (p ++ (u ∷ y))
ranged_behind [] u y p q = q
ranged_behind (t ∷ []) u y p q = (p.0, q)
ranged_behind (t ∷ (v ∷ x)) u y p q = (p.0, ranged_behind (v ∷ x) u y p.1 q)

pub ranged_append : (p y : List Tuple) → IsRanged p → IsRanged y → IsRanged (p ++ y)
ranged_append [] y p q = q
ranged_append (t ∷ []) [] p q = p
ranged_append (t ∷ []) (u ∷ y) p q = (p.0, q)
ranged_append (t ∷ (u ∷ x)) y p q = (p.0, ranged_append (u ∷ x) y p.1 q)

pub ranged_drop : (n : ℕ) (x : List Tuple) → IsRanged x → IsRanged (drop n x)
ranged_drop zero x h = h
ranged_drop (suc n) [] h = tt
ranged_drop (suc n) (t ∷ []) h = ranged_drop n [] tt
ranged_drop (suc n) (t ∷ (u ∷ x)) h = ranged_drop n (u ∷ x) h.1

ranged_cons : (t : Tuple) (x : List Tuple) → FitsInner t → IsIdent x → IsRanged x → IsRanged (t ∷ x)
ranged_cons t [] f i h = absurd (cc)
ranged_cons t (u ∷ x) f i h = (f, h)

-- what is spelled is in range, and an identifier in range is spelled
pub tuples_ranged : (x : List Tuple) → FitTuples x → IsRanged x
tuples_ranged [] f = tt
tuples_ranged (At p r s o ∷ []) f =
    let a = offset_least least_offset o f.3 in
    ((f.0, f.1, f.2, offset_to least_inner o (omega (arith, ints)) (offset_most least_offset o f.3)), a)
tuples_ranged (Low ∷ []) f = absurd f
tuples_ranged (High ∷ []) f = absurd f
tuples_ranged (t ∷ (u ∷ x)) f = (f.0, tuples_ranged (u ∷ x) f.1)

pub ranged_tuples : (x : List Tuple) → IsIdent x → IsRanged x → FitTuples x
ranged_tuples [] i h = absurd (cc)
ranged_tuples (At p r s o ∷ []) i h = (h.0.0, h.0.1, h.0.2, offset_to least_offset o h.1 (offset_most least_inner o h.0.3))
ranged_tuples (Low ∷ []) i h = absurd (cc)
ranged_tuples (High ∷ []) i h = absurd (cc)
ranged_tuples (t ∷ (u ∷ x)) i h = (h.0, ranged_tuples (u ∷ x) i h.1)

pub last_most : (x : List Tuple) → IsRanged x → offset_of (last_of x) ≤ℤ greatest_offset
last_most [] h = omega (arith, ints)
last_most (At p r s o ∷ []) h = offset_most least_inner o h.0.3
last_most (Low ∷ []) h = omega (arith, ints)
last_most (High ∷ []) h = omega (arith, ints)
last_most (t ∷ (u ∷ x)) h = last_most (u ∷ x) h.1

-- ---- one less, and shifted

pred_fits : (t : Tuple) → FitsInner t → least_offset ≤ℤ offset_of t → FitsInner (tuple_pred t)
pred_fits (At p r s o) f l = let m = offset_most least_inner o f.3 in (f.0, f.1, f.2, offset_to least_inner (o -ℤ pos 1) (omega (arith, ints)) (omega (arith, ints)))
pred_fits Low f l = tt
pred_fits High f l = tt

pred_inner : (a : List Tuple) → IsRanged a → AreInner (pred a)
pred_inner [] h = tt
pred_inner (t ∷ []) h = (pred_fits t h.0 h.1, tt)
pred_inner (t ∷ (u ∷ x)) h = (h.0, pred_inner (u ∷ x) h.1)

zero_least : least_offset ≤ℤ pos 0
zero_least = omega (arith, ints)

pub pred_high : (a : List Tuple) → IsRanged a → IsRanged (pred a ++ (High ∷ []))
pred_high a h = ranged_behind (pred a) High [] (pred_inner a h) (tt, zero_least)

pub then_low : (a : List Tuple) → IsRanged a → IsRanged (a ++ (Low ∷ []))
then_low a h = ranged_append a (Low ∷ []) h (tt, zero_least)

pub shifted_ranged : (k : ℤ) (x : List Tuple) → IsRanged x → least_offset ≤ℤ (offset_of (last_of x) +ℤ k) → (offset_of (last_of x) +ℤ k) ≤ℤ greatest_offset → IsRanged (shifted k x)
shifted_ranged k [] h l m = tt
shifted_ranged k (At p r s o ∷ []) h l m = ((h.0.0, h.0.1, h.0.2, offset_to least_inner (o +ℤ k) (omega (arith, ints)) m), l)
shifted_ranged k (Low ∷ []) h l m = h
shifted_ranged k (High ∷ []) h l m = h
shifted_ranged k (t ∷ (u ∷ [])) h l m = (h.0, shifted_ranged k (u ∷ []) h.1 l m)
shifted_ranged k (t ∷ (u ∷ (v ∷ x))) h l m = (h.0, shifted_ranged k (u ∷ (v ∷ x)) h.1 l m)

pub last_least : (x : List Tuple) → IsRanged x → least_offset ≤ℤ offset_of (last_of x)
last_least [] h = zero_least
last_least (t ∷ []) h = h.1
last_least (t ∷ (u ∷ x)) h = last_least (u ∷ x) h.1

pub next_ranged : (x : List Tuple) → IsRanged x → (offset_of (last_of x) +ℤ pos 1) ≤ℤ greatest_offset → IsRanged (shifted (pos 1) x)
next_ranged x h m = let l = last_least x h in shifted_ranged (pos 1) x h (omega (arith, ints)) m

-- ---- lists of identifiers

all_append : (xs ys : List (List Tuple)) → AllRanged xs → AllRanged ys → AllRanged (xs ++ ys)
all_append [] ys a b = b
all_append (x ∷ xs) ys a b = (a.0, all_append xs ys a.1 b)

pub run_ranged : (n : ℕ) (x : List Tuple) → IsIdent x → IsRanged x → (offset_of (last_of x) +ℤ pos n) ≤ℤ pos OFFSETS_END → AllRanged (run_idents x n)
run_ranged zero x i h m = tt
run_ranged (suc zero) x i h m = (h, tt)
run_ranged (suc (suc n)) x i h m =
    let e = last_offset (pos 1) x i in
    (h, run_ranged (suc n) (shifted (pos 1) x) (ident_shifted (pos 1) x i) (next_ranged x h (omega (arith, ints))) (omega (arith, ints)))

fits_ranged : (before : Option (List Tuple × ℕ)) (rs : List (List Tuple × ℕ)) → Chained FitsBehind before rs → AllRanged (idents_of rs)
fits_ranged before [] c = tt
fits_ranged before (r ∷ rs) c =
    let f = c.0.0 in
    let i = tuples_ident r.0 f.0.1 in
    all_append (run_idents r.0 r.1) (idents_of rs)
    (run_ranged r.1 r.0 i (tuples_ranged r.0 f.0.1) (int_le_is (offset_of (last_of r.0) +ℤ pos r.1) (pos OFFSETS_END) (and_right _ (int_le (offset_of (last_of r.0) +ℤ pos r.1) (pos OFFSETS_END)) f.2)))
    (fits_ranged (Some r) rs c.1)

pub runs_ranged : (xs : List (List Tuple)) → FitRuns xs → AllRanged xs
runs_ranged xs f = subst AllRanged f.2 (fits_ranged None (runs_of xs) f.1)

-- ---- one of two or three, and with or without a front

pub ranged_if : (b : Bool) (x y : List Tuple) → IsRanged x → IsRanged y → IsRanged (cond b x y)
ranged_if true x y h k = h
ranged_if false x y h k = k

pub ranged_order : (o : Ordering) (u v w : List Tuple) → IsRanged u → IsRanged v → IsRanged w → IsRanged (by_order o u v w)
ranged_order Less u v w a b c = a
ranged_order Equal u v w a b c = b
ranged_order Greater u v w a b c = c

pub low_ranged : (p y : List Tuple) → IsRanged p → IsRanged y → IsRanged (low tuple_cmp p y)
unfolding low
low_ranged p y a b = ranged_if (under tuple_cmp y p) (p ++ y) y (ranged_append p y a b) b

pub high_ranged : (p y : List Tuple) → IsRanged p → IsRanged y → IsRanged (high tuple_cmp p y)
unfolding high
high_ranged p y a b = ranged_if (under tuple_cmp y p) y (p ++ y) b (ranged_append p y a b)

pub low_inverse_ranged : (p x : List Tuple) → IsRanged x → IsRanged (low_inverse tuple_cmp p x)
unfolding low_inverse
low_inverse_ranged p x h = ranged_if (under tuple_cmp x p) (drop (length p) x) x (ranged_drop (length p) x h) h

pub high_inverse_ranged : (p x : List Tuple) → IsRanged x → IsRanged (high_inverse tuple_cmp p x)
unfolding high_inverse
high_inverse_ranged p x h = ranged_if (under tuple_cmp x p) x (drop (length p) x) h (ranged_drop (length p) x h)

-- ---- between two

lower_most : (t : Tuple) → FitsInner t → lower_number (t ∷ []) ≤ last_pos
lower_most (At p r s o) f = let k = f.0 in omega arith
lower_most Low f = omega arith
lower_most High f = omega arith

upper_one : (t : Tuple) → FitsInner t → upper_number (t ∷ []) ≤ last_pos
upper_one (At p r s o) f = let k = f.0 in omega arith
upper_one Low f = omega arith
upper_one High f = omega arith

upper_most : (x : List Tuple) → IsRanged x → upper_number x ≤ last_pos
upper_most [] h = omega arith
upper_most (At p r s o ∷ x) h = let k = (head_inner (At p r s o) x h).0 in omega arith
upper_most (Low ∷ x) h = omega arith
upper_most (High ∷ x) h = omega arith

half_small : (l u : ℕ) → l ≤ last_pos → u ≤ last_pos → (l + u) / 2 < 2 ^ 32
half_small l u h k = omega arith

middle_ranged : (l u a s : ℕ) → l ≤ last_pos → u ≤ last_pos → IsSmall a → IsSmall s → IsRanged (middle l u a s ∷ [])
middle_ranged l u a s h k f g = ((half_small l u h k, f, g, offset_to least_inner (pos 0) (omega (arith, ints)) (omega (arith, ints))), zero_least)

lowered_fits : (t : Tuple) → FitsInner t → least_offset ≤ℤ offset_of t → FitsInner (raised (negsuc 0) t)
lowered_fits (At p r s o) f l = let m = offset_most least_inner o f.3 in (f.0, f.1, f.2, offset_to least_inner (o +ℤ negsuc 0) (omega (arith, ints)) (omega (arith, ints)))
lowered_fits Low f l = tt
lowered_fits High f l = tt

below_is_ranged : (hi : List Tuple) (a s : ℕ) → IsRanged hi → IsSmall a → IsSmall s → IsRanged (below hi a s)
below_is_ranged [] a s h f g = middle_ranged 0 last_pos a s (omega arith) (omega arith) f g
below_is_ranged (t ∷ []) a s h f g =
    ranged_if (nat_le 2 (upper_number (t ∷ []))) (middle 0 (upper_number (t ∷ [])) a s ∷ []) (raised (negsuc 0) t ∷ (middle 0 last_pos a s ∷ []))
    (middle_ranged 0 (upper_number (t ∷ [])) a s (omega arith) (upper_most (t ∷ []) h) f g) (lowered_fits t h.0 h.1, middle_ranged 0 last_pos a s (omega arith) (omega arith) f g)
below_is_ranged (t ∷ (u ∷ us)) a s h f g =
    ranged_if (nat_le 2 (upper_number (t ∷ []))) (middle 0 (upper_number (t ∷ [])) a s ∷ []) (t ∷ below (u ∷ us) a s)
    (middle_ranged 0 (upper_number (t ∷ [])) a s (omega arith) (upper_one t h.0) f g) (ranged_cons t (below (u ∷ us) a s) h.0 (below_ident (u ∷ us) a s) (below_is_ranged (u ∷ us) a s h.1 f g))

behind_ranged : (t : Tuple) (hi : List Tuple) → IsRanged hi → IsRanged (upper_behind t hi)
behind_ranged t [] h = tt
behind_ranged t (u ∷ us) h = ranged_if _ us [] (rest_ranged u us h) tt

pub between_ranged : (lo hi : List Tuple) (a s : ℕ) → AreInner lo → IsRanged hi → IsSmall a → IsSmall s → IsRanged (between lo hi a s)
between_ranged [] hi a s l h f g = below_is_ranged hi a s h f g
between_ranged (t ∷ ts) hi a s l h f g =
    let rest = between ts (upper_behind t hi) a s in
    ranged_if (nat_le (lower_number (t ∷ []) + 2) (upper_number hi)) (middle (lower_number (t ∷ [])) (upper_number hi) a s ∷ []) (t ∷ rest)
    (middle_ranged (lower_number (t ∷ [])) (upper_number hi) a s (lower_most t l.0) (upper_most hi h) f g)
    (ranged_cons t rest l.0 (between_ident ts (upper_behind t hi) a s) (between_ranged ts (upper_behind t hi) a s l.1 (behind_ranged t hi h) f g))
