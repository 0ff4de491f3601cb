-- An identifier between two lies strictly between them, whatever its last offset is raised by, and is at most one tuple longer than the longer of the two.
use Rattle.std.proofs.Common.{◌≡◌, ℕ, zero, suc, ◌+◌, ◌≤◌, ◌<◌, max, Bool, true, false, List, [], ◌∷◌, length, refl, sym, ap, subst, inl, inr, ◌⊎◌, ⊎_elim, arith, nat_le}
use Rattle.std.specs.Prelude.{◌/◌, if◌then◌else◌, ℤ, pos, negsuc, ◌+ℤ◌}
use Rattle.std.specs.declared.cmp.Ordering.{Ordering}
use Rattle.std.specs.declared.cmp.Ordering.TheVariants.{Less, Equal, Greater}
use Rattle.std.specs.Ordering.{ordering_then, nat_cmp, int_cmp, is_eq, MatchOrdering}
use Rattle.std.specs.Cmp.Lexicographic.{slice_cmp}
use Rattle.std.proofs.lemmas.Cmp.{ranked, tied_itself}
use Rattle.std.proofs.lemmas.Int.{ints}
use Rattle.rls_ident.specs.declared.tuple.Tuple.{Tuple}
use Rattle.rls_ident.specs.declared.tuple.Tuple.TheVariants.{Low, At, High}
use Rattle.rls_ident.specs.Tuples.{spot, spot_cmp, tuple_cmp, tuple_eq, is_at, raised}
use Rattle.rls_ident.specs.Identifiers.{IsIdent, shifted}
use Rattle.rls_ident.specs.Between.{last_pos, lower_number, upper_number, middle, below, upper_behind, between}
use Rattle.rls_ident.proofs.Lists.{Lt, lt_nil, lt_cons, then_less}
use Rattle.rls_ident.proofs.Tuples.{tuples, tuple_total, tuple_same, next}
use Rattle.rls_ident.proofs.Members.{le_is}

-- the upper bound is missing, or is an identifier above the lower bound
abbrev pub IsOver : List Tuple → List Tuple → Type 0
IsOver lo [] = Unit {0}
IsOver lo (u ∷ us) = IsIdent (u ∷ us) × Lt tuples lo (u ∷ us)

-- x is below the upper bound, where there is one
abbrev pub IsUnder : List Tuple → List Tuple → Type 0
IsUnder x [] = Unit {0}
IsUnder x (u ∷ us) = Lt tuples x (u ∷ us)

-- ---- tuples

nat_less_at : (p q : ℕ) (o : Ordering) → MatchOrdering o (p < q) (p ≡ q) (q < p) → p < q → o ≡ Less
nat_less_at p q Less m h = refl
nat_less_at p q Equal m h = absurd (omega arith)
nat_less_at p q Greater m h = absurd (omega arith)

nat_less : (p q : ℕ) → p < q → nat_cmp p q ≡ Less
nat_less p q h = nat_less_at p q (nat_cmp p q) (ranked p q (nat_cmp p q) refl) h

at_less : (p r s : ℕ) (o : ℤ) (q u m : ℕ) (k : ℤ) → p < q → tuple_cmp (At p r s o) (At q u m k) ≡ Less
unfolding tuple_cmp spot_cmp
at_less p r s o q u m k h = ap (λ c. ordering_then c (ordering_then (nat_cmp r u) (ordering_then (nat_cmp s m) (int_cmp o k)))) (nat_less p q h)

head_less : (t u : Tuple) (x y : List Tuple) → tuple_cmp t u ≡ Less → Lt tuples (t ∷ x) (u ∷ y)
head_less t u x y h = record { less = ap (λ c. ordering_then c (slice_cmp tuple_cmp x y)) h }

-- the heads are one, or the first is less
heads : (t u : Tuple) (x y : List Tuple) → Lt tuples (t ∷ x) (u ∷ y) → (tuple_cmp t u ≡ Less) ⊎ ((t ≡ u) × Lt tuples x y)
heads t u x y h = ⊎_elim (λ l. inl l) (λ e. inr (tuple_same t u e.0, record { less = e.1 })) (then_less (tuple_cmp t u) (slice_cmp tuple_cmp x y) h.less)

eq_is : (t u : Tuple) → tuple_eq t u ≡ true → t ≡ u
eq_is t u h = go (tuple_cmp t u) refl h
  where
    go : (o : Ordering) → tuple_cmp t u ≡ o → is_eq o ≡ true → t ≡ u
    go Less e k = absurd (cc)
    go Equal e k = tuple_same t u e
    go Greater e k = absurd (cc)

self_eq : (t : Tuple) → tuple_eq t t ≡ true
self_eq t = ap is_eq (tied_itself tuple_total t)

low_less : (r : ℕ) (m s : ℕ) (o : ℤ) → tuple_cmp Low (At m r s o) ≡ Less
unfolding tuple_cmp
low_less r m s o = refl

pub less_high : (m r s : ℕ) (o : ℤ) → tuple_cmp (At m r s o) High ≡ Less
unfolding tuple_cmp
less_high m r s o = refl

-- a tuple with a pos below the number of an upper bound is below its first tuple
below_number : (m r s : ℕ) (o : ℤ) (t : Tuple) (ts : List Tuple) → m < upper_number (t ∷ ts) → tuple_cmp (At m r s o) t ≡ Less
below_number m r s o Low ts h = absurd (omega arith)
below_number m r s o (At q u n k) ts h = at_less m r s o q u n k h
below_number m r s o High ts h = less_high m r s o

not_high : (u : Tuple) (ts us : List Tuple) → Lt tuples (High ∷ ts) (u ∷ us) → u ≡ High
unfolding tuple_cmp
not_high Low ts us h = let k = h.less in absurd (cc)
not_high (At p r s o) ts us h = let k = h.less in absurd (cc)
not_high High ts us h = refl

number_high : (ts hi : List Tuple) → IsOver (High ∷ ts) hi → upper_number hi ≡ last_pos
number_high ts [] h = refl
number_high ts (u ∷ us) h = ap (λ v. upper_number (v ∷ us)) (not_high u ts us h.1)

-- one with a pos above the number of a lower bound and below that of an upper one is above the lower one's first tuple
above_number : (m r s : ℕ) (o : ℤ) (t : Tuple) (ts hi : List Tuple) → IsOver (t ∷ ts) hi → lower_number (t ∷ ts) < m → m < upper_number hi → tuple_cmp t (At m r s o) ≡ Less
above_number m r s o Low ts hi h k l = low_less r m s o
above_number m r s o (At p q n j) ts hi h k l = at_less p q n j m r s o k
above_number m r s o High ts hi h k l = let e = number_high ts hi h in absurd (omega arith)

middle_is : (l u : ℕ) → l + 2 ≤ u → (l < (l + u) / 2) × ((l + u) / 2 < u)
middle_is l u h = (omega arith, omega arith)

pred_less : (t : Tuple) → is_at t ≡ true → tuple_cmp (raised (negsuc 0) t) t ≡ Less
pred_less Low h = absurd (cc)
pred_less (At p r s o) h = let e : o ≡ (o +ℤ negsuc 0) +ℤ pos 1 = omega (arith, ints) in (next (spot p r s o) (o +ℤ negsuc 0) o e).less
pred_less High h = absurd (cc)

-- ---- below an upper bound

ident_behind : (t : Tuple) (x : List Tuple) → IsIdent x → IsIdent (t ∷ x)
ident_behind t [] h = absurd (cc)
ident_behind t (u ∷ x) h = h

pub below_ident : (hi : List Tuple) (a s : ℕ) → IsIdent (below hi a s)
below_ident [] a s = refl
below_ident (t ∷ []) a s = go (nat_le 2 (upper_number (t ∷ [])))
  where
    go : (b : Bool) → IsIdent (if b then middle 0 (upper_number (t ∷ [])) a s ∷ [] else raised (negsuc 0) t ∷ middle 0 last_pos a s ∷ [])
    go true = refl
    go false = refl
below_ident (t ∷ (u ∷ us)) a s = go (nat_le 2 (upper_number (t ∷ []))) (below_ident (u ∷ us) a s)
  where
    go : (b : Bool) → IsIdent (below (u ∷ us) a s) → IsIdent (if b then middle 0 (upper_number (t ∷ [])) a s ∷ [] else t ∷ below (u ∷ us) a s)
    go true h = refl
    go false h = ident_behind t (below (u ∷ us) a s) h

pub between_ident : (lo hi : List Tuple) (a s : ℕ) → IsIdent (between lo hi a s)
between_ident [] hi a s = below_ident hi a s
between_ident (t ∷ ts) hi a s = go (nat_le (lower_number (t ∷ []) + 2) (upper_number hi)) (between_ident ts (upper_behind t hi) a s)
  where
    go : (b : Bool) → IsIdent (between ts (upper_behind t hi) a s) → IsIdent (if b then middle (lower_number (t ∷ [])) (upper_number hi) a s ∷ [] else t ∷ between ts (upper_behind t hi) a s)
    go true h = refl
    go false h = ident_behind t (between ts (upper_behind t hi) a s) h

-- raising the last offset doesn't look at the front
shifted_behind : (d : ℤ) (t : Tuple) (x : List Tuple) → IsIdent x → shifted d (t ∷ x) ≡ t ∷ shifted d x
shifted_behind d t [] h = absurd (cc)
shifted_behind d t (u ∷ x) h = refl

shifted_some : (d : ℤ) (x : List Tuple) → IsIdent x → Lt tuples [] (shifted d x)
shifted_some d [] h = absurd (cc)
shifted_some d (t ∷ []) h = record { less = refl }
shifted_some d (t ∷ (u ∷ x)) h = record { less = refl }

pub below_under : (hi : List Tuple) (a s : ℕ) (d : ℤ) → IsIdent hi → Lt tuples (shifted d (below hi a s)) hi
below_under [] a s d i = absurd (cc)
below_under (t ∷ []) a s d i = go (nat_le 2 (upper_number (t ∷ []))) refl
  where
    go : (b : Bool) → nat_le 2 (upper_number (t ∷ [])) ≡ b → Lt tuples (shifted d (if b then middle 0 (upper_number (t ∷ [])) a s ∷ [] else raised (negsuc 0) t ∷ middle 0 last_pos a s ∷ [])) (t ∷ [])
    go true e =
        let m = middle_is 0 (upper_number (t ∷ [])) (le_is 2 (upper_number (t ∷ [])) e) in
        head_less (raised d (middle 0 (upper_number (t ∷ [])) a s)) t [] [] (below_number ((0 + upper_number (t ∷ [])) / 2) a s (pos 0 +ℤ d) t [] m.1)
    go false e = head_less (raised (negsuc 0) t) t (raised d (middle 0 last_pos a s) ∷ []) [] (pred_less t i)
below_under (t ∷ (u ∷ us)) a s d i = go (nat_le 2 (upper_number (t ∷ []))) refl (below_under (u ∷ us) a s d i)
  where
    go : (b : Bool) → nat_le 2 (upper_number (t ∷ [])) ≡ b → Lt tuples (shifted d (below (u ∷ us) a s)) (u ∷ us) →
        Lt tuples (shifted d (if b then middle 0 (upper_number (t ∷ [])) a s ∷ [] else t ∷ below (u ∷ us) a s)) (t ∷ (u ∷ us))
    go true e h =
        let m = middle_is 0 (upper_number (t ∷ [])) (le_is 2 (upper_number (t ∷ [])) e) in
        head_less (raised d (middle 0 (upper_number (t ∷ [])) a s)) t [] (u ∷ us) (below_number ((0 + upper_number (t ∷ [])) / 2) a s (pos 0 +ℤ d) t [] m.1)
    go false e h = subst (λ x. Lt tuples x (t ∷ (u ∷ us))) (sym (shifted_behind d t (below (u ∷ us) a s) (below_ident (u ∷ us) a s))) (lt_cons tuples t h)

-- ---- between two bounds

tail_over : (u : Tuple) (ts us : List Tuple) → IsIdent (u ∷ us) → Lt tuples ts us → IsOver ts us
tail_over u ts [] i h = absurd (lt_nil h)
tail_over u ts (v ∷ us) i h = (i, h)

-- the bound that is left after a copied tuple is above the rest of the lower one
over_behind : (t : Tuple) (ts hi : List Tuple) → IsOver (t ∷ ts) hi → IsOver ts (upper_behind t hi)
over_behind t ts [] h = tt
over_behind t ts (u ∷ us) h = go (tuple_eq t u) refl (heads t u ts us h.1)
  where
    go : (b : Bool) → tuple_eq t u ≡ b → (tuple_cmp t u ≡ Less) ⊎ ((t ≡ u) × Lt tuples ts us) → IsOver ts (if b then us else [])
    go false e p = tt
    go true e (inl l) = let f = ap is_eq l in absurd (cc)
    go true e (inr p) = tail_over u ts us h.0 p.1

under_cons : (t u : Tuple) (x us : List Tuple) → t ≡ u → Lt tuples [] us → IsUnder x us → Lt tuples (t ∷ x) (u ∷ us)
under_cons t u x [] e l h = absurd (lt_nil l)
under_cons t u x (v ∷ us) e l h = subst (λ w. Lt tuples (t ∷ x) (w ∷ (v ∷ us))) e (lt_cons tuples t h)

some_behind : (ts us : List Tuple) → Lt tuples ts us → Lt tuples [] us
some_behind ts [] h = absurd (lt_nil h)
some_behind ts (u ∷ us) h = record { less = refl }

-- and what is below that is below the bound, after the tuple
under_behind : (t : Tuple) (ts hi x : List Tuple) → IsOver (t ∷ ts) hi → IsUnder x (upper_behind t hi) → IsUnder (t ∷ x) hi
under_behind t ts [] x h k = tt
under_behind t ts (u ∷ us) x h k = go (tuple_eq t u) refl (heads t u ts us h.1) k
  where
    go : (b : Bool) → tuple_eq t u ≡ b → (tuple_cmp t u ≡ Less) ⊎ ((t ≡ u) × Lt tuples ts us) → IsUnder x (if b then us else []) → Lt tuples (t ∷ x) (u ∷ us)
    go b e (inl l) m = head_less t u x us l
    go true e (inr p) m = under_cons t u x us p.0 (some_behind ts us p.1) m
    go false e (inr p) m = let f = self_eq t in let g = ap (tuple_eq t) p.0 in absurd (cc)

middle_under : (m r s : ℕ) (o : ℤ) (hi : List Tuple) → m < upper_number hi → IsUnder (At m r s o ∷ []) hi
middle_under m r s o [] h = tt
middle_under m r s o (u ∷ us) h = head_less (At m r s o) u [] us (below_number m r s o u us h)

below_any : (lo hi : List Tuple) (a s : ℕ) (d : ℤ) → IsOver lo hi → IsUnder (shifted d (below hi a s)) hi
below_any lo [] a s d h = tt
below_any lo (u ∷ us) a s d h = below_under (u ∷ us) a s d h.0

lower_same : (t : Tuple) (ts : List Tuple) (m : ℕ) → lower_number (t ∷ []) < m → lower_number (t ∷ ts) < m
lower_same Low ts m k = k
lower_same (At p r n o) ts m k = k
lower_same High ts m k = k

-- between the bounds the identifier is above the lower one and below the upper one, where there are such, with any offset in its last tuple
pub between_over : (lo hi : List Tuple) (a s : ℕ) (d : ℤ) → IsOver lo hi → Lt tuples lo (shifted d (between lo hi a s)) × IsUnder (shifted d (between lo hi a s)) hi
between_over [] hi a s d h = (shifted_some d (below hi a s) (below_ident hi a s), below_any [] hi a s d h)
between_over (t ∷ ts) hi a s d h = go (nat_le (lower_number (t ∷ []) + 2) (upper_number hi)) refl (between_over ts (upper_behind t hi) a s d (over_behind t ts hi h))
  where
    go : (b : Bool) → nat_le (lower_number (t ∷ []) + 2) (upper_number hi) ≡ b → Lt tuples ts (shifted d (between ts (upper_behind t hi) a s)) × IsUnder (shifted d (between ts (upper_behind t hi) a s)) (upper_behind t hi) →
        Lt tuples (t ∷ ts) (shifted d (if b then middle (lower_number (t ∷ [])) (upper_number hi) a s ∷ [] else t ∷ between ts (upper_behind t hi) a s))
        × IsUnder (shifted d (if b then middle (lower_number (t ∷ [])) (upper_number hi) a s ∷ [] else t ∷ between ts (upper_behind t hi) a s)) hi
    go true e p =
        let l = lower_number (t ∷ []) in
        let u = upper_number hi in
        let m = middle_is l u (le_is (l + 2) u e) in (
          head_less t (At ((l + u) / 2) a s (pos 0 +ℤ d)) ts [] (above_number ((l + u) / 2) a s (pos 0 +ℤ d) t ts hi h (lower_same t ts ((l + u) / 2) m.0) m.1),
          middle_under ((l + u) / 2) a s (pos 0 +ℤ d) hi m.1,
        )
    go false e p =
        let x = between ts (upper_behind t hi) a s in
        let q = sym (shifted_behind d t x (between_ident ts (upper_behind t hi) a s)) in (
          subst (λ z. Lt tuples (t ∷ ts) z) q (lt_cons tuples t p.0),
          subst (λ z. IsUnder z hi) q (under_behind t ts hi (shifted d x) h p.1),
        )

-- ---- how long it is

pub below_length : (hi : List Tuple) (a s : ℕ) → length (below hi a s) ≤ suc (length hi)
below_length [] a s = omega arith
below_length (t ∷ []) a s = go (nat_le 2 (upper_number (t ∷ [])))
  where
    go : (b : Bool) → length (if b then middle 0 (upper_number (t ∷ [])) a s ∷ [] else raised (negsuc 0) t ∷ middle 0 last_pos a s ∷ []) ≤ 2
    go true = omega arith
    go false = omega arith
below_length (t ∷ (u ∷ us)) a s = go (nat_le 2 (upper_number (t ∷ []))) (below_length (u ∷ us) a s)
  where
    go : (b : Bool) → length (below (u ∷ us) a s) ≤ suc (length (u ∷ us)) → length (if b then middle 0 (upper_number (t ∷ [])) a s ∷ [] else t ∷ below (u ∷ us) a s) ≤ suc (length (t ∷ (u ∷ us)))
    go true h = omega arith
    go false h = omega arith

behind_length : (t : Tuple) (hi : List Tuple) (n : ℕ) → length hi ≤ suc n → length (upper_behind t hi) ≤ n
behind_length t [] n h = omega arith
behind_length t (u ∷ us) n h = go (tuple_eq t u)
  where
    go : (b : Bool) → length (if b then us else []) ≤ n
    go true = omega arith
    go false = omega arith

between_most : (lo hi : List Tuple) (a s n : ℕ) → length lo ≤ n → length hi ≤ n → length (between lo hi a s) ≤ suc n
between_most [] hi a s n h k = let l = below_length hi a s in omega arith
between_most (t ∷ ts) hi a s zero h k = absurd (omega arith)
between_most (t ∷ ts) hi a s (suc n) h k = go (nat_le (lower_number (t ∷ []) + 2) (upper_number hi)) (between_most ts (upper_behind t hi) a s n (omega arith) (behind_length t hi n k))
  where
    go : (b : Bool) → length (between ts (upper_behind t hi) a s) ≤ suc n → length (if b then middle (lower_number (t ∷ [])) (upper_number hi) a s ∷ [] else t ∷ between ts (upper_behind t hi) a s) ≤ suc (suc n)
    go true l = omega arith
    go false l = omega arith

pub between_length : (lo hi : List Tuple) (a s : ℕ) → length (between lo hi a s) ≤ suc (max (length lo) (length hi))
between_length lo hi a s = between_most lo hi a s (max (length lo) (length hi)) (omega arith) (omega arith)
