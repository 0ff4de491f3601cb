-- The stems of one author: where one is found, and how the list changes.
use Rattle.std.proofs.Common.{◌≡◌, ℕ, zero, suc, ◌+◌, ◌<◌, ◌≤◌, Bool, true, false, List, [], ◌∷◌, ◌++◌, length, set, get_or, refl, sym, ap, ◌∙◌, subst, arith, Option, Some, None, IsTrue}
use Rattle.std.specs.Prelude.{◌==◌, nat_lt, slice_get, if◌then◌else◌, ℤ, pos}
use Rattle.std.specs.Ordering.{int_eq}
use Rattle.std.specs.List.{list_all}
use Rattle.std.proofs.lemmas.Option.{slice_get-get_or, slice_get_within}
use Rattle.rls_ident.proofs.Members.{and_left, and_right, and_true, eq_is, eq_refl, neq_test, lt_is, lt_test, not_lt_is, some_is, in_all, get_in, not_lt_test}
use Rattle.rls_parts.specs.declared.line.Reach.{Reach}
use Rattle.rls_parts.specs.Reaches.{reach_of, with_reach, grown, with_grown, AreBelow, AreRising, place_in, IsPlaceOf}

-- ---- elements

above_all : (q : Reach) (rs : List Reach) (k : ℕ) (r : Reach) → IsTrue (list_all (λ t. nat_lt q.s0 t.s0) rs) → slice_get rs k ≡ Some r → q.s0 < r.s0
above_all q rs k r h e = lt_is q.s0 r.s0 (in_all (λ t. nat_lt q.s0 t.s0) r rs h (get_in rs k r e))

-- ---- the place of a number

pub place_most : (rs : List Reach) (s : ℕ) → place_in rs s ≤ length rs
place_most [] s = omega arith
place_most (q ∷ rs) s = go (nat_lt q.s0 s) (place_most rs s)
  where
    go : (b : Bool) → place_in rs s ≤ length rs → (if b then suc (place_in rs s) else zero) ≤ suc (length rs)
    go true h = omega arith
    go false h = omega arith

-- the place is after each lesser number
pub place_behind : (rs : List Reach) (k : ℕ) (r : Reach) (s : ℕ) → AreRising rs → slice_get rs k ≡ Some r → r.s0 < s → k < place_in rs s
place_behind [] k r s h e l = absurd (cc)
place_behind (q ∷ rs) zero r s h e l =
    let f : q.s0 ≡ r.s0 = ap (λ (t : Reach). t.s0) (some_is q r e) in
    let t = lt_test q.s0 s (omega arith) in
    rw t (omega arith)
place_behind (q ∷ rs) (suc k) r s h e l =
    let a = above_all q rs k r h.0 e in
    let t = lt_test q.s0 s (omega arith) in
    let i = place_behind rs k r s h.1 e l in
    rw t (omega arith)

-- it is before each other number
pub place_up_to : (rs : List Reach) (k : ℕ) (r : Reach) (s : ℕ) → slice_get rs k ≡ Some r → s ≤ r.s0 → place_in rs s ≤ k
place_up_to [] k r s e l = absurd (cc)
place_up_to (q ∷ rs) zero r s e l =
    let f : q.s0 ≡ r.s0 = ap (λ (t : Reach). t.s0) (some_is q r e) in
    let t = not_lt_test q.s0 s (omega arith) in
    rw t (omega arith)
place_up_to (q ∷ rs) (suc k) r s e l = go (nat_lt q.s0 s) (place_up_to rs k r s e l)
  where
    go : (b : Bool) → place_in rs s ≤ k → (if b then suc (place_in rs s) else zero) ≤ suc k
    go true h = omega arith
    go false h = omega arith

-- the same of an element that is read
pub behind_read : (rs : List Reach) (k : ℕ) (d : Reach) (s : ℕ) → AreRising rs → k < length rs → (get_or rs k d).s0 < s → k < place_in rs s
behind_read rs k d s h l m = place_behind rs k (get_or rs k d) s h (slice_get-get_or rs k d l) m

pub up_to_read : (rs : List Reach) (k : ℕ) (d : Reach) (s : ℕ) → k < length rs → s ≤ (get_or rs k d).s0 → place_in rs s ≤ k
up_to_read rs k d s l m = place_up_to rs k (get_or rs k d) s (slice_get-get_or rs k d l) m

-- ---- finding

none_above : (m s : ℕ) (rs : List Reach) → s ≤ m → IsTrue (list_all (λ t. nat_lt m t.s0) rs) → reach_of rs s ≡ None
none_above m s [] l h = refl
none_above m s (q ∷ rs) l h =
    let a = lt_is m q.s0 (and_left (nat_lt m q.s0) (list_all (λ t. nat_lt m t.s0) rs) h) in
    let f = neq_test q.s0 s (λ e. absurd (omega arith)) in
    rw f (none_above m s rs l (and_right (nat_lt m q.s0) (list_all (λ t. nat_lt m t.s0) rs) h))

-- what stands at the place
abbrev pub there : List Reach → ℕ → Option Reach
there rs s = slice_get rs (place_in rs s)

pub found_there : (rs : List Reach) (s : ℕ) (r : Reach) → there rs s ≡ Some r → r.s0 ≡ s → reach_of rs s ≡ Some r
found_there [] s r e f = absurd (cc)
found_there (q ∷ rs) s r e f = go (nat_lt q.s0 s) refl e (λ g. found_there rs s r g f)
  where
    go : (b : Bool) → nat_lt q.s0 s ≡ b → slice_get (q ∷ rs) (if b then suc (place_in rs s) else zero) ≡ Some r → (there rs s ≡ Some r → reach_of rs s ≡ Some r) → (if q.s0 == s then Some q else reach_of rs s) ≡ Some r
    go true t g ih =
        let l = lt_is q.s0 s t in
        let n = neq_test q.s0 s (λ e. absurd (omega arith)) in
        rw n (ih g)
    go false t g ih =
        let i = some_is q r g in
        let j : q.s0 ≡ s = ap (λ (u : Reach). u.s0) i ∙ f in
        let n : (q.s0 == s) ≡ true = ap (λ m. m == s) j ∙ eq_refl s in
        rw n g

pub not_there : (rs : List Reach) (s : ℕ) → AreRising rs → ((r : Reach) → there rs s ≡ Some r → r.s0 ≡ s → ⊥) → reach_of rs s ≡ None
not_there [] s h f = refl
not_there (q ∷ rs) s h f = go (nat_lt q.s0 s) refl f (not_there rs s h.1)
  where
    go : (b : Bool) → nat_lt q.s0 s ≡ b → ((r : Reach) → slice_get (q ∷ rs) (if b then suc (place_in rs s) else zero) ≡ Some r → r.s0 ≡ s → ⊥) → (((r : Reach) → there rs s ≡ Some r → r.s0 ≡ s → ⊥) → reach_of rs s ≡ None)
        → (if q.s0 == s then Some q else reach_of rs s) ≡ None
    go true t g ih =
        let l = lt_is q.s0 s t in
        let n = neq_test q.s0 s (λ e. absurd (omega arith)) in
        rw n (ih g)
    go false t g ih =
        let n = neq_test q.s0 s (g q refl) in
        rw n (none_above q.s0 s rs (not_lt_is q.s0 s t) h.0)

-- the number that is read at the place, or isn't
pub found_read : (rs : List Reach) (s i : ℕ) (d : Reach) → i ≡ place_in rs s → i < length rs → (get_or rs i d).s0 ≡ s → IsPlaceOf rs s i
found_read rs s i d p l e =
    let g = slice_get-get_or rs i d l in
    record { place = p; within = l; there = found_there rs s (get_or rs i d) (subst (λ j. slice_get rs j ≡ Some (get_or rs i d)) p g) e ∙ sym g }

pub not_read : (rs : List Reach) (s i : ℕ) (d : Reach) → AreRising rs → i ≡ place_in rs s → (i < length rs → (get_or rs i d).s0 ≡ s → ⊥) → reach_of rs s ≡ None
not_read rs s i d h p f =
    not_there rs s h
    (λ r e g. let k : slice_get rs i ≡ Some r = subst (λ j. slice_get rs j ≡ Some r) (sym p) e in
    let l = slice_get_within rs i r k in
    f l (ap (λ (t : Reach). t.s0) (some_is (get_or rs i d) r (sym (slice_get-get_or rs i d l) ∙ k)) ∙ g))

-- what stands at the place of a number has it
pub number_there : (rs : List Reach) (s : ℕ) (r : Reach) → reach_of rs s ≡ Some r → r.s0 ≡ s
number_there [] s r e = absurd (cc)
number_there (q ∷ rs) s r e = go (q.s0 == s) refl e (number_there rs s r)
  where
    go : (b : Bool) → (q.s0 == s) ≡ b → (if b then Some q else reach_of rs s) ≡ Some r → (reach_of rs s ≡ Some r → r.s0 ≡ s) → r.s0 ≡ s
    go true t g ih = ap (λ (u : Reach). u.s0) (sym (some_is q r g)) ∙ eq_is q.s0 s t
    go false t g ih = ih g

-- an element that is read at the place of a number
pub read_there : (rs : List Reach) (s i : ℕ) (r : Reach) → IsPlaceOf rs s i → r ≡ get_or rs i r → reach_of rs s ≡ Some r
read_there rs s i r p e = p.there ∙ slice_get-get_or rs i r p.within ∙ ap (λ q. Some q) (sym e)

-- ---- putting in

-- one with a greater number goes to the end
pub with_last : (w : Reach) (rs : List Reach) → AreBelow w.s0 rs → with_reach w rs ≡ rs ++ w ∷ []
with_last w [] h = refl
with_last w (q ∷ rs) h =
    let a = and_left (nat_lt q.s0 w.s0) (list_all (λ t. nat_lt t.s0 w.s0) rs) h in
    let l = lt_is q.s0 w.s0 a in
    let n = neq_test q.s0 w.s0 (λ e. absurd (omega arith)) in
    rw (n, a) (ap (λ ts. q ∷ ts) (with_last w rs (and_right (nat_lt q.s0 w.s0) (list_all (λ t. nat_lt t.s0 w.s0) rs) h)))

-- one with the number of the one at the place replaces it
pub with_there : (w : Reach) (rs : List Reach) (r : Reach) → there rs w.s0 ≡ Some r → r.s0 ≡ w.s0 → with_reach w rs ≡ set rs (place_in rs w.s0) w
with_there w [] r e f = absurd (cc)
with_there w (q ∷ rs) r e f = go (nat_lt q.s0 w.s0) refl e (λ g. with_there w rs r g f)
  where
    go : (b : Bool) → nat_lt q.s0 w.s0 ≡ b → slice_get (q ∷ rs) (if b then suc (place_in rs w.s0) else zero) ≡ Some r → (there rs w.s0 ≡ Some r → with_reach w rs ≡ set rs (place_in rs w.s0) w)
        → (if q.s0 == w.s0 then w ∷ rs else if b then q ∷ with_reach w rs else w ∷ q ∷ rs) ≡ set (q ∷ rs) (if b then suc (place_in rs w.s0) else zero) w
    go true t g ih =
        let l = lt_is q.s0 w.s0 t in
        let n = neq_test q.s0 w.s0 (λ e. absurd (omega arith)) in
        rw n (ap (λ ts. q ∷ ts) (ih g))
    go false t g ih =
        let j : q.s0 ≡ w.s0 = ap (λ (u : Reach). u.s0) (some_is q r g) ∙ f in
        let n : (q.s0 == w.s0) ≡ true = ap (λ m. m == w.s0) j ∙ eq_refl w.s0 in
        rw n refl

-- ---- order

all_last : (p : Reach → Bool) (rs : List Reach) (w : Reach) → list_all p rs ≡ true → p w ≡ true → list_all p (rs ++ w ∷ []) ≡ true
all_last p [] w h e = and_true (p w) true e refl
all_last p (q ∷ rs) w h e = and_true (p q) (list_all p (rs ++ w ∷ [])) (and_left (p q) (list_all p rs) h) (all_last p rs w (and_right (p q) (list_all p rs) h) e)

pub rising_last : (w : Reach) (rs : List Reach) → AreBelow w.s0 rs → AreRising rs → AreRising (rs ++ w ∷ [])
rising_last w [] b h = (refl, tt)
rising_last w (q ∷ rs) b h =
    let a = and_left (nat_lt q.s0 w.s0) (list_all (λ t. nat_lt t.s0 w.s0) rs) b in
    (all_last (λ t. nat_lt q.s0 t.s0) rs w h.0 a, rising_last w rs (and_right (nat_lt q.s0 w.s0) (list_all (λ t. nat_lt t.s0 w.s0) rs) b) h.1)

all_set : (p : Reach → Bool) (rs : List Reach) (k : ℕ) (w : Reach) → list_all p rs ≡ true → p w ≡ true → list_all p (set rs k w) ≡ true
all_set p [] k w h e = refl
all_set p (q ∷ rs) zero w h e = and_true (p w) (list_all p rs) e (and_right (p q) (list_all p rs) h)
all_set p (q ∷ rs) (suc k) w h e = and_true (p q) (list_all p (set rs k w)) (and_left (p q) (list_all p rs) h) (all_set p rs k w (and_right (p q) (list_all p rs) h) e)

pub rising_set : (w r : Reach) (rs : List Reach) (k : ℕ) → slice_get rs k ≡ Some r → r.s0 ≡ w.s0 → AreRising rs → AreRising (set rs k w)
rising_set w r [] k e f h = tt
rising_set w r (q ∷ rs) zero e f h =
    let j : q.s0 ≡ w.s0 = ap (λ (u : Reach). u.s0) (some_is q r e) ∙ f in
    (subst (λ m. IsTrue (list_all (λ t. nat_lt m t.s0) rs)) j h.0, h.1)
rising_set w r (q ∷ rs) (suc k) e f h =
    let a = above_all q rs k r h.0 e in
    (all_set (λ t. nat_lt q.s0 t.s0) rs k w h.0 (lt_test q.s0 w.s0 (omega arith)), rising_set w r rs k e f h.1)

-- ---- growing

grown_number : (r : Reach) (k : ℤ) (n : ℕ) → (grown r k n).s0 ≡ r.s0
grown_number r k n = go (int_eq k (pos r.next))
  where
    go : (b : Bool) → (if b then record r { next = r.next + n } else record r { low = k }).s0 ≡ r.s0
    go true = refl
    go false = refl

-- one that grew
pub grown_there : (rs : List Reach) (s i : ℕ) (r w : Reach) (k : ℤ) (n : ℕ) → IsPlaceOf rs s i → r ≡ get_or rs i r → w ≡ grown r k n → with_grown (reach_of rs s) k n rs ≡ set rs i w
grown_there rs s i r w k n p e f =
    let t = read_there rs s i r p e in
    let m : w.s0 ≡ s = ap (λ (u : Reach). u.s0) f ∙ grown_number r k n ∙ number_there rs s r t in
    let g : there rs w.s0 ≡ Some r = ap (λ j. there rs j) m ∙ ap (λ j. slice_get rs j) (sym p.place) ∙ sym p.there ∙ t in
    ap (λ o. with_grown o k n rs) t ∙ ap (λ u. with_reach u rs) (sym f) ∙ with_there w rs r g (number_there rs s r t ∙ sym m) ∙ ap (λ j. set rs j w) (ap (place_in rs) m ∙ sym p.place)

pub grown_rises : (rs : List Reach) (s i : ℕ) (r w : Reach) (k : ℤ) (n : ℕ) → IsPlaceOf rs s i → r ≡ get_or rs i r → w ≡ grown r k n → AreRising rs → AreRising (set rs i w)
grown_rises rs s i r w k n p e f h =
    rising_set w r rs i (sym p.there ∙ read_there rs s i r p e) (sym (ap (λ (u : Reach). u.s0) f ∙ grown_number r k n)) h
