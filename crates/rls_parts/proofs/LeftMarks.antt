-- Members that have left, as a list and as marks.
use Rattle.std.proofs.Common.{◌≡◌, ℕ, zero, suc, ◌+◌, ◌<◌, ◌≤◌, ◌==◌, ◌||◌, ◌++◌, Bool, true, false, List, [], ◌∷◌, length, get_or, refl, sym, ap, ◌∙◌, subst, arith, if◌then◌else◌, length-append, append-nil, append_assoc}
use Rattle.std.proofs.lemmas.List.{get_or_append_left, get_or_push}
use Rattle.std.proofs.lemmas.List.Folds.{list_any-append}
use Rattle.rls_ident.proofs.Members.{bool_cases, eq_is, eq_not, neq_test, or_left, or_none}
use Rattle.rls_parts.specs.Given.{AreMembersFrom}
use Rattle.rls_parts.specs.Reading.{has_member}
use Rattle.rls_parts.specs.Restored.{marks_of}

-- ---- marks

pub length-marks : (ms : List ℕ) (n : ℕ) → length (marks_of ms n) ≡ n
length-marks ms zero = refl
length-marks ms (suc n) = let h = length-marks ms n in let k = length-append (marks_of ms n) (has_member ms n ∷ []) in omega arith

pub mark_at : (ms : List ℕ) (n a : ℕ) → a < n → get_or (marks_of ms n) a false ≡ has_member ms a
mark_at ms zero a h = absurd (omega arith)
mark_at ms (suc n) a h =
    bool_cases (a == n)
    (λ e. let q = eq_is a n e in get_or_push (marks_of ms n) (has_member ms n) false a (length-marks ms n ∙ sym q) ∙ ap (has_member ms) (sym q))
    (λ e. let l : a < n = let q = eq_not a n e in let x : (a ≡ n) → ⊥ = q in omega arith in
    get_or_append_left (marks_of ms n) (has_member ms n ∷ []) false a (let k = length-marks ms n in omega arith) ∙ mark_at ms n a l)

-- ---- the members below n that are marked

abbrev pub marked_below : (ℕ → Bool) → ℕ → List ℕ
marked_below f zero = []
marked_below f (suc n) = marked_below f n ++ (if f n then n ∷ [] else [])

pub marked_same : (f g : ℕ → Bool) (n : ℕ) → ((a : ℕ) → a < n → f a ≡ g a) → marked_below f n ≡ marked_below g n
marked_same f g zero h = refl
marked_same f g (suc n) h =
    ap (λ ms. ms ++ (if f n then n ∷ [] else [])) (marked_same f g n (λ a l. h a (omega arith)))
    ∙ ap (λ b. marked_below g n ++ (if b then n ∷ [] else [])) (h n (omega arith))

-- no member from n on is among them
none_from : (f : ℕ → Bool) (n a : ℕ) → n ≤ a → has_member (marked_below f n) a ≡ false
none_from f zero a h = refl
none_from f (suc n) a h =
    list_any-append (λ b. b == a) (marked_below f n) (if f n then n ∷ [] else [])
    ∙ (ap (λ b. b || has_member (if f n then n ∷ [] else []) a) (none_from f n a (omega arith)) ∙ go (f n))
  where
    go : (b : Bool) → has_member (if b then n ∷ [] else []) a ≡ false
    go true = ap (λ c. c || false) (neq_test n a (λ e. absurd (omega arith)))
    go false = refl

-- the marks of this list are those
pub marked_at : (f : ℕ → Bool) (n a : ℕ) → a < n → has_member (marked_below f n) a ≡ f a
marked_at f zero a h = absurd (omega arith)
marked_at f (suc n) a h =
    list_any-append (λ b. b == a) (marked_below f n) (if f n then n ∷ [] else [])
    ∙ bool_cases (n == a)
    (λ e. let q = eq_is n a e in
    ap (λ b. b || has_member (if f n then n ∷ [] else []) a) (none_from f n a (omega arith)) ∙ (here (f n) e ∙ ap f q))
    (λ e. let q = eq_not n a e in let l : a < n = let x : (n ≡ a) → ⊥ = q in omega arith in
    ap (λ b. b || has_member (if f n then n ∷ [] else []) a) (marked_at f n a l) ∙ (ap (λ b. f a || b) (there (f n) e) ∙ or_none (f a)))
  where
    here : (b : Bool) → (n == a) ≡ true → has_member (if b then n ∷ [] else []) a ≡ b
    here true e = ap (λ c. c || false) e
    here false e = refl

    there : (b : Bool) → (n == a) ≡ false → has_member (if b then n ∷ [] else []) a ≡ false
    there true e = ap (λ c. c || false) e
    there false e = refl

-- ---- from the front

marked_from : (ℕ → Bool) → ℕ → ℕ → List ℕ
marked_from f low zero = []
marked_from f low (suc k) = (if f low then low ∷ [] else []) ++ marked_from f (suc low) k

from_push : (f : ℕ → Bool) (low k : ℕ) → marked_from f low (suc k) ≡ marked_from f low k ++ (if f (low + k) then (low + k) ∷ [] else [])
unfolding marked_from
from_push f low zero = let e : low + 0 ≡ low = omega arith in append-nil (if f low then low ∷ [] else []) ∙ ap (λ m. if f m then m ∷ [] else []) (sym e)
from_push f low (suc k) =
    let e : suc low + k ≡ low + suc k = omega arith in
    ap (λ ms. (if f low then low ∷ [] else []) ++ ms) (from_push f (suc low) k)
    ∙ (sym (append_assoc (if f low then low ∷ [] else []) (marked_from f (suc low) k) (if f (suc low + k) then (suc low + k) ∷ [] else []))
    ∙ ap (λ m. ((if f low then low ∷ [] else []) ++ marked_from f (suc low) k) ++ (if f m then m ∷ [] else [])) e)

from_front : (f : ℕ → Bool) (n : ℕ) → marked_below f n ≡ marked_from f 0 n
unfolding marked_from
from_front f zero = refl
from_front f (suc n) =
    let e : 0 + n ≡ n = omega arith in
    ap (λ ms. ms ++ (if f n then n ∷ [] else [])) (from_front f n)
    ∙ (ap (λ m. marked_from f 0 n ++ (if f m then m ∷ [] else [])) (sym e) ∙ sym (from_push f 0 n))

from_same : (f g : ℕ → Bool) (low k : ℕ) → ((a : ℕ) → low ≤ a → f a ≡ g a) → marked_from f low k ≡ marked_from g low k
unfolding marked_from
from_same f g low zero h = refl
from_same f g low (suc k) h =
    ap (λ b. (if b then low ∷ [] else []) ++ marked_from f (suc low) k) (h low (omega arith))
    ∙ ap (λ ms. (if g low then low ∷ [] else []) ++ ms) (from_same f g (suc low) k (λ a l. h a (omega arith)))

-- a list of members in increasing order has none below its first
below_none : (low n : ℕ) (ms : List ℕ) (a : ℕ) → AreMembersFrom low n ms → a < low → has_member ms a ≡ false
below_none low n [] a h l = refl
below_none low n (m ∷ ms) a h l =
    let p = h.0 in
    ap (λ b. b || has_member ms a) (neq_test m a (λ e. absurd (omega arith))) ∙ below_none (suc m) n ms a h.2 (omega arith)

members_from : (low k n : ℕ) (ms : List ℕ) → n ≡ low + k → AreMembersFrom low n ms → marked_from (has_member ms) low k ≡ ms
unfolding marked_from
members_from low zero n [] e h = refl
members_from low zero n (m ∷ ms) e h = let p = h.0 in let q = h.1 in absurd (omega arith)
members_from low (suc k) n [] e h = members_from (suc low) k n [] (omega arith) tt
members_from low (suc k) n (m ∷ ms) e h =
    bool_cases (m == low)
    (λ q. let f = eq_is m low q in
    ap (λ b. (if b then low ∷ [] else []) ++ marked_from (has_member (m ∷ ms)) (suc low) k) (or_left (m == low) (has_member ms low) q)
    ∙ (ap (λ rs. low ∷ rs) (from_same (has_member (m ∷ ms)) (has_member ms) (suc low) k (λ a l. ap (λ b. b || has_member ms a) (neq_test m a (λ x. absurd (omega arith)))))
    ∙ (ap (λ rs. low ∷ rs) (members_from (suc low) k n ms (omega arith) (subst (λ x. AreMembersFrom (suc x) n ms) f h.2))
    ∙ ap (λ x. x ∷ ms) (sym f))))
    (λ q. let f = eq_not m low q in
    let p = h.0 in
    let l : low < m = let x : (m ≡ low) → ⊥ = f in omega arith in
    let above : AreMembersFrom (suc low) n (m ∷ ms) = (omega arith, h.1, h.2) in
    ap (λ b. (if b then low ∷ [] else []) ++ marked_from (has_member (m ∷ ms)) (suc low) k) (below_none (suc low) n (m ∷ ms) low above (omega arith))
    ∙ members_from (suc low) k n (m ∷ ms) (omega arith) above)

-- members in increasing order are those that they mark
pub members_are : (n : ℕ) (ms : List ℕ) → AreMembersFrom 0 n ms → marked_below (has_member ms) n ≡ ms
members_are n ms h = from_front (has_member ms) n ∙ members_from 0 n n ms (omega arith) h
