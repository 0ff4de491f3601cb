-- Fronts of runs: where a pattern or an identifier cuts a run, and maps that take a front along.
use Rattle.std.proofs.Common.{◌≡◌, ℕ, zero, suc, ◌-◌, ◌<◌, ◌≤◌, ◌⊎◌, inl, inr, ⊎_elim, Bool, true, false, not, cond, List, [], ◌∷◌, ◌++◌, length, drop, Ok, Err, Some, refl, sym, ap, ◌∙◌, subst, arith}
use Rattle.std.specs.Prelude.{ℤ, pos}
use Rattle.std.specs.declared.cmp.Ordering.TheVariants.{Less}
use Rattle.std.proofs.lemmas.Bool.{cases_lt}
use Rattle.std.proofs.lemmas.Int.{ints}
use Rattle.rls_ident.specs.declared.tuple.Tuple.{Tuple}
use Rattle.rls_ident.specs.Tuples.{tuple_cmp}
use Rattle.rls_ident.specs.Maps.{under, low, high, low_inverse, high_inverse}
use Rattle.rls_ident.specs.Identifiers.{IsIdent, ident_cmp, last_of, shifted}
use Rattle.rls_ident.proofs.Down.{under_down}
use Rattle.rls_ident.proofs.Lists.{Lt, lt_trans, lt_irrefl}
use Rattle.rls_ident.proofs.Shifted.{shifted_less, shifted_none}
use Rattle.rls_ident.proofs.Tuples.{tuples}
use Rattle.rls_runs.specs.Runs.{run_idents, place_of}
use Rattle.rls_runs.proofs.Finding.{run_length}
use Rattle.rls_runs.proofs.RunOrder.{run_gets}
use Rattle.rls_rename.specs.Stretches.{GoesAlong, CutAt, OnOneSide}
use Rattle.rls_rename.proofs.GapPlaces.{gap_above, gap_below, gap_there, gap_most, gap_within}

-- ---- the last offset alone is raised

shifted_behind : (k : ℤ) (p x : List Tuple) → 0 < length x → shifted k (p ++ x) ≡ p ++ shifted k x
shifted_behind k [] x l = refl
shifted_behind k (t ∷ []) [] l = absurd (omega arith)
shifted_behind k (t ∷ []) (u ∷ x) l = refl
shifted_behind k (t ∷ (u ∷ p)) x l = ap (λ y. t ∷ y) (shifted_behind k (u ∷ p) x l)

shifted_stripped : (k : ℤ) (n : ℕ) (x : List Tuple) → n < length x → drop n (shifted k x) ≡ shifted k (drop n x)
shifted_stripped k zero x l = refl
shifted_stripped k (suc n) [] l = absurd (omega arith)
shifted_stripped k (suc n) (t ∷ []) l = absurd (omega arith)
shifted_stripped k (suc n) (t ∷ (u ∷ x)) l = shifted_stripped k n (u ∷ x) (omega arith)

pub prefixed_goes : (p x : List Tuple) (n : ℕ) → 0 < length x → GoesAlong (λ y. p ++ y) x n (p ++ x) n
prefixed_goes p x n l = record { most = omega arith; each = λ k h. sym (shifted_behind (pos k) p x l) }

pub stripped_goes : (i : ℕ) (x : List Tuple) (n : ℕ) → i < length x → GoesAlong (drop i) x n (drop i x) n
stripped_goes i x n l = record { most = omega arith; each = λ k h. shifted_stripped (pos k) i x l }

-- and kept
pub prefixed_last : (p x : List Tuple) → 0 < length x → last_of (p ++ x) ≡ last_of x
prefixed_last [] x l = refl
prefixed_last (t ∷ []) [] l = absurd (omega arith)
prefixed_last (t ∷ []) (u ∷ x) l = refl
prefixed_last (t ∷ (u ∷ p)) x l = prefixed_last (u ∷ p) x l

pub stripped_last : (i : ℕ) (x : List Tuple) → i < length x → last_of (drop i x) ≡ last_of x
stripped_last zero x l = refl
stripped_last (suc i) [] l = absurd (omega arith)
stripped_last (suc i) (t ∷ []) l = absurd (omega arith)
stripped_last (suc i) (t ∷ (u ∷ x)) l = stripped_last i (u ∷ x) (omega arith)

-- ---- where a run is cut

-- what follows in the run is greater
next_greater : (x : List Tuple) (k : ℕ) → IsIdent x → 0 < k → Lt tuples x (shifted (pos k) x)
next_greater x k i l = subst (λ y. Lt tuples y (shifted (pos k) x)) (shifted_none x) (shifted_less (pos 0) (pos k) x i (omega (arith, ints)))

side_between : (p x : List Tuple) (k m : ℕ) (b : Bool) → IsIdent x → 0 < k → k < m → under tuple_cmp x p ≡ b → under tuple_cmp (shifted (pos m) x) p ≡ b → under tuple_cmp (shifted (pos k) x) p ≡ b
side_between p x k m true i l r e h = under_down tuples (shifted (pos k) x) (shifted (pos m) x) p (shifted_less (pos k) (pos m) x i (omega (arith, ints))) h
side_between p x k m false i l r e h = go (under tuple_cmp (shifted (pos k) x) p) refl
  where
    go : (c : Bool) → under tuple_cmp (shifted (pos k) x) p ≡ c → under tuple_cmp (shifted (pos k) x) p ≡ false
    go true q = let u = under_down tuples x (shifted (pos k) x) p (next_greater x k i l) q in absurd (cc)
    go false q = q

-- what lies on the side of the pattern on which both ends lie
pub side_along : (p x : List Tuple) (m : ℕ) (b : Bool) → IsIdent x → under tuple_cmp x p ≡ b → under tuple_cmp (shifted (pos m) x) p ≡ b → (k : ℕ) → k ≤ m → under tuple_cmp (shifted (pos k) x) p ≡ b
side_along p x m b i e h zero l = ap (λ y. under tuple_cmp y p) (shifted_none x) ∙ e
side_along p x m b i e h (suc k) l =
    ⊎_elim (λ q. side_between p x (suc k) m b i (omega arith) q e h) (λ q. let n : suc k ≡ m = omega arith in ap (λ j. under tuple_cmp (shifted (pos j) x) p) n ∙ h) (cases_lt (suc k) m)

-- by a search for the identifier that is to be above
module _ (x : List Tuple) (n : ℕ) (limit : List Tuple) (i : IsIdent x) (less : ident_cmp x limit ≡ Less) where
  cut_found : (k : ℕ) → place_of limit (run_idents x n) ≡ Ok k → CutAt x n limit k
  cut_found k e =
      let w = gap_within (run_idents x n) limit k e in
      let l = run_length x n in
      let m : k < n = omega arith in
      let g = gap_there (run_idents x n) limit k e in
      let r = run_gets x n k m in
      let same : shifted (pos k) x ≡ limit = cc in
      record {
        some = ⊎_elim (λ h. h) (λ h. let z : k ≡ 0 = omega arith in
            absurd (lt_irrefl (subst (λ y. Lt tuples x y) (sym same ∙ ap (λ j. shifted (pos j) x) z ∙ shifted_none x) (record { less = less })))) (cases_lt 0 k);
        most = omega arith;
        below = λ j h. (subst (λ y. Lt tuples (shifted (pos j) x) y) same (shifted_less (pos j) (pos k) x i (omega (arith, ints)))).less;
      }

  cut_missed : 0 < n → (k : ℕ) → place_of limit (run_idents x n) ≡ Err k → CutAt x n limit k
  cut_missed s k e =
      let m = gap_most (run_idents x n) limit k e in
      let l = run_length x n in
      let some : 0 < k =
      ⊎_elim (λ h. h)
      (λ h. let z : k ≡ 0 = omega arith in
      let a = gap_above (run_idents x n) limit 0 x (e ∙ ap Err z) (run_gets x n 0 s ∙ ap Some (shifted_none x)) in
      absurd (lt_irrefl (lt_trans {A = tuples} {x = x} {y = limit} {z = x} (record { less = less }) (record { less = a })))) (cases_lt 0 k) in
      let last : ident_cmp (shifted (pos (k - 1)) x) limit ≡ Less = gap_below (run_idents x n) limit k (shifted (pos (k - 1)) x) e some (run_gets x n (k - 1) (omega arith)) in
      record {
        some = some;
        most = omega arith;
        below = λ j h.
            ⊎_elim (λ q. (lt_trans {A = tuples} {x = shifted (pos j) x} {y = shifted (pos (k - 1)) x} {z = limit} (shifted_less (pos j) (pos (k - 1)) x i (omega (arith, ints))) (record { less = last })).less)
            (λ q. let z : j ≡ k - 1 = omega arith in ap (λ a. ident_cmp (shifted (pos a) x) limit) z ∙ last) (cases_lt j (k - 1));
      }

  pub cut_at : 0 < n → (k : ℕ) → (Ok k ≡ place_of limit (run_idents x n)) ⊎ (Err k ≡ place_of limit (run_idents x n)) → CutAt x n limit k
  cut_at s k (inl e) = cut_found k (sym e)
  cut_at s k (inr e) = cut_missed s k (sym e)

-- ---- maps that go along

-- the first one
pub goes_first : (F : List Tuple → List Tuple) (x : List Tuple) (n : ℕ) (z : List Tuple) (m : ℕ) → 0 < m → GoesAlong F x n z m → z ≡ F x
goes_first F x n z m l g = sym (shifted_none z) ∙ (sym (g.each 0 l) ∙ ap F (shifted_none x))

-- a map that changes nothing
pub goes_same : (x : List Tuple) (n : ℕ) → GoesAlong (λ t. t) x n x n
goes_same x n = record { most = omega arith; each = λ k h. refl }

-- one map and then another
pub goes_then : (F G : List Tuple → List Tuple) (x : List Tuple) (n : ℕ) (y : List Tuple) (m : ℕ) (z : List Tuple) (l : ℕ) → GoesAlong F x n y m → GoesAlong G y m z l → GoesAlong (λ t. G (F t)) x n z l
goes_then F G x n y m z l f g =
    let a = f.most in
    let b = g.most in
    record { most = omega arith; each = λ k h. ap G (f.each k (omega arith)) ∙ g.each k h }

-- a map that does the same along a front
pub goes_as : (F G : List Tuple → List Tuple) (x : List Tuple) (n m : ℕ) (z : List Tuple) (l : ℕ) → m ≤ n → ((k : ℕ) → k < m → F (shifted (pos k) x) ≡ G (shifted (pos k) x)) → GoesAlong G x m z l → GoesAlong F x n z l
goes_as F G x n m z l w e g = let b = g.most in record { most = omega arith; each = λ k h. e k (omega arith) ∙ g.each k h }

-- ---- a front on one side of a pattern

cond_not : (b : Bool) (s t : List Tuple) → cond b s t ≡ cond (not b) t s
cond_not true s t = refl
cond_not false s t = refl

-- the pattern's side on which it begins
pub front_side : {p x y : List Tuple} {n m : ℕ} {b : Bool} → OnOneSide p x n b y m → 0 < m → under tuple_cmp y p ≡ b
front_side {p} {x} o l = ap (λ t. under tuple_cmp t p) (o.first ∙ sym (shifted_none x)) ∙ o.side 0 l

-- a map that does one thing on each side
side_goes : {p x y : List Tuple} {n m : ℕ} {b : Bool} (F : List Tuple → List Tuple) (G : Bool → List Tuple → List Tuple) (z : List Tuple) (l : ℕ) → ((t : List Tuple) → F t ≡ G (under tuple_cmp t p) t) → OnOneSide p x n b y m → GoesAlong (G b) y m z l → GoesAlong F x n z l
side_goes {p} {x} {y} {n} {m} {b} F G z l e o g =
    goes_as F (G b) x n m z l o.most (λ k h. e (shifted (pos k) x) ∙ ap (λ c. G c (shifted (pos k) x)) (o.side k h)) (subst (λ t. GoesAlong (G b) t m z l) o.first g)

pub low_goes : {p x y : List Tuple} {n m : ℕ} {b : Bool} (z : List Tuple) (l : ℕ) → OnOneSide p x n b y m → GoesAlong (λ t. cond b (p ++ t) t) y m z l → GoesAlong (low tuple_cmp p) x n z l
unfolding low
low_goes {p} z l o g = side_goes (low tuple_cmp p) (λ c t. cond c (p ++ t) t) z l (λ t. refl) o g

pub high_goes : {p x y : List Tuple} {n m : ℕ} {b : Bool} (z : List Tuple) (l : ℕ) → OnOneSide p x n b y m → GoesAlong (λ t. cond (not b) (p ++ t) t) y m z l → GoesAlong (high tuple_cmp p) x n z l
unfolding high
high_goes {p} z l o g = side_goes (high tuple_cmp p) (λ c t. cond (not c) (p ++ t) t) z l (λ t. cond_not (under tuple_cmp t p) t (p ++ t)) o g

pub low_inverse_goes : {p x y : List Tuple} {n m : ℕ} {b : Bool} (z : List Tuple) (l : ℕ) → OnOneSide p x n b y m → GoesAlong (λ t. cond b (drop (length p) t) t) y m z l → GoesAlong (low_inverse tuple_cmp p) x n z l
unfolding low_inverse
low_inverse_goes {p} z l o g = side_goes (low_inverse tuple_cmp p) (λ c t. cond c (drop (length p) t) t) z l (λ t. refl) o g

pub high_inverse_goes : {p x y : List Tuple} {n m : ℕ} {b : Bool} (z : List Tuple) (l : ℕ) → OnOneSide p x n b y m → GoesAlong (λ t. cond (not b) (drop (length p) t) t) y m z l → GoesAlong (high_inverse tuple_cmp p) x n z l
unfolding high_inverse
high_inverse_goes {p} z l o g = side_goes (high_inverse tuple_cmp p) (λ c t. cond (not c) (drop (length p) t) t) z l (λ t. cond_not (under tuple_cmp t p) t (drop (length p) t)) o g
