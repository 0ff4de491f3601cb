-- The order of the identifiers of runs.
use Rattle.std.proofs.Common.{◌≡◌, ℕ, zero, suc, ◌-◌, ◌<◌, true, List, [], ◌∷◌, ◌++◌, Option, Some, slice_get, refl, sym, ap, ◌∙◌, subst, arith, append_assoc}
use Rattle.std.specs.Prelude.{pos, ◌+ℤ◌, ◌<ℤ◌, ◌&&◌, nat_lt, int_le, not}
use Rattle.std.specs.List.{list_all}
use Rattle.std.proofs.lemmas.Int.{ints}
use Rattle.std.proofs.lemmas.List.{append-nil}
use Rattle.std.proofs.lemmas.List.Folds.{list_all-append}
use Rattle.rls_ident.specs.declared.tuple.Tuple.{Tuple}
use Rattle.rls_ident.specs.Identifiers.{is_ident, IsIdent, is_bounded, last_of, ident_lt, shifted, follows}
use Rattle.rls_ident.specs.Tuples.{offset_of}
use Rattle.rls_ident.proofs.Lists.{Lt, lt_trans}
use Rattle.rls_ident.proofs.Members.{and_left, and_right, and_true, lt_is}
use Rattle.rls_ident.proofs.Shifted.{shifted_less, shifted_none, shifted_shifted, ident_shifted}
use Rattle.rls_ident.proofs.Tuples.{tuples}
pub use Rattle.rls_ident.proofs.Tuples.{lt_of, of_lt}
use Rattle.rls_runs.specs.Runs.{run_idents, run_last, idents_of, is_apart, are_apart, is_increasing, is_run, past_offsets}

-- each of these is less than y
abbrev pub AllLess : List (List Tuple) → List Tuple → Type 0
AllLess [] y = Unit {0}
AllLess (x ∷ xs) y = Lt tuples x y × AllLess xs y

-- y is less than each of these
abbrev pub AllMore : List Tuple → List (List Tuple) → Type 0
AllMore y [] = Unit {0}
AllMore y (x ∷ xs) = Lt tuples y x × AllMore y xs

-- each is less than all later ones
abbrev pub Rising : List (List Tuple) → Type 0
Rising [] = Unit {0}
Rising (x ∷ xs) = AllMore x xs × Rising xs

pub less_append : (xs ys : List (List Tuple)) (z : List Tuple) → AllLess xs z → AllLess ys z → AllLess (xs ++ ys) z
less_append [] ys z h k = k
less_append (x ∷ xs) ys z h k = (h.0, less_append xs ys z h.1 k)

pub less_trans : (xs : List (List Tuple)) (y z : List Tuple) → AllLess xs y → Lt tuples y z → AllLess xs z
less_trans [] y z h k = tt
less_trans (x ∷ xs) y z h k = (lt_trans h.0 k, less_trans xs y z h.1 k)

pub more_append : (z : List Tuple) (xs ys : List (List Tuple)) → AllMore z xs → AllMore z ys → AllMore z (xs ++ ys)
more_append z [] ys h k = k
more_append z (x ∷ xs) ys h k = (h.0, more_append z xs ys h.1 k)

pub more_left : (z : List Tuple) (xs ys : List (List Tuple)) → AllMore z (xs ++ ys) → AllMore z xs
more_left z [] ys h = tt
more_left z (x ∷ xs) ys h = (h.0, more_left z xs ys h.1)

pub more_right : (z : List Tuple) (xs ys : List (List Tuple)) → AllMore z (xs ++ ys) → AllMore z ys
more_right z [] ys h = h
more_right z (x ∷ xs) ys h = more_right z xs ys h.1

pub more_trans : (y z : List Tuple) (xs : List (List Tuple)) → Lt tuples y z → AllMore z xs → AllMore y xs
more_trans y z [] h k = tt
more_trans y z (x ∷ xs) h k = (lt_trans h k.0, more_trans y z xs h k.1)

pub rising_left : (xs ys : List (List Tuple)) → Rising (xs ++ ys) → Rising xs
rising_left [] ys h = tt
rising_left (x ∷ xs) ys h = (more_left x xs ys h.0, rising_left xs ys h.1)

pub rising_right : (xs ys : List (List Tuple)) → Rising (xs ++ ys) → Rising ys
rising_right [] ys h = h
rising_right (x ∷ xs) ys h = rising_right xs ys h.1

pub increasing_of : (xs : List (List Tuple)) → Rising xs → is_increasing xs ≡ true
increasing_of [] h = refl
increasing_of (x ∷ []) h = refl
increasing_of (x ∷ (y ∷ ys)) h = and_true (ident_lt x y) (is_increasing (y ∷ ys)) (of_lt x y h.0.0) (increasing_of (y ∷ ys) h.1)

pub rising_of : (xs : List (List Tuple)) → is_increasing xs ≡ true → Rising xs
rising_of [] h = tt
rising_of (x ∷ []) h = (tt, tt)
rising_of (x ∷ (y ∷ xs)) h =
    let l = lt_of x y (and_left (ident_lt x y) (is_increasing (y ∷ xs)) h) in
    let r = rising_of (y ∷ xs) (and_right (ident_lt x y) (is_increasing (y ∷ xs)) h) in
    ((l, more_trans x y xs l r.0), r)

-- ---- one run

next_less : (x : List Tuple) → IsIdent x → Lt tuples x (shifted (pos 1) x)
next_less x i = let h : pos 0 <ℤ pos 1 = omega (arith, ints) in subst (λ z. Lt tuples z (shifted (pos 1) x)) (shifted_none x) (shifted_less (pos 0) (pos 1) x i h)

-- the identifier m places on, counted from the next one
next_shifted : (m : ℕ) (x : List Tuple) → shifted (pos m) (shifted (pos 1) x) ≡ shifted (pos (suc m)) x
next_shifted m x = shifted_shifted (pos m) (pos 1) x ∙ ap (λ k. shifted k x) (omega (arith, ints))

-- what is less than x is less than each identifier from it on
pub less_shifted : (y x : List Tuple) (m : ℕ) → IsIdent x → Lt tuples y x → Lt tuples y (shifted (pos m) x)
less_shifted y x zero i h = subst (λ z. Lt tuples y z) (sym (shifted_none x)) h
less_shifted y x (suc m) i h = subst (λ z. Lt tuples y z) (next_shifted m x) (less_shifted y (shifted (pos 1) x) m (ident_shifted (pos 1) x i) (lt_trans h (next_less x i)))

pub run_more : (y x : List Tuple) (n : ℕ) → IsIdent x → Lt tuples y x → AllMore y (run_idents x n)
run_more y x zero i h = tt
run_more y x (suc n) i h = (h, run_more y (shifted (pos 1) x) n (ident_shifted (pos 1) x i) (lt_trans h (next_less x i)))

-- and what is greater than the last one is greater than each
pub run_less : (x : List Tuple) (n : ℕ) (z : List Tuple) → IsIdent x → Lt tuples (shifted (pos n) x) z → AllLess (run_idents x (suc n)) z
run_less x zero z i h = (subst (λ y. Lt tuples y z) (shifted_none x) h, tt)
run_less x (suc n) z i h =
    let on : Lt tuples (shifted (pos n) (shifted (pos 1) x)) z = subst (λ y. Lt tuples y z) (sym (next_shifted n x)) h in
    (lt_trans (less_shifted x (shifted (pos 1) x) n (ident_shifted (pos 1) x i) (next_less x i)) on, run_less (shifted (pos 1) x) n z (ident_shifted (pos 1) x i) on)

-- a run before identifiers above it
rising_run : (n : ℕ) (x : List Tuple) (rest : List (List Tuple)) → IsIdent x → AllMore (shifted (pos n) x) rest → Rising rest → Rising (run_idents x (suc n) ++ rest)
rising_run zero x rest i h r = (subst (λ y. AllMore y rest) (shifted_none x) h, r)
rising_run (suc n) x rest i h r =
    let j = ident_shifted (pos 1) x i in
    let on : AllMore (shifted (pos n) (shifted (pos 1) x)) rest = subst (λ y. AllMore y rest) (sym (next_shifted n x)) h in
    let less = next_less x i in (
      more_append x (run_idents (shifted (pos 1) x) (suc n)) rest (run_more x (shifted (pos 1) x) (suc n) j less)
          (more_trans x (shifted (pos n) (shifted (pos 1) x)) rest (less_shifted x (shifted (pos 1) x) n j less) on),
      rising_run n (shifted (pos 1) x) rest j on r,
    )

-- the identifiers of a run rise, from the first to `run_last`
pub run_rising : (x : List Tuple) (n : ℕ) → IsIdent x → Rising (run_idents x n)
run_rising x zero i = tt
run_rising x (suc n) i = subst Rising (append-nil (run_idents x (suc n))) (rising_run n x [] i tt tt)

-- what stands after a run is greater than its last identifier
pub last_rising : (m : ℕ) (x : List Tuple) (rest : List (List Tuple)) → Rising (run_idents x (suc m) ++ rest) → AllMore (shifted (pos m) x) rest
last_rising zero x rest h = subst (λ y. AllMore y rest) (sym (shifted_none x)) h.0
last_rising (suc m) x rest h = subst (λ y. AllMore y rest) (next_shifted m x) (last_rising m (shifted (pos 1) x) rest h.1)

pub run_are_idents : (x : List Tuple) (n : ℕ) → IsIdent x → list_all is_ident (run_idents x n) ≡ true
run_are_idents x zero i = refl
run_are_idents x (suc n) i = and_true (is_ident x) (list_all is_ident (run_idents (shifted (pos 1) x) n)) i (run_are_idents (shifted (pos 1) x) n (ident_shifted (pos 1) x i))

pub run_gets : (x : List Tuple) (n j : ℕ) → j < n → slice_get (run_idents x n) j ≡ Some (shifted (pos j) x)
run_gets x zero j h = absurd (omega arith)
run_gets x (suc n) zero h = ap Some (sym (shifted_none x))
run_gets x (suc n) (suc j) h = run_gets (shifted (pos 1) x) n j (omega arith) ∙ ap Some (next_shifted j x)

-- ---- runs one after another

pub run_ident : (r : List Tuple × ℕ) → is_run r ≡ true → IsIdent r.0
run_ident r h =
    let a = is_ident r.0 in
    let b = is_bounded r.0 in
    let c = nat_lt 0 r.1 in
    let d = int_le (offset_of (last_of r.0) +ℤ pos r.1) past_offsets in
    and_left a b (and_left (a && b) c (and_left (a && b && c) d h))

pub last_at : (x : List Tuple) (m : ℕ) → run_last (x, suc m) ≡ shifted (pos m) x
last_at x m = let e : suc m - 1 ≡ m = omega arith in ap (λ k. shifted (pos k) x) e

-- what a list of runs in order says of its first one
pub apart_head : (r s : List Tuple × ℕ) (rs : List (List Tuple × ℕ)) → are_apart (Some r) (s ∷ rs) ≡ true → Lt tuples (run_last r) s.0 × (are_apart (Some s) rs ≡ true)
apart_head r s rs h =
    let p = and_left (nat_lt 0 s.1 && is_apart (Some r) s) (are_apart (Some s) rs) h in
    let q = and_right (nat_lt 0 s.1) (is_apart (Some r) s) p in
    (lt_of (run_last r) s.0 (and_left (ident_lt (run_last r) s.0) (not (follows s.0 (run_last r))) q), and_right (nat_lt 0 s.1 && is_apart (Some r) s) (are_apart (Some s) rs) h)

pub apart_rest : (before : Option (List Tuple × ℕ)) (s : List Tuple × ℕ) (rs : List (List Tuple × ℕ)) → are_apart before (s ∷ rs) ≡ true → are_apart (Some s) rs ≡ true
apart_rest before s rs h = and_right (nat_lt 0 s.1 && is_apart before s) (are_apart (Some s) rs) h

sound_head : (s : List Tuple × ℕ) (rs : List (List Tuple × ℕ)) → list_all is_run (s ∷ rs) ≡ true → IsIdent s.0 × (list_all is_run rs ≡ true)
sound_head s rs h = (run_ident s (and_left (is_run s) (list_all is_run rs) h), and_right (is_run s) (list_all is_run rs) h)

-- what is less than the first identifier of runs in order is less than all
pub idents_above : (y : List Tuple) (before : Option (List Tuple × ℕ)) (s : List Tuple × ℕ) (rs : List (List Tuple × ℕ)) → are_apart before (s ∷ rs) ≡ true → list_all is_run (s ∷ rs) ≡ true → Lt tuples y s.0 → AllMore y (idents_of (s ∷ rs))
idents_above y before (x, zero) rs h k l = absurd (cc)
idents_above y before (x, suc m) [] h k l = more_append y (run_idents x (suc m)) [] (run_more y x (suc m) (sound_head (x, suc m) [] k).0 l) tt
idents_above y before (x, suc m) (t ∷ rs) h k l =
    let a = apart_rest before (x, suc m) (t ∷ rs) h in
    let b = sound_head (x, suc m) (t ∷ rs) k in
    let last : Lt tuples y (run_last (x, suc m)) = subst (λ z. Lt tuples y z) (sym (last_at x m)) (less_shifted y x m b.0 l) in
    more_append y (run_idents x (suc m)) (idents_of (t ∷ rs)) (run_more y x (suc m) b.0 l)
    (idents_above y (Some (x, suc m)) t rs a b.1 (lt_trans last (apart_head (x, suc m) t rs a).0))

idents_more : (r : List Tuple × ℕ) (rs : List (List Tuple × ℕ)) → are_apart (Some r) rs ≡ true → list_all is_run rs ≡ true → AllMore (run_last r) (idents_of rs)
idents_more r [] h k = tt
idents_more r (s ∷ rs) h k = idents_above (run_last r) (Some r) s rs h k (apart_head r s rs h).0

pub idents_rise : (before : Option (List Tuple × ℕ)) (rs : List (List Tuple × ℕ)) → are_apart before rs ≡ true → list_all is_run rs ≡ true → Rising (idents_of rs)
idents_rise before [] h k = tt
idents_rise before ((x, zero) ∷ rs) h k = absurd (cc)
idents_rise before ((x, suc m) ∷ rs) h k =
    let a = apart_rest before (x, suc m) rs h in
    let b = sound_head (x, suc m) rs k in
    rising_run m x (idents_of rs) b.0 (subst (λ y. AllMore y (idents_of rs)) (last_at x m) (idents_more (x, suc m) rs a b.1)) (idents_rise (Some (x, suc m)) rs a b.1)

pub idents_append : (fs bs : List (List Tuple × ℕ)) → idents_of (fs ++ bs) ≡ idents_of fs ++ idents_of bs
idents_append [] bs = refl
idents_append (r ∷ fs) bs = ap (λ xs. run_idents r.0 r.1 ++ xs) (idents_append fs bs) ∙ sym (append_assoc (run_idents r.0 r.1) (idents_of fs) (idents_of bs))

pub all_idents : (rs : List (List Tuple × ℕ)) → list_all is_run rs ≡ true → list_all is_ident (idents_of rs) ≡ true
all_idents [] h = refl
all_idents (r ∷ rs) h =
    let b = sound_head r rs h in
    list_all-append is_ident (run_idents r.0 r.1) (idents_of rs) ∙ and_true (list_all is_ident (run_idents r.0 r.1)) (list_all is_ident (idents_of rs)) (run_are_idents r.0 r.1 b.0) (all_idents rs b.1)

pub run_some : (r : List Tuple × ℕ) → is_run r ≡ true → 0 < r.1
run_some r h =
    let a = is_ident r.0 && is_bounded r.0 in
    let d = int_le (offset_of (last_of r.0) +ℤ pos r.1) past_offsets in
    lt_is 0 r.1 (and_right a (nat_lt 0 r.1) (and_left (a && nat_lt 0 r.1) d h))

pub sound_at : (fs : List (List Tuple × ℕ)) (r : List Tuple × ℕ) (bs : List (List Tuple × ℕ)) → list_all is_run (fs ++ r ∷ bs) ≡ true → is_run r ≡ true
sound_at [] r bs h = and_left (is_run r) (list_all is_run bs) h
sound_at (q ∷ fs) r bs h = sound_at fs r bs (and_right (is_run q) (list_all is_run (fs ++ r ∷ bs)) h)

pub first_more : (z x : List Tuple) (n : ℕ) (rest : List (List Tuple)) → 0 < n → AllMore z (run_idents x n ++ rest) → Lt tuples z x
first_more z x zero rest h k = absurd (omega arith)
first_more z x (suc n) rest h k = k.0

-- the identifiers before a run are less than its first one
pub before_less : (before : Option (List Tuple × ℕ)) (fs : List (List Tuple × ℕ)) (r : List Tuple × ℕ) (bs : List (List Tuple × ℕ)) → are_apart before (fs ++ r ∷ bs) ≡ true → list_all is_run (fs ++ r ∷ bs) ≡ true → AllLess (idents_of fs) r.0
before_less before [] r bs h k = tt
before_less before ((x, zero) ∷ fs) r bs h k = absurd (cc)
before_less before ((x, suc m) ∷ fs) r bs h k =
    let a = apart_rest before (x, suc m) (fs ++ r ∷ bs) h in
    let b = sound_head (x, suc m) (fs ++ r ∷ bs) k in
    let all = subst (AllMore (run_last (x, suc m))) (idents_append fs (r ∷ bs)) (idents_more (x, suc m) (fs ++ r ∷ bs) a b.1) in
    let first = first_more (run_last (x, suc m)) r.0 r.1 (idents_of bs) (run_some r (sound_at fs r bs b.1)) (more_right (run_last (x, suc m)) (idents_of fs) (idents_of (r ∷ bs)) all) in
    less_append (run_idents x (suc m)) (idents_of fs) r.0 (run_less x m r.0 b.0 (subst (λ z. Lt tuples z r.0) (last_at x m) first)) (before_less (Some (x, suc m)) fs r bs a b.1)

pub behind_apart : (before : Option (List Tuple × ℕ)) (fs : List (List Tuple × ℕ)) (r : List Tuple × ℕ) (bs : List (List Tuple × ℕ)) → are_apart before (fs ++ r ∷ bs) ≡ true → list_all is_run (fs ++ r ∷ bs) ≡ true → (are_apart (Some r) bs ≡ true) × (list_all is_run bs ≡ true)
behind_apart before [] r bs h k = (apart_rest before r bs h, (sound_head r bs k).1)
behind_apart before (q ∷ fs) r bs h k = behind_apart (Some q) fs r bs (apart_rest before q (fs ++ r ∷ bs) h) (sound_head q (fs ++ r ∷ bs) k).1
