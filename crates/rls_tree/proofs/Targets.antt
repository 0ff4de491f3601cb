-- Which identifiers of a text are targets.
use Rattle.std.proofs.Common.{◌≡◌, ℕ, zero, suc, ◌+◌, ◌<◌, ◌≤◌, Bool, true, false, cond, List, [], ◌∷◌, length, take, drop, Some, Err, slice_get, refl, sym, ap, ◌∙◌, subst, ⊎_elim, arith}
use Rattle.std.specs.Prelude.{◌||◌, not}
use Rattle.std.proofs.lemmas.List.{take-append-drop}
use Rattle.std.proofs.lemmas.List.Folds.{list_any-append}
use Rattle.std.proofs.lemmas.Option.{slice_get_within}
use Rattle.std.proofs.Math.ListN.{drop_of_length-le}
use Rattle.std.proofs.Math.Nat.{eq-or-lt_of_le}
use Rattle.std.specs.Prelude.{nat_lt, pos}
use Rattle.rls_ident.specs.declared.tuple.Tuple.{Tuple}
use Rattle.rls_ident.specs.Identifiers.{ident_eq}
use Rattle.rls_ident.proofs.Lists.{Lt}
use Rattle.rls_ident.proofs.Members.{lt_is, not_lt_is}
use Rattle.rls_ident.proofs.Tuples.{tuples}
use Rattle.rls_runs.specs.Entries.{Entries, idents_in, has_ident, without_all}
use Rattle.rls_runs.specs.Places.{below_count, find_ident}
use Rattle.rls_ident.specs.Identifiers.{shifted}
use Rattle.rls_runs.specs.Runs.{run_idents}
use Rattle.rls_runs.proofs.RunOrder.{run_gets, AllLess, AllMore, Rising, less_trans, more_trans}
use Rattle.rls_runs.proofs.RunPlaces.{tells_less, tells_more}
use Rattle.rls_runs.proofs.Gaps.{below_take, more_drop, less_at, at_less, at_same, read_err, rising_drop}
use Rattle.rls_runs.proofs.RunEnds.{count_most}
use Rattle.rls_tree.specs.Targets.{AreMembers}
use Rattle.rls_tree.proofs.Puts.{headed, idents_take, idents_drop, get_drop}

-- ---- from a place to another

pub members_more : (is : Bool) (ts xs : List (List Tuple)) (i m j : ℕ) → AreMembers is ts xs i m → AreMembers is ts xs m j → AreMembers is ts xs i j
members_more is ts xs i m j h k n x o l g = go (nat_lt n m) refl
  where
    go : (t : Bool) → nat_lt n m ≡ t → has_ident ts x ≡ is
    go true e = h n x o (lt_is n m e) g
    go false e = k n x (not_lt_is n m e) l g

pub members_less : (is : Bool) (ts xs : List (List Tuple)) (i a b j : ℕ) → i ≤ a → b ≤ j → AreMembers is ts xs i j → AreMembers is ts xs a b
members_less is ts xs i a b j p q h n x o l g = h n x (omega (arith, p, o)) (omega (arith, q, l)) g

pub none_behind : (is : Bool) (ts xs : List (List Tuple)) (i j : ℕ) → length xs ≤ i → AreMembers is ts xs i j
none_behind is ts xs i j h n x o l g = let w = slice_get_within xs n x g in absurd (omega (arith, h, o, w))

-- ---- what is between two targets

module _ (ts xs : List (List Tuple)) (i j : ℕ) (y : List Tuple) (own : Rising ts) (rising : Rising xs) (found : find_ident ts y ≡ Err j) (at : slice_get xs i ≡ Some y) where
  pub short : j ≤ length ts
  short = let r = (read_err ts y j found).1 in let m = count_most ts y in omega (arith, r, m)

  less : AllLess (take j ts) y
  less = subst (λ n. AllLess (take n ts) y) (read_err ts y j found).1 (below_take ts y own)

  none_at : (k : ℕ) (x : List Tuple) → i ≤ k → slice_get xs k ≡ Some x → AllMore x (drop j ts) → has_ident ts x ≡ false
  none_at k x o g m =
      let later : AllLess (take j ts) x = ⊎_elim (λ e. let q : y ≡ x = let a = ap (slice_get xs) e in cc in subst (AllLess (take j ts)) q less) (λ l. less_trans (take j ts) y x less (less_at xs i y x rising at (let s = at_same xs k x rising g in omega (arith, s, l)))) (eq-or-lt_of_le (let n : i ≤ k = o in n)) in
      ap (λ zs. has_ident zs x) (sym (take-append-drop j ts)) ∙ list_any-append (λ z. ident_eq z x) (take j ts) (drop j ts)
      ∙ ap (λ t. t || has_ident (drop j ts) x) (tells_less (take j ts) x later).0 ∙ (tells_more (drop j ts) x m).0

  -- where there is no later target
  pub none_later : (m : ℕ) → j ≡ length ts → AreMembers false ts xs i m
  none_later m e k x o l g = none_at k x o g (subst (AllMore x) (sym (drop_of_length-le ts (omega (arith, e)))) tt)

  module _ (t : List Tuple) (next : slice_get ts j ≡ Some t) where
    rest : drop j ts ≡ t ∷ drop (suc j) ts
    rest = headed j ts t next

    pub none_before_next : AreMembers false ts xs i (below_count xs t)
    none_before_next k x o l g =
        let less : Lt tuples x t = less_at xs k x t rising g l in
        none_at k x o g (subst (AllMore x) (sym rest) (less, more_trans x t (drop (suc j) ts) less (subst Rising rest (rising_drop j ts own)).0))

    pub next_later : i < below_count xs t
    next_later =
        let m = subst (λ n. AllMore y (drop n ts)) (read_err ts y j found).1 (more_drop ts y own (read_err ts y j found).0) in
        at_less xs i y t rising at (subst (AllMore y) rest m).0

-- ---- entries of these

taken_at : (n k : ℕ) (xs : List (List Tuple)) (x : List Tuple) → slice_get (take n xs) k ≡ Some x → (k < n) × (slice_get xs k ≡ Some x)
taken_at zero k xs x g = absurd cc
taken_at (suc n) k [] x g = absurd cc
taken_at (suc n) zero (y ∷ xs) x g = (omega arith, g)
taken_at (suc n) (suc k) (y ∷ xs) x g = let r = taken_at n k xs x g in let l = r.0 in (omega (arith, l), r.1)

pub run_at : (xs : List (List Tuple)) (at n d : ℕ) (x : List Tuple) → take n (drop at xs) ≡ run_idents x n → d < n → slice_get xs (at + d) ≡ Some (shifted (pos d) x)
run_at xs at n d x h l = sym (get_drop at d xs) ∙ (taken_at n d (drop at xs) (shifted (pos d) x) (ap (λ zs. slice_get zs d) h ∙ run_gets x n d l)).1

all_stay : (ts : List (List Tuple)) (es : Entries) → ((k : ℕ) (x : List Tuple) → slice_get (idents_in es) k ≡ Some x → has_ident ts x ≡ false) → without_all ts es ≡ es
all_stay ts [] h = refl
all_stay ts (e ∷ es) h = ap (λ b. cond (not b) (e ∷ without_all ts es) (without_all ts es)) (h 0 e.0 refl) ∙ ap (λ zs. e ∷ zs) (all_stay ts es (λ k. h (suc k)))

all_go : (ts : List (List Tuple)) (es : Entries) → ((k : ℕ) (x : List Tuple) → slice_get (idents_in es) k ≡ Some x → has_ident ts x ≡ true) → without_all ts es ≡ []
all_go ts [] h = refl
all_go ts (e ∷ es) h = ap (λ b. cond (not b) (e ∷ without_all ts es) (without_all ts es)) (h 0 e.0 refl) ∙ all_go ts es (λ k. h (suc k))

part_members : (is : Bool) (ts : List (List Tuple)) (es : Entries) (i n : ℕ) → AreMembers is ts (idents_in es) i (i + n) → (k : ℕ) (x : List Tuple) → slice_get (idents_in (take n (drop i es))) k ≡ Some x → has_ident ts x ≡ is
part_members is ts es i n h k x g =
    let r = taken_at n k (drop i (idents_in es)) x (ap (λ xs. slice_get xs k) (sym (idents_take n (drop i es) ∙ ap (take n) (idents_drop i es))) ∙ g) in
    let l = r.0 in
    h (i + k) x (omega arith) (omega (arith, l)) (sym (get_drop i k (idents_in es)) ∙ r.1)

pub part_stays : (ts : List (List Tuple)) (es : Entries) (i n : ℕ) → AreMembers false ts (idents_in es) i (i + n) → without_all ts (take n (drop i es)) ≡ take n (drop i es)
part_stays ts es i n h = all_stay ts (take n (drop i es)) (part_members false ts es i n h)

pub part_goes : (ts : List (List Tuple)) (es : Entries) (i n : ℕ) → AreMembers true ts (idents_in es) i (i + n) → without_all ts (take n (drop i es)) ≡ []
part_goes ts es i n h = all_go ts (take n (drop i es)) (part_members true ts es i n h)
