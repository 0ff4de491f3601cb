-- Names of a run that are kept together.
use Rattle.std.proofs.Common.{◌≡◌, ℕ, zero, suc, ◌+◌, ◌-◌, ◌<◌, ◌≤◌, Bool, true, false, List, [], ◌∷◌, ◌++◌, length, take, drop, get_or, refl, sym, ap, ◌∙◌, subst, arith}
use Rattle.std.specs.Prelude.{Some, ◌==◌, ◌&&◌, ◌||◌, cond, filter, reverse, is_ok, slice_get, nat_lt, nat_eq, Ok, Err}
use Rattle.std.specs.List.{dedup}
use Rattle.std.specs.List.Retain.{IsFiltered, DiffersFromLast}
use Rattle.std.specs.List.Sorted.{IsSorted, IsNonDecreasing, IsBinarySearchResult}
use Rattle.std.specs.Ordering.{nat_cmp}
use Rattle.std.proofs.lemmas.List.{length-take, length-drop}
use Rattle.std.proofs.lemmas.List.Filters.{dedup_is}
use Rattle.std.proofs.lemmas.List.Kept.{AllPairs-from_increasing, Contains-dedup_nat, Contains-from_dedup}
use Rattle.std.proofs.lemmas.List.Sorted.{searched}
use Rattle.std.proofs.lemmas.Map.Keys.{IsStrictlyIncreasing-dedup}
use Rattle.std.proofs.Math.Seq.{take-add}
use Rattle.std.proofs.lemmas.List.Elements.{filter-append}
use Rattle.rls_ident.proofs.Agreeing.{filter_all}
use Rattle.rls_ident.specs.declared.tuple.Tuple.{Tuple}
use Rattle.rls_ident.specs.Identifiers.{ident_eq}
use Rattle.rls_ident.specs.Lists.{IsIn}
use Rattle.rls_ident.proofs.Ends.{ident_eq_refl}
use Rattle.rls_ident.proofs.Members.{bool_cases, eq_refl, same_bool, lt_is, not_lt_is, not_true, in_any, any_in}
use Rattle.rls_runs.specs.Runs.{place_of}
use Rattle.rls_steps.specs.Labelled.{Names}
use Rattle.rls_steps.specs.NameRuns.{Stretch, name_at, names_of}
use Rattle.rls_steps.specs.Tables.{IsRising}
use Rattle.rls_steps.specs.Index.{newest_at}
use Rattle.rls_steps.specs.Bounds.{IsLatest}
use Rattle.rls_steps.specs.Sweeping.{is_needed, is_that, is_newest, is_kept}
use Rattle.rls_steps.proofs.Found.{contained, contains_in}
use Rattle.rls_steps.proofs.Indexing.{tail_name}
use Rattle.rls_steps.proofs.Stretches.{in_names, names_long}
use Rattle.rls_steps.proofs.Swept.{in_list, needed_at}
use Rattle.rls_steps.proofs.Walking.{newest_ident}

-- ---- labels in increasing order, each once

pub rising_dedup : (xs ys : List ℕ) → IsSorted nat_cmp xs → IsFiltered (DiffersFromLast nat_eq) [] xs ys → IsRising ys
rising_dedup xs ys s f =
    let pairs = AllPairs-from_increasing (dedup nat_eq xs) (IsStrictlyIncreasing-dedup xs s) in
    subst IsRising (sym (dedup_is nat_eq xs ys f)) (λ i j h k. pairs i j 0 h k)

pub needed_dedup : (xs ys : List ℕ) (l : ℕ) → IsFiltered (DiffersFromLast nat_eq) [] xs ys → is_needed ys l ≡ is_needed xs l
needed_dedup xs ys l f =
    let is = dedup_is nat_eq xs ys f in
    same_bool (is_needed ys l) (is_needed xs l)
    (λ t. let r = in_any (λ k. k == l) ys t in
    let c = Contains-from_dedup nat_eq xs r.0 (contained (dedup nat_eq xs) r.0 (subst (IsIn r.0) is r.1)) in
    any_in (λ k. k == l) r.0 xs (contains_in xs r.0 c.0 c.1 c.2) r.2)
    (λ t. let r = in_any (λ k. k == l) xs t in
    let c = Contains-dedup_nat xs r.0 (contained xs r.0 r.1) in
    any_in (λ k. k == l) r.0 ys (subst (IsIn r.0) (sym is) (contains_in (dedup nat_eq xs) r.0 c.0 c.1 c.2)) r.2)

pub rising_sorted : (ls : List ℕ) → IsRising ls → IsNonDecreasing ls
rising_sorted ls r i j d h k = bool_cases (nat_lt i j)
    (λ b. let less = r i j (lt_is i j b) k in
    let a = default_same ls i d (omega (arith, h, k)) in
    let c = default_same ls j d k in
    omega (arith, less, a, c))
    (λ b. let most = not_lt_is i j b in
    let same : i ≡ j = omega (arith, most, h) in
    let e = ap (λ m. get_or ls m d) same in
    omega (arith, e))
  where
    default_same : (xs : List ℕ) (m e : ℕ) → m < length xs → get_or xs m e ≡ get_or xs m 0
    default_same [] m e g = absurd (omega (arith, g))
    default_same (x ∷ xs) zero e g = refl
    default_same (x ∷ xs) (suc m) e g = default_same xs m e (omega (arith, g))

gap : (ls : List ℕ) (i n : ℕ) → IsRising ls → i + n < length ls → get_or ls i 0 + n ≤ get_or ls (i + n) 0
gap ls i zero r h = let z : i + 0 ≡ i = omega arith in let e = ap (λ m. get_or ls m 0) z in omega (arith, e)
gap ls i (suc n) r h =
    let less = gap ls i n r (omega (arith, h)) in
    let next = r (i + n) (i + suc n) (omega arith) h in
    omega (arith, less, next)

-- between two of these that are as far apart as their places, all are there
pub needed_between : (ls : List ℕ) (a low high l : ℕ) → IsRising ls → a + (high - low) < length ls → get_or ls a 0 ≡ low → get_or ls (a + (high - low)) 0 ≡ high → low ≤ l → l ≤ high → is_needed ls l ≡ true
needed_between ls a low high l r h first last above below =
    let n = l - low in
    let m = high - l in
    let far : a + (high - low) ≡ (a + n) + m = omega (arith, above, below) in
    let up = gap ls a n r (omega (arith, h, above, below)) in
    let down = gap ls (a + n) m r (omega (arith, h, far)) in
    let end = ap (λ k. get_or ls k 0) far in
    let here : get_or ls (a + n) 0 ≡ l = omega (arith, up, down, end, first, last, above, below) in
    any_in (λ k. k == l) l ls (in_list ls l (a + n) (omega (arith, h, above, below)) here) (eq_refl l)

pub found_at : (xs : List ℕ) (x i : ℕ) → IsBinarySearchResult (λ y. nat_cmp y x) xs (Ok i) → IsRising xs → (i < length xs) × (get_or xs i 0 ≡ x)
found_at xs x i b r = let s = rising_sorted xs r in searched xs x (Ok i) b (λ j k h l. s j k 0 h l)

-- none of these lies between two that no place is between
pub none_needed : (ls : List ℕ) (low high at l : ℕ) → IsBinarySearchResult (λ y. nat_cmp y low) ls (Err at) → IsRising ls → (at < length ls → high < get_or ls at 0) → low ≤ l → l ≤ high → is_needed ls l ≡ false
none_needed ls low high at l b r f x y =
    let s = rising_sorted ls r in
    let m = searched ls low (Err at) b (λ i j h k. s i j 0 h k) in
    not_true (is_needed ls l) (λ t.
    let v = needed_at ls l t in
    bool_cases (nat_lt v.0 at)
    (λ c. absurd (omega (arith, m.1 v.0 (lt_is v.0 at c), v.2, x)))
    (λ c. let most = not_lt_is v.0 at c in
    absurd (omega (arith, f (omega (arith, most, v.1)), s at v.0 0 most v.1, v.2, y))))

-- ---- names that go

front_gone : (t : List Tuple × ℕ → Bool) (ns : Names) (n : ℕ) → ((j : ℕ) (m : List Tuple × ℕ) → j < n → slice_get ns j ≡ Some m → t m ≡ false) → filter t (take n ns) ≡ []
front_gone t ns zero f = refl
front_gone t [] (suc n) f = refl
front_gone t (m ∷ ms) (suc n) f = ap (λ (c : Bool). cond c (m ∷ filter t (take n ms)) (filter t (take n ms))) (f 0 m (omega arith) refl) ∙ front_gone t ms n (λ j k h g. f (suc j) k (omega (arith, h)) g)

-- none of these is kept
pub none_kept : (t : List Tuple × ℕ → Bool) (ns : Names) (i n : ℕ) → ((j : ℕ) (m : List Tuple × ℕ) → j < n → slice_get ns (i + j) ≡ Some m → t m ≡ false) → filter t (take n (drop i ns)) ≡ []
none_kept t ns zero n f = front_gone t ns n (λ j m h g. let z : 0 + j ≡ j = omega arith in f j m h (ap (slice_get ns) z ∙ g))
none_kept t [] (suc i) zero f = refl
none_kept t [] (suc i) (suc n) f = refl
none_kept t (k ∷ ks) (suc i) n f = none_kept t ks i n (λ j m h g. let z : suc i + j ≡ suc (i + j) = omega arith in f j m h (ap (slice_get (k ∷ ks)) z ∙ g))

-- ---- a run that is kept

pub latest_newest : (ns : Names) (i : ℕ) (r : Stretch) → IsLatest ns i r → (n : List Tuple × ℕ) → IsIn n (names_of r) → is_newest (reverse ns) n ≡ true
latest_newest ns i r h n p =
    let w = in_names r.down r.first r.label 0 r.len n p in
    let j = w.0 in
    let z : 0 + j ≡ j = omega arith in
    let is : name_at r j ≡ n = ap (name_at r) (sym z) ∙ w.2 in
    let newest : newest_at (reverse ns) n.1 ≡ Some (i + j) = ap (λ (m : List Tuple × ℕ). newest_at (reverse ns) m.1) (sym is) ∙ h.newest j w.1 in
    let q = newest_ident (reverse ns) n.1 (i + j) newest in
    let same : n ≡ q.0 = tail_name ns (i + j) n q.0 q.1 (h.at j w.1 ∙ ap Some is) q.2 in
    ap (λ o. is_that o n.0) q.3 ∙ (ap (λ (m : List Tuple × ℕ). ident_eq m.0 n.0) (sym same) ∙ ident_eq_refl n.0)

pub run_kept : (xs : List (List Tuple)) (ls : List ℕ) (ns old new : Names) (i : ℕ) (r : Stretch) → IsLatest ns i r → ((n : List Tuple × ℕ) → IsIn n (names_of r) → is_needed ls n.1 ≡ true) → new ≡ old ++ names_of r →
    new ≡ old ++ filter (is_kept xs ls (reverse ns)) (take r.len (drop i ns))
run_kept xs ls ns old new i r h f e =
    let t = is_kept xs ls (reverse ns) in
    let all : filter t (names_of r) ≡ names_of r = filter_all t (names_of r) (λ n p. ap (λ (c : Bool). c && (is_newest (reverse ns) n || is_ok (place_of n.0 xs))) (f n p) ∙ ap (λ (c : Bool). c || is_ok (place_of n.0 xs)) (latest_newest ns i r h n p)) in
    e ∙ ap (λ (zs : Names). old ++ zs) (sym (ap (filter t) h.names ∙ all))

pub run_within : (ns : Names) (i : ℕ) (r : Stretch) → IsLatest ns i r → 0 < r.len → i + r.len ≤ length ns
run_within ns i r h some =
    let size = ap length h.names in
    let long = names_long r.down r.first r.label 0 r.len in
    let most = length-take r.len (drop i ns) in
    let rest = length-drop i ns in
    omega (arith, size, long, most, rest, some)

pub take_one : {A : Type 0} (xs : List A) (i : ℕ) (x : A) → slice_get xs i ≡ Some x → take 1 (drop i xs) ≡ x ∷ []
take_one [] i x g = absurd (cc)
take_one (y ∷ ys) zero x g = let e : y ≡ x = cc in ap (λ z. z ∷ []) e
take_one (y ∷ ys) (suc i) x g = take_one ys i x g

pub one_kept : (t : List Tuple × ℕ → Bool) (ns old new : Names) (i : ℕ) (x : List Tuple × ℕ) → slice_get ns i ≡ Some x → new ≡ old ++ filter t (x ∷ []) → new ≡ old ++ filter t (take 1 (drop i ns))
one_kept t ns old new i x g e = e ∙ ap (λ (zs : Names). old ++ filter t zs) (sym (take_one ns i x g))

pub kept_more : (t : List Tuple × ℕ → Bool) (ns old new : Names) (i n : ℕ) → old ≡ filter t (take i ns) → new ≡ old ++ filter t (take n (drop i ns)) → new ≡ filter t (take (i + n) ns)
kept_more t ns old new i n e f = f ∙ (ap (λ (zs : Names). zs ++ filter t (take n (drop i ns))) e ∙ (sym (filter-append t (take i ns) (take n (drop i ns))) ∙ ap (filter t) (sym (take-add i n ns))))
