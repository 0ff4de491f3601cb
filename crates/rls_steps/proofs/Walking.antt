-- The names of a label, one after another, the newest first.
use Rattle.std.proofs.Common.{◌≡◌, ℕ, suc, ◌<◌, Bool, List, [], ◌∷◌, ◌++◌, true, length, inl, inr, ◌⊎◌, ⊎_elim, refl, sym, ap, ◌∙◌, subst, append_assoc, arith}
use Rattle.std.specs.Prelude.{reverse, ◌==◌, Option, Some, None, Result, Ok, Err, if◌then◌else◌}
use Rattle.std.proofs.lemmas.List.{length-reverse}
use Rattle.rls_ident.specs.declared.tuple.Tuple.{Tuple}
use Rattle.rls_ident.specs.Lists.{IsIn}
use Rattle.rls_ident.proofs.Members.{bool_cases, eq_is, eq_test, eq_refl, neq_test, some_is}
use Rattle.rls_runs.specs.Runs.{place_of, is_increasing}
use Rattle.rls_runs.proofs.RunOrder.{rising_of}
use Rattle.rls_steps.specs.Labelled.{Names}
use Rattle.rls_steps.specs.Courses.{ident_of}
use Rattle.rls_steps.specs.Index.{AreApart, newest_at, tail_at, place_list, named_places, rest_places, IsCursor, cursor_rank, names_from, AreElsewhere, IsAfter}
use Rattle.rls_steps.proofs.Stretches.{none_in}
use Rattle.rls_steps.proofs.Tabling.{place_is}
use Rattle.rls_steps.proofs.Indexing.{tail_short, tail_within}

-- the newest name of a label
pub newest_is : (ns : Names) (l i : ℕ) → newest_at ns l ≡ Some i → IsCursor ns l (Some i)
newest_is [] l i e = absurd (cc)
newest_is (n ∷ ns) l i e = bool_cases (n.1 == l)
    (λ b. let q = some_is (length ns) i (sym (ap (λ (c : Bool). if c then Some (length ns) else newest_at ns l) b) ∙ e) in
    (n, ns, ap (λ (c : Bool). if c then n ∷ ns else tail_at ns i) (eq_test (length ns) i q), eq_is n.1 l b))
    (λ b. let r = newest_is ns l i (sym (ap (λ (c : Bool). if c then Some (length ns) else newest_at ns l) b) ∙ e) in
    let s = (tail_short ns i r.0 r.1 r.2).0 in
    (r.0, r.1, ap (λ (c : Bool). if c then n ∷ ns else tail_at ns i) (neq_test (length ns) i (λ q. absurd (omega (arith, q, s)))) ∙ r.2, r.3))

pub newest_short : (ns : Names) (l i : ℕ) → newest_at ns l ≡ Some i → i < length ns
newest_short ns l i e = let c = newest_is ns l i e in (tail_short ns i c.0 c.1 c.2).0

-- none that is newer is of the label
later_same : (xs : List (List Tuple)) (n : List Tuple × ℕ) (ns : Names) (l : ℕ) (o : Option ℕ) → newest_at ns l ≡ o → rest_places xs l (n ∷ ns) o ≡ rest_places xs l ns o
later_same xs n ns l None e = refl
later_same xs n ns l (Some i) e =
    let s = newest_short ns l i e in
    ap (λ (c : Bool). named_places xs l (if c then n ∷ ns else tail_at ns i)) (neq_test (length ns) i (λ q. absurd (omega (arith, q, s))))

pub newest_rest : (xs : List (List Tuple)) (ns : Names) (l : ℕ) → rest_places xs l ns (newest_at ns l) ≡ named_places xs l ns
newest_rest xs [] l = refl
newest_rest xs (n ∷ ns) l = bool_cases (n.1 == l)
    (λ b. ap (λ (c : Bool). rest_places xs l (n ∷ ns) (if c then Some (length ns) else newest_at ns l)) b
    ∙ ap (λ (c : Bool). named_places xs l (if c then n ∷ ns else tail_at ns (length ns))) (eq_refl (length ns)))
    (λ b. ap (λ (c : Bool). rest_places xs l (n ∷ ns) (if c then Some (length ns) else newest_at ns l)) b
    ∙ (later_same xs n ns l (newest_at ns l) refl
    ∙ (newest_rest xs ns l ∙ sym (ap (λ (c : Bool). if c then place_list (place_of n.0 xs) ++ named_places xs l ns else named_places xs l ns) b))))

-- those that are left after the name at a place
tail_rest : (xs : List (List Tuple)) (l k : ℕ) (ns : Names) (i : ℕ) (n : List Tuple × ℕ) (ms : Names) → tail_at ns i ≡ n ∷ ms → (o : Option ℕ) → newest_at ms k ≡ o → rest_places xs l ns o ≡ rest_places xs l ms o
tail_rest xs l k ns i n ms t None e = refl
tail_rest xs l k ns i n ms t (Some j) e =
    let s = newest_short ms k j e in
    let u = (tail_short ns i n ms t).1 in
    ap (named_places xs l) (tail_within ns i n ms t j (omega (arith, s, u)))

older_rest : (xs : List (List Tuple)) (l : ℕ) (ns : Names) (i : ℕ) (n : List Tuple × ℕ) (ms : Names) → tail_at ns i ≡ n ∷ ms → n.1 ≡ l → rest_places xs l ns (newest_at ms n.1) ≡ named_places xs l ms
older_rest xs l ns i n ms t q = tail_rest xs l n.1 ns i n ms t (newest_at ms n.1) refl ∙ (ap (λ k. rest_places xs l ms (newest_at ms k)) q ∙ newest_rest xs ms l)

walk_next : (xs : List (List Tuple)) (l : ℕ) (ns : Names) (i : ℕ) (n : List Tuple × ℕ) (ms : Names) (base old new : List ℕ) → tail_at ns i ≡ n ∷ ms → n.1 ≡ l → old ++ rest_places xs l ns (Some i) ≡ base ++ named_places xs l ns →
    new ≡ old ++ place_list (place_of n.0 xs) → new ++ rest_places xs l ns (newest_at ms n.1) ≡ base ++ named_places xs l ns
walk_next xs l ns i n ms base old new t q v w =
    let here = place_list (place_of n.0 xs) in
    let all : rest_places xs l ns (Some i) ≡ here ++ named_places xs l ms =
    ap (named_places xs l) t ∙ ap (λ (c : Bool). if c then here ++ named_places xs l ms else named_places xs l ms) (eq_test n.1 l q) in
    ap (λ ps. ps ++ rest_places xs l ns (newest_at ms n.1)) w
    ∙ (ap (λ ps. (old ++ here) ++ ps) (older_rest xs l ns i n ms t q) ∙ (append_assoc old here (named_places xs l ms) ∙ (ap (λ ps. old ++ ps) (sym all) ∙ v)))

cursor_next : (ns : Names) (l i : ℕ) (n : List Tuple × ℕ) (ms : Names) → tail_at ns i ≡ n ∷ ms → n.1 ≡ l → IsCursor ns l (newest_at ms n.1)
cursor_next ns l i n ms t q = go (newest_at ms n.1) refl
  where
    go : (o : Option ℕ) → newest_at ms n.1 ≡ o → IsCursor ns l o
    go None e = tt
    go (Some j) e =
        let c = newest_is ms n.1 j e in
        let s = newest_short ms n.1 j e in
        let u = (tail_short ns i n ms t).1 in
        (c.0, c.1, tail_within ns i n ms t j (omega (arith, s, u)) ∙ c.2, c.3 ∙ q)

cursor_less : (ns : Names) (i : ℕ) (n : List Tuple × ℕ) (ms : Names) → tail_at ns i ≡ n ∷ ms → cursor_rank (newest_at ms n.1) < cursor_rank (Some i)
cursor_less ns i n ms t = go (newest_at ms n.1) refl
  where
    go : (o : Option ℕ) → newest_at ms n.1 ≡ o → cursor_rank o < suc i
    go None e = omega arith
    go (Some j) e =
        let s = newest_short ms n.1 j e in
        let u = (tail_short ns i n ms t).1 in
        omega (arith, s, u)

pub cursor_first : (ns : Names) (l : ℕ) → IsCursor ns l (newest_at ns l)
cursor_first ns l = go (newest_at ns l) refl
  where
    go : (o : Option ℕ) → newest_at ns l ≡ o → IsCursor ns l o
    go None e = tt
    go (Some i) e = newest_is ns l i e

-- ---- names that are passed over

tail_in : (ns : Names) (i : ℕ) (n : List Tuple × ℕ) → IsIn n (tail_at ns i) → IsIn n ns
tail_in [] i n p = absurd p
tail_in (m ∷ ns) i n p = bool_cases (length ns == i)
    (λ b. subst (IsIn n) (ap (λ (c : Bool). if c then m ∷ ns else tail_at ns i) b) p)
    (λ b. inr (tail_in ns i n (subst (IsIn n) (ap (λ (c : Bool). if c then m ∷ ns else tail_at ns i) b) p)))

apart_tail : (ns : Names) (i : ℕ) → AreApart ns → AreApart (tail_at ns i)
apart_tail [] i a = tt
apart_tail (m ∷ ns) i a = bool_cases (length ns == i)
    (λ b. subst AreApart (sym (ap (λ (c : Bool). if c then m ∷ ns else tail_at ns i) b)) a)
    (λ b. subst AreApart (sym (ap (λ (c : Bool). if c then m ∷ ns else tail_at ns i) b)) (apart_tail ns i a.1))

-- those that are left are older
left_older : (xs : List (List Tuple)) (ns : Names) (i : ℕ) (n : List Tuple × ℕ) (ms : Names) (found : Option ℕ) → tail_at ns i ≡ n ∷ ms → (next : Option ℕ) → IsAfter xs n ms found next → (m : List Tuple × ℕ) → IsIn m (names_from ns next) → IsIn m ms
left_older xs ns i n ms found t None a m p = absurd p
left_older xs ns i n ms found t (Some j) a m p = ⊎_elim
    (λ e. let s = newest_short ms n.1 j (sym e) in
    let u = (tail_short ns i n ms t).1 in
    tail_in ms j m (subst (IsIn m) (tail_within ns i n ms t j (omega (arith, s, u))) p))
    (λ w. absurd (let e = w.0 in cc))
    a

elsewhere_fewer : (xs : List (List Tuple)) (ns ms : Names) (found : Option ℕ) → AreElsewhere xs ns found → ((m : List Tuple × ℕ) → IsIn m ms → IsIn m ns) → AreElsewhere xs ms found
elsewhere_fewer xs ns ms None h f = tt
elsewhere_fewer xs ns ms (Some k) h f = λ m p q. h m (f m p) q

-- an identifier is there once, so no older one stands where a name was found
pub elsewhere_older : (xs : List (List Tuple)) (ns : Names) (i : ℕ) (n : List Tuple × ℕ) (ms : Names) (found new : Option ℕ) → is_increasing xs ≡ true → AreApart ns → tail_at ns i ≡ n ∷ ms → AreElsewhere xs (n ∷ ms) found →
    (new ≡ found) ⊎ ((k : ℕ) × (new ≡ Some k) × (place_of n.0 xs ≡ Ok k)) → AreElsewhere xs ms new
elsewhere_older xs ns i n ms found new r a t h w = ⊎_elim
    (λ e. subst (AreElsewhere xs ms) (sym e) (elsewhere_fewer xs (n ∷ ms) ms found h (λ m p. inr p)))
    (λ v. let none = (subst AreApart t (apart_tail ns i a)).0 in
    subst (AreElsewhere xs ms) (sym v.1) (λ m p q.
    let same : m.0 ≡ n.0 = some_is m.0 n.0 (sym (place_is xs m.0 v.0 (rising_of xs r) q) ∙ place_is xs n.0 v.0 (rising_of xs r) v.2) in
    none_in ms n.0 m.1 none (subst (λ x. IsIn (x, m.1) ms) same p)))
    w

pub elsewhere_next : (xs : List (List Tuple)) (ns : Names) (i : ℕ) (n : List Tuple × ℕ) (ms : Names) (found next : Option ℕ) → tail_at ns i ≡ n ∷ ms → AreElsewhere xs ms found → IsAfter xs n ms found next → AreElsewhere xs (names_from ns next) found
elsewhere_next xs ns i n ms found next t h a = elsewhere_fewer xs ms (names_from ns next) found h (left_older xs ns i n ms found t next a)

pub unlisted : (r : Result ℕ ℕ) → ((k : ℕ) → r ≡ Ok k → ⊥) → place_list r ≡ []
unlisted (Ok at) f = absurd (f at refl)
unlisted (Err at) f = refl

pub none_named : (xs : List (List Tuple)) (l : ℕ) (ms : Names) → ((m : List Tuple × ℕ) (k : ℕ) → IsIn m ms → m.1 ≡ l → place_of m.0 xs ≡ Ok k → ⊥) → named_places xs l ms ≡ []
none_named xs l [] f = refl
none_named xs l (m ∷ ms) f =
    let here = place_list (place_of m.0 xs) in
    let later = named_places xs l ms in
    let ih = none_named xs l ms (λ n k p. f n k (inr p)) in
    bool_cases (m.1 == l)
    (λ b. ap (λ (c : Bool). if c then here ++ later else later) b ∙ (ap (λ ps. ps ++ later) (unlisted (place_of m.0 xs) (λ k e. f m k (inl refl) (eq_is m.1 l b) e)) ∙ ih))
    (λ b. ap (λ (c : Bool). if c then here ++ later else later) b ∙ ih)

-- nothing is left if each of those that are left could only stand where none does
none_left : (xs : List (List Tuple)) (l : ℕ) (ms : Names) (found : Option ℕ) → AreElsewhere xs ms found → ((m : List Tuple × ℕ) (k : ℕ) → IsIn m ms → m.1 ≡ l → place_of m.0 xs ≡ Ok k → found ≡ Some k) → named_places xs l ms ≡ []
none_left xs l ms found h f = none_named xs l ms (λ m k p q e. subst (AreElsewhere xs ms) (f m k p q e) h m p e)

pub walk_on : (xs : List (List Tuple)) (l : ℕ) (ns : Names) (i : ℕ) (n : List Tuple × ℕ) (ms : Names) (base old new : List ℕ) (found next : Option ℕ) → tail_at ns i ≡ n ∷ ms → n.1 ≡ l → old ++ rest_places xs l ns (Some i) ≡ base ++ named_places xs l ns →
    new ≡ old ++ place_list (place_of n.0 xs) → AreElsewhere xs ms found → IsAfter xs n ms found next → new ++ rest_places xs l ns next ≡ base ++ named_places xs l ns
walk_on xs l ns i n ms base old new found next t q v w h a =
    let all = walk_next xs l ns i n ms base old new t q v w in
    ⊎_elim
    (λ e. ap (λ o. new ++ rest_places xs l ns o) e ∙ all)
    (λ u. let rest : rest_places xs l ns (newest_at ms n.1) ≡ named_places xs l ms = older_rest xs l ns i n ms t q in
    let none = none_left xs l ms found h (λ m k p same e. u.1 m k p (same ∙ sym q) e) in
    ap (λ o. new ++ rest_places xs l ns o) u.0 ∙ (ap (λ ps. new ++ ps) (sym (rest ∙ none)) ∙ all))
    a

pub cursor_on : (xs : List (List Tuple)) (ns : Names) (l i : ℕ) (n : List Tuple × ℕ) (ms : Names) (found next : Option ℕ) → tail_at ns i ≡ n ∷ ms → n.1 ≡ l → IsAfter xs n ms found next → IsCursor ns l next
cursor_on xs ns l i n ms found next t q a = ⊎_elim (λ e. subst (IsCursor ns l) (sym e) (cursor_next ns l i n ms t q)) (λ u. subst (IsCursor ns l) (sym u.0) tt) a

pub rank_on : (xs : List (List Tuple)) (ns : Names) (i : ℕ) (n : List Tuple × ℕ) (ms : Names) (found next : Option ℕ) → tail_at ns i ≡ n ∷ ms → IsAfter xs n ms found next → cursor_rank next < cursor_rank (Some i)
rank_on xs ns i n ms found next t a = ⊎_elim
    (λ e. subst (λ (o : Option ℕ). cursor_rank o < cursor_rank (Some i)) (sym e) (cursor_less ns i n ms t))
    (λ u. subst (λ (o : Option ℕ). cursor_rank o < cursor_rank (Some i)) (sym u.0) (omega arith))
    a

-- ---- the newest identifier of a label

pub newest_ident : (ns : Names) (l i : ℕ) → newest_at ns l ≡ Some i → (n : List Tuple × ℕ) × (ms : Names) × (tail_at ns i ≡ n ∷ ms) × (ident_of ns l ≡ Some n.0)
newest_ident [] l i e = absurd (cc)
newest_ident (n ∷ ns) l i e = bool_cases (n.1 == l)
    (λ b. let q = some_is (length ns) i (sym (ap (λ (c : Bool). if c then Some (length ns) else newest_at ns l) b) ∙ e) in
    (n, ns, ap (λ (c : Bool). if c then n ∷ ns else tail_at ns i) (eq_test (length ns) i q), ap (λ (c : Bool). if c then Some n.0 else ident_of ns l) b))
    (λ b. let r = newest_ident ns l i (sym (ap (λ (c : Bool). if c then Some (length ns) else newest_at ns l) b) ∙ e) in
    let s = (tail_short ns i r.0 r.1 r.2).0 in
    (r.0, r.1, ap (λ (c : Bool). if c then n ∷ ns else tail_at ns i) (neq_test (length ns) i (λ q. absurd (omega (arith, q, s)))) ∙ r.2, ap (λ (c : Bool). if c then Some n.0 else ident_of ns l) b ∙ r.3))

pub none_ident : (ns : Names) (l : ℕ) → newest_at ns l ≡ None → ident_of ns l ≡ None
none_ident [] l e = refl
none_ident (n ∷ ns) l e = bool_cases (n.1 == l)
    (λ b. absurd (let q = sym (ap (λ (c : Bool). if c then Some (length ns) else newest_at ns l) b) ∙ e in cc))
    (λ b. ap (λ (c : Bool). if c then Some n.0 else ident_of ns l) b ∙ none_ident ns l (sym (ap (λ (c : Bool). if c then Some (length ns) else newest_at ns l) b) ∙ e))

-- ---- in a list with the oldest first

pub cursor_short : (names : Names) (l : ℕ) (o : Option ℕ) (at : ℕ) → IsCursor (reverse names) l o → o ≡ Some at → at < length names
cursor_short names l o at c e =
    let k = subst (IsCursor (reverse names) l) e c in
    let s = (tail_short (reverse names) at k.0 k.1 k.2).0 in
    let size = length-reverse names in
    omega (arith, s, size)
