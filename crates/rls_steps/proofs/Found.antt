-- Places of labels, which are found through their names.
use Rattle.std.proofs.Common.{◌≡◌, ℕ, zero, suc, ◌+◌, ◌<◌, Bool, true, List, [], ◌∷◌, ◌++◌, map, length, get_or, inl, inr, refl, sym, ap, ◌∙◌, ◌⊎◌, subst, arith}
use Rattle.std.specs.Prelude.{slice_get, ◌==◌, ◌^◌, Option, Some, None, IfSome, Result, Ok, Err, nat_eq, if◌then◌else◌}
use Rattle.std.specs.List.{Contains, dedup}
use Rattle.std.specs.List.Retain.{IsFiltered, DiffersFromLast}
use Rattle.std.specs.List.Sorted.{IsPermutation, IsSorted}
use Rattle.std.specs.Ordering.{nat_cmp}
use Rattle.std.proofs.lemmas.List.{length-map}
use Rattle.std.proofs.lemmas.List.Filters.{dedup_is}
use Rattle.std.proofs.lemmas.List.Kept.{AllPairs-from_increasing, Contains-dedup_nat, Contains-from_dedup}
use Rattle.std.proofs.lemmas.List.Sorted.{IsPermutation-sym, Contains-permutation}
use Rattle.std.proofs.lemmas.Map.Keys.{IsStrictlyIncreasing-dedup}
use Rattle.rls_ident.specs.declared.tuple.Tuple.{Tuple}
use Rattle.rls_ident.specs.Identifiers.{ident_eq}
use Rattle.rls_ident.specs.Lists.{IsIn}
use Rattle.rls_ident.proofs.Ends.{eq_same, same_eq, ident_eq_refl}
use Rattle.rls_ident.proofs.Members.{bool_cases, true_false, eq_is, eq_test, some_is, in_left, in_right, in_split, in_any, any_in, get_in}
use Rattle.rls_runs.specs.Entries.{Entries, has_ident, idents_in}
use Rattle.rls_runs.specs.Runs.{place_of, is_increasing}
use Rattle.rls_runs.proofs.RunOrder.{rising_of}
use Rattle.rls_runs.proofs.Sorted.{Entry}
use Rattle.rls_tree.proofs.Located.{mapped_at}
use Rattle.rls_seen.specs.Sane.{IsSane}
use Rattle.rls_seen.specs.Seen.{Seen}
use Rattle.rls_seen.proofs.Needed.{total_room}
use Rattle.rls_undo.proofs.Finding.{missed_at}
use Rattle.rls_steps.specs.Marks.{Mark, marks, is_one_of, label_places, first_of, label_place}
use Rattle.rls_steps.specs.Labelled.{Names, label_of, mark_by, mark, marked_by}
use Rattle.rls_steps.specs.Index.{AreApart, place_list, named_places, all_places}
use Rattle.rls_steps.proofs.Ranges.{in_one}
use Rattle.rls_steps.proofs.Tabled.{marks_are}
use Rattle.rls_steps.proofs.Tabling.{once, place_is}

-- ---- names of a label

listed : (r : Result ℕ ℕ) (k : ℕ) → IsIn k (place_list r) → r ≡ Ok k
listed (Ok at) k (inl e) = ap Ok e
listed (Ok at) k (inr p) = absurd p
listed (Err at) k p = absurd p

in_named : (xs : List (List Tuple)) (l : ℕ) (ns : Names) (k : ℕ) → IsIn k (named_places xs l ns) → (x : List Tuple) × IsIn (x, l) ns × (place_of x xs ≡ Ok k)
in_named xs l [] k p = absurd p
in_named xs l (n ∷ ns) k p =
    let here = place_list (place_of n.0 xs) in
    let later = named_places xs l ns in
    bool_cases (n.1 == l)
    (λ b. go (λ q. in_named xs l ns k q) (ap (λ i. (n.0, i)) (eq_is n.1 l b)) (in_split k here later (subst (IsIn k) (ap (λ (c : Bool). if c then here ++ later else later) b) p)))
    (λ b. let r = in_named xs l ns k (subst (IsIn k) (ap (λ (c : Bool). if c then here ++ later else later) b) p) in (r.0, inr r.1, r.2))
  where
    go : (IsIn k (named_places xs l ns) → (x : List Tuple) × IsIn (x, l) ns × (place_of x xs ≡ Ok k)) → n ≡ (n.0, l) → IsIn k (place_list (place_of n.0 xs)) ⊎ IsIn k (named_places xs l ns) →
        (x : List Tuple) × IsIn (x, l) (n ∷ ns) × (place_of x xs ≡ Ok k)
    go ih e (inl q) = (n.0, inl e, listed (place_of n.0 xs) k q)
    go ih e (inr q) = let r = ih q in (r.0, inr r.1, r.2)

named_in : (xs : List (List Tuple)) (l : ℕ) (ns : Names) (x : List Tuple) (k : ℕ) → IsIn (x, l) ns → place_of x xs ≡ Ok k → IsIn k (named_places xs l ns)
named_in xs l [] x k p h = absurd p
named_in xs l (n ∷ ns) x k (inl e) h =
    let here = place_list (place_of n.0 xs) in
    let later = named_places xs l ns in
    let there : IsIn k here = subst (λ r. IsIn k (place_list r)) (sym (ap (λ (m : List Tuple × ℕ). place_of m.0 xs) e ∙ h)) (inl refl) in
    subst (IsIn k) (sym (ap (λ (c : Bool). if c then here ++ later else later) (eq_test n.1 l (ap (λ (m : List Tuple × ℕ). m.1) e)))) (in_left k here later there)
named_in xs l (n ∷ ns) x k (inr p) h =
    let here = place_list (place_of n.0 xs) in
    let later = named_places xs l ns in
    let ih = named_in xs l ns x k p h in
    bool_cases (n.1 == l)
    (λ b. subst (IsIn k) (sym (ap (λ (c : Bool). if c then here ++ later else later) b)) (in_right k here later ih))
    (λ b. subst (IsIn k) (sym (ap (λ (c : Bool). if c then here ++ later else later) b)) ih)

in_all_places : (xs : List (List Tuple)) (ls : List ℕ) (ns : Names) (k : ℕ) → IsIn k (all_places xs ls ns) → (l : ℕ) × IsIn l ls × IsIn k (named_places xs l ns)
in_all_places xs [] ns k p = absurd p
in_all_places xs (l ∷ ls) ns k p = go (λ q. in_all_places xs ls ns k q) (in_split k (named_places xs l ns) (all_places xs ls ns) p)
  where
    go : (IsIn k (all_places xs ls ns) → (i : ℕ) × IsIn i ls × IsIn k (named_places xs i ns)) → IsIn k (named_places xs l ns) ⊎ IsIn k (all_places xs ls ns) → (i : ℕ) × IsIn i (l ∷ ls) × IsIn k (named_places xs i ns)
    go ih (inl q) = (l, inl refl, q)
    go ih (inr q) = let r = ih q in (r.0, inr r.1, r.2)

all_places_in : (xs : List (List Tuple)) (ls : List ℕ) (ns : Names) (l k : ℕ) → IsIn l ls → IsIn k (named_places xs l ns) → IsIn k (all_places xs ls ns)
all_places_in xs [] ns l k p q = absurd p
all_places_in xs (i ∷ ls) ns l k (inl e) q = in_left k (named_places xs i ns) (all_places xs ls ns) (subst (λ j. IsIn k (named_places xs j ns)) (sym e) q)
all_places_in xs (i ∷ ls) ns l k (inr p) q = in_right k (named_places xs i ns) (all_places xs ls ns) (all_places_in xs ls ns l k p q)

-- ---- the label of an identifier

pub label_name : (ns : Names) (x : List Tuple) (l : ℕ) → label_of ns x ≡ Some l → IsIn (x, l) ns
label_name [] x l e = absurd (cc)
label_name (n ∷ ns) x l e = bool_cases (ident_eq n.0 x)
    (λ t. let q = some_is n.1 l (sym (ap (λ (c : Bool). if c then Some n.1 else label_of ns x) t) ∙ e) in inl (ap (λ y. (y, n.1)) (eq_same n.0 x t) ∙ ap (λ i. (x, i)) q))
    (λ t. inr (label_name ns x l (sym (ap (λ (c : Bool). if c then Some n.1 else label_of ns x) t) ∙ e)))

pub name_label : (ns : Names) (x : List Tuple) (l : ℕ) → AreApart ns → IsIn (x, l) ns → label_of ns x ≡ Some l
name_label [] x l a p = absurd p
name_label (n ∷ ns) x l a (inl e) =
    ap (λ (c : Bool). if c then Some n.1 else label_of ns x) (same_eq n.0 x (ap (λ (m : List Tuple × ℕ). m.0) e)) ∙ ap (λ (m : List Tuple × ℕ). Some m.1) e
name_label (n ∷ ns) x l a (inr p) =
    let ih = name_label ns x l a.1 p in
    bool_cases (ident_eq n.0 x)
    (λ t. absurd (let none = subst (λ y. label_of ns y ≡ None) (eq_same n.0 x t) a.0 in cc))
    (λ t. ap (λ (c : Bool). if c then Some n.1 else label_of ns x) t ∙ ih)

-- ---- places of labels

in_places : (i : ℕ) (labels : List ℕ) (ms : List Mark) (k : ℕ) → IsIn k (label_places i labels ms) → (j : ℕ) × (m : Mark) × (k ≡ i + j) × (slice_get ms j ≡ Some m) × (is_one_of labels m ≡ true)
in_places i labels [] k p = absurd p
in_places i labels (m ∷ ms) k p =
    let later = label_places (suc i) labels ms in
    bool_cases (is_one_of labels m)
    (λ t. go (λ q. in_places (suc i) labels ms k q) t (subst (IsIn k) (ap (λ (c : Bool). if c then i ∷ later else later) t) p))
    (λ t. more (in_places (suc i) labels ms k (subst (IsIn k) (ap (λ (c : Bool). if c then i ∷ later else later) t) p)))
  where
    more : (j : ℕ) × (n : Mark) × (k ≡ suc i + j) × (slice_get ms j ≡ Some n) × (is_one_of labels n ≡ true) → (j : ℕ) × (n : Mark) × (k ≡ i + j) × (slice_get (m ∷ ms) j ≡ Some n) × (is_one_of labels n ≡ true)
    more (j, n, e, g, o) = (suc j, n, omega (arith, e), g, o)

    go : (IsIn k (label_places (suc i) labels ms) → (j : ℕ) × (n : Mark) × (k ≡ suc i + j) × (slice_get ms j ≡ Some n) × (is_one_of labels n ≡ true)) → is_one_of labels m ≡ true → IsIn k (i ∷ label_places (suc i) labels ms) →
        (j : ℕ) × (n : Mark) × (k ≡ i + j) × (slice_get (m ∷ ms) j ≡ Some n) × (is_one_of labels n ≡ true)
    go ih t (inl e) = (0, m, omega (arith, e), refl, t)
    go ih t (inr q) = more (ih q)

places_in : (i : ℕ) (labels : List ℕ) (ms : List Mark) (j : ℕ) (m : Mark) → slice_get ms j ≡ Some m → is_one_of labels m ≡ true → IsIn (i + j) (label_places i labels ms)
places_in i labels [] j m g o = absurd (cc)
places_in i labels (n ∷ ms) zero m g o =
    let e : n ≡ m = cc in
    let later = label_places (suc i) labels ms in
    let t : is_one_of labels n ≡ true = ap (is_one_of labels) e ∙ o in
    let none : i ≡ i + 0 = omega arith in
    subst (IsIn (i + 0)) (sym (ap (λ (c : Bool). if c then i ∷ later else later) t)) (inl none)
places_in i labels (n ∷ ms) (suc j) m g o =
    let later = label_places (suc i) labels ms in
    let one : suc i + j ≡ i + suc j = omega arith in
    let ih = subst (λ k. IsIn k later) one (places_in (suc i) labels ms j m g o) in
    bool_cases (is_one_of labels n)
    (λ t. subst (IsIn (i + suc j)) (sym (ap (λ (c : Bool). if c then i ∷ later else later) t)) (inr ih))
    (λ t. subst (IsIn (i + suc j)) (sym (ap (λ (c : Bool). if c then i ∷ later else later) t)) ih)

-- ---- numbers that rise

abbrev AllAbove : ℕ → List ℕ → Type 0
AllAbove b [] = Unit {0}
AllAbove b (n ∷ ns) = (b < n) × AllAbove b ns

abbrev RiseStrictly : List ℕ → Type 0
RiseStrictly [] = Unit {0}
RiseStrictly (n ∷ ns) = AllAbove n ns × RiseStrictly ns

places_above : (i b : ℕ) (labels : List ℕ) (ms : List Mark) → b < i → AllAbove b (label_places i labels ms)
places_above i b labels [] h = tt
places_above i b labels (m ∷ ms) h =
    let later = label_places (suc i) labels ms in
    let ih = places_above (suc i) b labels ms (omega (arith, h)) in
    bool_cases (is_one_of labels m)
    (λ t. subst (AllAbove b) (sym (ap (λ (c : Bool). if c then i ∷ later else later) t)) (h, ih))
    (λ t. subst (AllAbove b) (sym (ap (λ (c : Bool). if c then i ∷ later else later) t)) ih)

places_rise : (i : ℕ) (labels : List ℕ) (ms : List Mark) → RiseStrictly (label_places i labels ms)
places_rise i labels [] = tt
places_rise i labels (m ∷ ms) =
    let later = label_places (suc i) labels ms in
    let ih = places_rise (suc i) labels ms in
    bool_cases (is_one_of labels m)
    (λ t. subst RiseStrictly (sym (ap (λ (c : Bool). if c then i ∷ later else later) t)) (places_above (suc i) i labels ms (omega arith), ih))
    (λ t. subst RiseStrictly (sym (ap (λ (c : Bool). if c then i ∷ later else later) t)) ih)

above_all : (b : ℕ) (ns : List ℕ) → ((j : ℕ) → j < length ns → b < get_or ns j 0) → AllAbove b ns
above_all b [] h = tt
above_all b (n ∷ ns) h = (h 0 (omega arith), above_all b ns (λ j l. h (suc j) (omega (arith, l))))

pairs_rise : (ns : List ℕ) → ((i j : ℕ) → i < j → j < length ns → get_or ns i 0 < get_or ns j 0) → RiseStrictly ns
pairs_rise [] h = tt
pairs_rise (n ∷ ns) h = (above_all n ns (λ j l. h 0 (suc j) (omega arith) (omega (arith, l))), pairs_rise ns (λ i j k l. h (suc i) (suc j) (omega (arith, k)) (omega (arith, l))))

is_above : (b : ℕ) (ns : List ℕ) (k : ℕ) → AllAbove b ns → IsIn k ns → b < k
is_above b [] k a p = absurd p
is_above b (n ∷ ns) k a (inl e) = subst (λ j. b < j) e a.0
is_above b (n ∷ ns) k a (inr p) = is_above b ns k a.1 p

first_same : (x y : ℕ) (xs ys : List ℕ) → AllAbove x xs → AllAbove y ys → IsIn x (y ∷ ys) → IsIn y (x ∷ xs) → x ≡ y
first_same x y xs ys a b (inl e) q = sym e
first_same x y xs ys a b (inr p) (inl e) = e
first_same x y xs ys a b (inr p) (inr q) = let h = is_above y ys x b p in let k = is_above x xs y a q in absurd (omega (arith, h, k))

rest_in : (x y : ℕ) (xs ys : List ℕ) (k : ℕ) → x ≡ y → AllAbove x xs → IsIn k xs → IsIn k (y ∷ ys) → IsIn k ys
rest_in x y xs ys k q a p (inl e) = let h = is_above x xs k a p in absurd (omega (arith, h, q, e))
rest_in x y xs ys k q a p (inr r) = r

pub same_rising : (xs ys : List ℕ) → RiseStrictly xs → RiseStrictly ys → ((k : ℕ) → IsIn k xs → IsIn k ys) → ((k : ℕ) → IsIn k ys → IsIn k xs) → xs ≡ ys
same_rising [] [] r s f g = refl
same_rising [] (y ∷ ys) r s f g = absurd (g y (inl refl))
same_rising (x ∷ xs) [] r s f g = absurd (f x (inl refl))
same_rising (x ∷ xs) (y ∷ ys) r s f g =
    let q = first_same x y xs ys r.0 s.0 (f x (inl refl)) (g y (inl refl)) in
    let rest = same_rising xs ys r.1 s.1 (λ k p. rest_in x y xs ys k q r.0 p (f k (inr p))) (λ k p. rest_in y x ys xs k (sym q) s.0 p (g k (inr p))) in
    ap (λ k. k ∷ xs) q ∙ ap (λ ks. y ∷ ks) rest

-- ---- elements

pub contained : (xs : List ℕ) (k : ℕ) → IsIn k xs → Contains xs k
contained [] k p = absurd p
contained (x ∷ xs) k (inl e) = (0, omega arith, e)
contained (x ∷ xs) k (inr p) = let r = contained xs k p in let l = r.1 in (suc r.0, omega (arith, l), r.2)

pub contains_in : (xs : List ℕ) (k i : ℕ) → i < length xs → get_or xs i k ≡ k → IsIn k xs
contains_in [] k i l e = absurd (omega (arith, l))
contains_in (x ∷ xs) k zero l e = inl e
contains_in (x ∷ xs) k (suc i) l e = inr (contains_in xs k i (omega (arith, l)) e)

map_get : {A B : Type 0} (f : A → B) (xs : List A) (j : ℕ) (m : B) → slice_get (map f xs) j ≡ Some m → (x : A) × (slice_get xs j ≡ Some x) × (f x ≡ m)
map_get f [] j m g = absurd (cc)
map_get f (y ∷ ys) zero m g = let e : f y ≡ m = cc in (y, refl, e)
map_get f (y ∷ ys) (suc j) m g = map_get f ys j m g

-- ---- places in the text

pub place_at : (xs : List (List Tuple)) (x : List Tuple) (k : ℕ) → is_increasing xs ≡ true → slice_get xs k ≡ Some x → place_of x xs ≡ Ok k
place_at xs x k i g = go (place_of x xs) refl
  where
    go : (r : Result ℕ ℕ) → place_of x xs ≡ r → place_of x xs ≡ Ok k
    go (Ok at) e = e ∙ ap Ok (once xs x at k (rising_of xs i) (place_is xs x at (rising_of xs i) e) g)
    go (Err p) e =
        let yes : has_ident xs x ≡ true = any_in (λ y. ident_eq y x) x xs (get_in xs k x g) (ident_eq_refl x) in
        absurd (true_false (has_ident xs x) yes (missed_at xs x p i e).0)

-- what is found has one of the labels
found_one : (es : Entries) (ns : Names) (labels : List ℕ) (k : ℕ) → is_increasing (idents_in es) ≡ true → AreApart ns → IsIn k (all_places (idents_in es) labels ns) → IsIn k (label_places 0 labels (marks (marked_by ns es)))
found_one es ns labels k i a p =
    let xs = idents_in es in
    let r = in_all_places xs labels ns k p in
    let q = in_named xs r.0 ns k r.2 in
    let here = place_is xs q.0 k (rising_of xs i) q.2 in
    let label = name_label ns q.0 r.0 a q.1 in
    let one : is_one_of labels (mark ns q.0) ≡ true = ap (λ o. is_one_of labels (mark_by q.0 o)) label ∙ in_one labels r.0 r.1 in
    let there : slice_get (marks (marked_by ns es)) k ≡ Some (mark ns q.0) = ap (λ (ms : List Mark). slice_get ms k) (marks_are ns es) ∙ mapped_at (mark ns) xs k q.0 here in
    let none : 0 + k ≡ k = omega arith in
    subst (λ j. IsIn j (label_places 0 labels (marks (marked_by ns es)))) none (places_in 0 labels (marks (marked_by ns es)) k (mark ns q.0) there one)

labelled : (labels : List ℕ) (x : List Tuple) (o : Option ℕ) → is_one_of labels (mark_by x o) ≡ true → (l : ℕ) × IsIn l labels × (o ≡ Some l)
labelled labels x None h = absurd (cc)
labelled labels x (Some n) h = let r = in_any (λ k. k == n) labels h in (n, subst (λ k. IsIn k labels) (eq_is r.0 n r.2) r.1, refl)

-- what has one of the labels is found
one_found : (es : Entries) (ns : Names) (labels : List ℕ) (k : ℕ) → is_increasing (idents_in es) ≡ true → IsIn k (label_places 0 labels (marks (marked_by ns es))) → IsIn k (all_places (idents_in es) labels ns)
one_found es ns labels k i p =
    let xs = idents_in es in
    let r = in_places 0 labels (marks (marked_by ns es)) k p in
    let same : k ≡ r.0 = let e = r.2 in omega (arith, e) in
    let q = map_get (mark ns) xs r.0 r.1 (ap (λ (ms : List Mark). slice_get ms r.0) (sym (marks_are ns es)) ∙ r.3) in
    let l = labelled labels q.0 (label_of ns q.0) (ap (is_one_of labels) q.2 ∙ r.4) in
    let place = place_at xs q.0 r.0 i q.1 in
    subst (λ j. IsIn j (all_places xs labels ns)) (sym same) (all_places_in xs labels ns l.0 r.0 l.1 (named_in xs l.0 ns q.0 r.0 (label_name ns q.0 l.0 l.2) place))

pub places_found : (es : Entries) (ns : Names) (labels ps sorted out : List ℕ) → is_increasing (idents_in es) ≡ true → AreApart ns → ps ≡ all_places (idents_in es) labels ns → IsPermutation ps sorted → IsSorted nat_cmp sorted →
    IsFiltered (DiffersFromLast nat_eq) [] sorted out → out ≡ label_places 0 labels (marks (marked_by ns es))
places_found es ns labels ps sorted out i a e p s f =
    let ts = label_places 0 labels (marks (marked_by ns es)) in
    let is = dedup_is nat_eq sorted out f in
    let pairs = AllPairs-from_increasing (dedup nat_eq sorted) (IsStrictlyIncreasing-dedup sorted s) in
    let rise = pairs_rise (dedup nat_eq sorted) (λ j k l m. pairs j k 0 l m) in
    let there = λ (k : ℕ) (q : IsIn k (dedup nat_eq sorted)).
    let c = Contains-permutation sorted ps k (IsPermutation-sym ps sorted p) (Contains-from_dedup nat_eq sorted k (contained (dedup nat_eq sorted) k q)) in
    found_one es ns labels k i a (subst (IsIn k) e (contains_in ps k c.0 c.1 c.2)) in
    let back = λ (k : ℕ) (q : IsIn k ts).
    let c = Contains-dedup_nat sorted k (Contains-permutation ps sorted k p (contained ps k (subst (IsIn k) (sym e) (one_found es ns labels k i q)))) in
    contains_in (dedup nat_eq sorted) k c.0 c.1 c.2 in
    is ∙ same_rising (dedup nat_eq sorted) ts rise (places_rise 0 labels (marks (marked_by ns es))) there back

-- the first of them is in the text
pub place_short : (labels : List ℕ) (ms : List Mark) (k : ℕ) → first_of (label_places 0 labels ms) ≡ Some k → k < length ms
place_short labels ms k e = go (label_places 0 labels ms) refl e
  where
    get_short : (ns : List Mark) (j : ℕ) (m : Mark) → slice_get ns j ≡ Some m → j < length ns
    get_short [] j m g = absurd (cc)
    get_short (n ∷ ns) zero m g = omega arith
    get_short (n ∷ ns) (suc j) m g = let h = get_short ns j m g in omega (arith, h)

    go : (ps : List ℕ) → label_places 0 labels ms ≡ ps → first_of ps ≡ Some k → k < length ms
    go [] q f = absurd (cc)
    go (p ∷ ps) q f =
        let r = in_places 0 labels ms k (subst (IsIn k) (sym q) (inl (some_is p k f))) in
        let h = get_short ms r.0 r.1 r.3 in
        let s = r.2 in
        omega (arith, h, s)

pub first_is : (ps : List ℕ) → slice_get ps 0 ≡ first_of ps
first_is [] = refl
first_is (p ∷ ps) = refl

-- so its place is a number of the program
pub place_fits : (s : Seen) (ns : Names) (l : ℕ) (o : Option ℕ) → IsSane s → o ≡ label_place (marks (marked_by ns s.text)) l → IfSome o (λ i. i + 1 < 2 ^ 64)
place_fits s ns l None sane e = tt
place_fits s ns l (Some k) sane e =
    let f : Entry → Mark × ℕ = λ (x : Entry). (mark ns x.0, x.1) in
    let g : Mark × ℕ → Mark = λ (x : Mark × ℕ). x.0 in
    let h = place_short (l ∷ []) (marks (marked_by ns s.text)) k (sym e) in
    let size : length (marks (marked_by ns s.text)) ≡ length s.text = length-map (marked_by ns s.text) g ∙ length-map s.text f in
    let room = total_room s sane in
    omega (arith, h, size, room)
