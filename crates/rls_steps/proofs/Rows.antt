-- Labels that follow one another, whose names are identifiers of one run.
use Rattle.std.proofs.Common.{◌≡◌, ℕ, zero, suc, ◌+◌, ◌<◌, ◌≤◌, Bool, true, List, [], ◌∷◌, ◌++◌, length, take, drop, inl, inr, ⊎_elim, refl, sym, ap, ◌∙◌, subst, append_assoc, drop-drop, arith, false}
use Rattle.std.specs.Prelude.{pos, ◌+ℤ◌, reverse, slice_get, slice_index, nat_lt, ◌==◌, Option, Some, None, IfSome, Ok, if◌then◌else◌, Err}
use Rattle.std.proofs.lemmas.Int.{ints}
use Rattle.std.proofs.lemmas.List.{length-take, take-append-drop}
use Rattle.std.proofs.lemmas.Option.{slice_get_within}
use Rattle.rls_ident.specs.declared.tuple.Tuple.{Tuple}
use Rattle.rls_ident.specs.Identifiers.{shifted, IsIdent, ident_lt}
use Rattle.rls_ident.specs.Lists.{IsIn}
use Rattle.rls_ident.proofs.Members.{bool_cases, lt_is, not_lt_is, eq_is, eq_test, some_is}
use Rattle.rls_ident.proofs.Shifted.{shifted_shifted, shifted_none}
use Rattle.rls_runs.specs.Runs.{place_of, is_increasing, run_idents}
use Rattle.rls_steps.specs.declared.name_row.NameRow.{NameRow}
use Rattle.rls_steps.specs.Labelled.{Names}
use Rattle.rls_steps.specs.Marks.{numbers_from}
use Rattle.rls_steps.specs.NameRuns.{Stretch, AreSound, name_at, names_of, named}
use Rattle.rls_steps.specs.Bounds.{HasLabel, HaveNone}
use Rattle.rls_steps.specs.Index.{AreApart, place_list, named_places, all_places}
use Rattle.rls_steps.specs.Rows.{IsRow, LiesBefore}
use Rattle.rls_steps.proofs.Stretches.{in_named, in_reverse, name_in, named_in, none_in, reverse_in, sound_at}
use Rattle.rls_steps.proofs.LabelSteps.{labels_apart}
use Rattle.rls_steps.proofs.Found.{place_at}
use Rattle.rls_steps.proofs.Tabling.{get_take, place_is}
use Rattle.rls_steps.proofs.Walking.{none_named, unlisted}
use Rattle.rls_ident.proofs.Lists.{tri}
use Rattle.rls_ident.proofs.Tuples.{tuples}
use Rattle.rls_runs.specs.Places.{below_count}
use Rattle.rls_runs.proofs.Gaps.{at_less, less_at}
use Rattle.rls_runs.proofs.RunOrder.{rising_of, run_gets, run_rising}
use Rattle.rls_tree.proofs.Puts.{get_drop}
use Rattle.rls_undo.proofs.Finding.{found_at, missed_at}
use Rattle.rls_steps.proofs.Intervals.{place_above, shifted_not_less}

-- ---- a row of a run of names

-- names of labels in the last run that may have them are a row, if what they had before lies in its interval
pub row_is : (rs : List Stretch) (last low high count l : ℕ) (r : Stretch) (y : List Tuple × ℕ) (row : NameRow) → AreSound rs → slice_get rs last ≡ Some r → HaveNone rs count (length rs) low high → low ≤ l → ((i : ℕ) → last < i → i < length rs → count ≤ i) → row.run ≡ y →
    ((k : ℕ) → k < y.1 → (j : ℕ) × (j < r.len) × (name_at r j ≡ (shifted (pos k) y.0, l + k))) → ((k : ℕ) → k < y.1 → l + k ≤ high) →
    ((j : ℕ) (s : Stretch) (m : List Tuple × ℕ) → HasLabel rs last m.1 → j < last → slice_get rs j ≡ Some s → IsIn m (names_of s) → LiesBefore row.before m.0) → IsRow (named rs) l row
row_is rs last low high count l r y row sound g none least above e own top before = record {
  there = λ k h.
      let w = own k (subst (λ (z : List Tuple × ℕ). k < z.1) e h) in
      subst (λ (z : List Tuple × ℕ). IsIn (shifted (pos k) z.0, l + k) (named rs)) (sym e) (subst (λ n. IsIn n (named rs)) w.2 (named_in rs last r w.0 g w.1));
  others = λ k m h p q.
      let h' = subst (λ (z : List Tuple × ℕ). k < z.1) e h in
      let w = own k h' in
      let v = in_named rs m p in
      let short = slice_get_within rs v.0 v.1 v.3 in
      let has : HasLabel rs last m.1 = (r, name_at r w.0, g, name_in r w.0 w.1, ap (λ (n : List Tuple × ℕ). n.1) w.2 ∙ sym q) in
      let there : IsIn m (names_of v.1) = subst (λ n. IsIn n (names_of v.1)) v.5 (name_in v.1 v.2 v.4) in
      bool_cases (nat_lt v.0 last)
      (λ b. inr (before v.0 v.1 m has (lt_is v.0 last b) v.3 there))
      (λ b. bool_cases (nat_lt last v.0)
      (λ c. let most = top k h' in
      absurd (none v.0 m.1 (above v.0 (lt_is last v.0 c) short) short (v.1, m, v.3, there, refl) (omega (arith, least, q)) (omega (arith, most, q))))
      (λ c. let least' = not_lt_is v.0 last b in
      let most' = not_lt_is last v.0 c in
      let same : v.0 ≡ last = omega (arith, least', most') in
      let run : v.1 ≡ r = some_is v.1 r (sym v.3 ∙ (ap (slice_get rs) same ∙ g)) in
      let here : name_at r v.2 ≡ m = ap (λ (s : Stretch). name_at s v.2) (sym run) ∙ v.5 in
      let label : (name_at r v.2).1 ≡ (name_at r w.0).1 = ap (λ (n : List Tuple × ℕ). n.1) here ∙ (q ∙ sym (ap (λ (n : List Tuple × ℕ). n.1) w.2)) in
      let place = labels_apart r v.2 w.0 (sound_at rs last r sound g) (subst (λ (s : Stretch). v.2 < s.len) run v.4) w.1 label in
      inl (ap (λ (n : List Tuple × ℕ). n.0) (sym here ∙ (ap (name_at r) place ∙ w.2)) ∙ ap (λ (z : List Tuple × ℕ). shifted (pos k) z.0) (sym e))));
}

pub if_both : {A : Type 0} {P Q R : A → Type 0} (o : Option A) → ((x : A) → P x → Q x → R x) → IfSome o P → IfSome o Q → IfSome o R
if_both None f p q = tt
if_both (Some x) f p q = f x p q

-- ---- where it stands in a text

-- identifiers of a run that are read from a part of a text stand in the text
pub stand_on : (xs ts : List (List Tuple)) (x y : List Tuple) (at most p n : ℕ) → ts ≡ take most (drop at xs) → slice_get xs at ≡ Some x → ((k : ℕ) → k < n → slice_get ts (0 + k) ≡ Some (shifted (pos (p + k)) y)) → (k : ℕ) → k < n →
    slice_get xs (at + k) ≡ Some (shifted (pos k) x)
stand_on xs ts x y at most p n e g f k h = there k h ∙ ap (λ z. Some z) (sym far ∙ ap (shifted (pos k)) first)
  where
    there : (j : ℕ) → j < n → slice_get xs (at + j) ≡ Some (shifted (pos (p + j)) y)
    there j l =
        let z : 0 + j ≡ j = omega arith in
        let got : slice_get (take most (drop at xs)) j ≡ Some (shifted (pos (p + j)) y) = ap (λ us. slice_get us j) (sym e) ∙ (ap (slice_get ts) (sym z) ∙ f j l) in
        let short = slice_get_within (take most (drop at xs)) j (shifted (pos (p + j)) y) got in
        let size = length-take most (drop at xs) in
        sym (get_drop at j xs) ∙ (sym (get_take most j (drop at xs) (omega (arith, short, size))) ∙ got)

    some : 0 < n
    some = omega (arith, h)

    first : shifted (pos p) y ≡ x
    first =
        let z : p + 0 ≡ p = omega arith in
        let w : at + 0 ≡ at = omega arith in
        ap (λ m. shifted (pos m) y) (sym z) ∙ some_is (shifted (pos (p + 0)) y) x (sym (there 0 some) ∙ (ap (slice_get xs) w ∙ g))

    far : shifted (pos k) (shifted (pos p) y) ≡ shifted (pos (p + k)) y
    far = let by : pos p +ℤ pos k ≡ pos (p + k) = omega (arith, ints) in shifted_shifted (pos k) (pos p) y ∙ ap (λ z. shifted z y) by

-- a label with one name in the text has one place
named_once : (xs : List (List Tuple)) (l k : ℕ) (y : List Tuple) (ns : Names) → AreApart ns → IsIn (y, l) ns → place_of y xs ≡ Ok k → ((m : List Tuple × ℕ) (q : ℕ) → IsIn m ns → m.1 ≡ l → place_of m.0 xs ≡ Ok q → m.0 ≡ y) → named_places xs l ns ≡ k ∷ []
named_once xs l k y [] a p e f = absurd p
named_once xs l k y (n ∷ ns) a (inl q) e f =
    let here = place_list (place_of n.0 xs) in
    let later = named_places xs l ns in
    let is : here ≡ k ∷ [] = ap place_list (ap (λ (m : List Tuple × ℕ). place_of m.0 xs) q ∙ e) in
    let name : n.0 ≡ y = ap (λ (m : List Tuple × ℕ). m.0) q in
    let none : later ≡ [] = none_named xs l ns (λ m j r s t. none_in ns n.0 m.1 a.0 (subst (λ x. IsIn (x, m.1) ns) (f m j (inr r) s t ∙ sym name) r)) in
    ap (λ (c : Bool). if c then here ++ later else later) (eq_test n.1 l (ap (λ (m : List Tuple × ℕ). m.1) q)) ∙ (ap (λ ps. ps ++ later) is ∙ ap (λ ps. k ∷ ps) none)
named_once xs l k y (n ∷ ns) a (inr p) e f =
    let here = place_list (place_of n.0 xs) in
    let later = named_places xs l ns in
    let ih = named_once xs l k y ns a.1 p e (λ m j r. f m j (inr r)) in
    bool_cases (n.1 == l)
    (λ b. let none : here ≡ [] = unlisted (place_of n.0 xs) (λ j t. none_in ns n.0 l a.0 (subst (λ x. IsIn (x, l) ns) (sym (f n j (inl refl) (eq_is n.1 l b) t)) p)) in
    ap (λ (c : Bool). if c then here ++ later else later) b ∙ (ap (λ ps. ps ++ later) none ∙ ih))
    (λ b. ap (λ (c : Bool). if c then here ++ later else later) b ∙ ih)

all_append : (xs : List (List Tuple)) (ls ms : List ℕ) (ns : Names) → all_places xs (ls ++ ms) ns ≡ all_places xs ls ns ++ all_places xs ms ns
all_append xs [] ms ns = refl
all_append xs (l ∷ ls) ms ns = ap (λ ps. named_places xs l ns ++ ps) (all_append xs ls ms ns) ∙ sym (append_assoc (named_places xs l ns) (all_places xs ls ns) (all_places xs ms ns))

all_numbers : (xs : List (List Tuple)) (ns : Names) (l at n : ℕ) → ((k : ℕ) → k < n → named_places xs (l + k) ns ≡ (at + k) ∷ []) → all_places xs (numbers_from l n) ns ≡ numbers_from at n
all_numbers xs ns l at zero f = refl
all_numbers xs ns l at (suc n) f =
    let z : l + 0 ≡ l = omega arith in
    let w : at + 0 ≡ at = omega arith in
    let first : named_places xs l ns ≡ at ∷ [] = ap (λ m. named_places xs m ns) (sym z) ∙ (f 0 (omega arith) ∙ ap (λ m. m ∷ []) w) in
    ap (λ ps. ps ++ all_places xs (numbers_from (suc l) n) ns) first ∙ ap (λ ps. at ∷ ps) (all_numbers xs ns (suc l) (suc at) n (λ k h.
    let u : suc l + k ≡ l + suc k = omega arith in
    let v : at + suc k ≡ suc at + k = omega arith in
    ap (λ m. named_places xs m ns) u ∙ (f (suc k) (omega (arith, h)) ∙ ap (λ m. m ∷ []) v)))

row_place : (xs : List (List Tuple)) (ns : Names) (l at k : ℕ) (r : NameRow) → is_increasing xs ≡ true → AreApart (reverse ns) → IsRow ns l r → ((x : List Tuple) (q : ℕ) → LiesBefore r.before x → place_of x xs ≡ Ok q → ⊥) → k < r.run.1 →
    slice_get xs (at + k) ≡ Some (shifted (pos k) r.run.0) → named_places xs (l + k) (reverse ns) ≡ (at + k) ∷ []
row_place xs ns l at k r i a row clear h g =
    let y = shifted (pos k) r.run.0 in
    named_once xs (l + k) (at + k) y (reverse ns) a (in_reverse (y, l + k) ns (row.there k h)) (place_at xs y (at + k) i g) (λ m q p e t. ⊎_elim (λ s. s) (λ s. absurd (clear m.0 q s t)) (row.others k m h (reverse_in m ns p) e))

-- the places of the first labels of a list, which are those of a row
pub row_found : (xs : List (List Tuple)) (ns : Names) (labels : List ℕ) (i l at n : ℕ) (r : NameRow) → is_increasing xs ≡ true → AreApart (reverse ns) → IsRow ns l r → ((x : List Tuple) (q : ℕ) → LiesBefore r.before x → place_of x xs ≡ Ok q → ⊥) → n ≤ r.run.1 →
    ((k : ℕ) → k < n → slice_get xs (at + k) ≡ Some (shifted (pos k) r.run.0)) → take n (drop i labels) ≡ numbers_from l n → all_places xs (drop i labels) (reverse ns) ≡ numbers_from at n ++ all_places xs (drop (i + n) labels) (reverse ns)
row_found xs ns labels i l at n r inc a row clear most there e =
    let rest = drop i labels in
    let later = all_places xs (drop (i + n) labels) (reverse ns) in
    let front : all_places xs (take n rest) (reverse ns) ≡ numbers_from at n =
    ap (λ ls. all_places xs ls (reverse ns)) e ∙ all_numbers xs (reverse ns) l at n (λ k h. row_place xs ns l at k r inc a row clear (omega (arith, h, most)) (there k h)) in
    ap (λ ls. all_places xs ls (reverse ns)) (sym (take-append-drop n rest))
    ∙ (all_append xs (take n rest) (drop n rest) (reverse ns)
    ∙ (ap (λ ps. ps ++ all_places xs (drop n rest) (reverse ns)) front ∙ ap (λ ls. numbers_from at n ++ all_places xs ls (reverse ns)) (drop-drop n i labels)))

-- ---- where it isn't in a text

-- labels of which no name is in the text have no place
none_place : (xs : List (List Tuple)) (ns : Names) (l k : ℕ) (r : NameRow) → IsRow ns l r → ((x : List Tuple) (q : ℕ) → LiesBefore r.before x → place_of x xs ≡ Ok q → ⊥) → ((q : ℕ) → place_of (shifted (pos k) r.run.0) xs ≡ Ok q → ⊥) → k < r.run.1 → named_places xs (l + k) (reverse ns) ≡ []
none_place xs ns l k r row clear gone h = none_named xs (l + k) (reverse ns) (λ m q p e t. ⊎_elim
    (λ s. gone q (ap (λ x. place_of x xs) (sym s) ∙ t))
    (λ s. clear m.0 q s t)
    (row.others k m h (reverse_in m ns p) e))

all_none : (xs : List (List Tuple)) (ns : Names) (l n : ℕ) → ((k : ℕ) → k < n → named_places xs (l + k) ns ≡ []) → all_places xs (numbers_from l n) ns ≡ []
all_none xs ns l zero f = refl
all_none xs ns l (suc n) f =
    let z : l + 0 ≡ l = omega arith in
    let first : named_places xs l ns ≡ [] = ap (λ m. named_places xs m ns) (sym z) ∙ f 0 (omega arith) in
    ap (λ ps. ps ++ all_places xs (numbers_from (suc l) n) ns) first ∙ all_none xs ns (suc l) n (λ k h. let u : suc l + k ≡ l + suc k = omega arith in ap (λ m. named_places xs m ns) u ∙ f (suc k) (omega (arith, h)))

pub row_gone : (xs : List (List Tuple)) (ns : Names) (labels : List ℕ) (i l n : ℕ) (r : NameRow) → IsRow ns l r → ((x : List Tuple) (q : ℕ) → LiesBefore r.before x → place_of x xs ≡ Ok q → ⊥) → n ≤ r.run.1 → ((k q : ℕ) → k < n → place_of (shifted (pos k) r.run.0) xs ≡ Ok q → ⊥) →
    take n (drop i labels) ≡ numbers_from l n → all_places xs (drop i labels) (reverse ns) ≡ all_places xs (drop (i + n) labels) (reverse ns)
row_gone xs ns labels i l n r row clear most gone e =
    let rest = drop i labels in
    let front : all_places xs (take n rest) (reverse ns) ≡ [] =
    ap (λ ls. all_places xs ls (reverse ns)) e ∙ all_none xs (reverse ns) l n (λ k h. none_place xs ns l k r row clear (λ q t. gone k q h t) (omega (arith, h, most))) in
    ap (λ ls. all_places xs ls (reverse ns)) (sym (take-append-drop n rest))
    ∙ (all_append xs (take n rest) (drop n rest) (reverse ns)
    ∙ (ap (λ ps. ps ++ all_places xs (drop n rest) (reverse ns)) front ∙ ap (λ ls. all_places xs ls (reverse ns)) (drop-drop n i labels)))

-- an identifier of a run that isn't less than the first one, where that would be at a place
from_first : (xs : List (List Tuple)) (x : List Tuple) (at k q : ℕ) → is_increasing xs ≡ true → IsIdent x → place_of x xs ≡ Err at → place_of (shifted (pos k) x) xs ≡ Ok q → at ≤ q
from_first xs x at k q i ident f t =
    let y = shifted (pos k) x in
    let above : ident_lt y x ≡ false = ap (ident_lt y) (sym (shifted_none x)) ∙ shifted_not_less 0 k x ident (omega arith) in
    let low = place_above xs x y q i above t in
    let count = (missed_at xs x at i f).1 in
    omega (arith, low, count)

-- behind the text's end
pub gone_at_end : (xs : List (List Tuple)) (x : List Tuple) (at k q : ℕ) → is_increasing xs ≡ true → IsIdent x → place_of x xs ≡ Err at → length xs ≤ at → place_of (shifted (pos k) x) xs ≡ Ok q → ⊥
gone_at_end xs x at k q i ident f end t =
    let low = from_first xs x at k q i ident f t in
    let short = slice_get_within xs q (shifted (pos k) x) (place_is xs (shifted (pos k) x) q (rising_of xs i) t) in
    absurd (omega (arith, low, short, end))

-- below the next one of the text
pub gone_below : (xs : List (List Tuple)) (x next : List Tuple) (at n below k q : ℕ) → is_increasing xs ≡ true → IsIdent x → place_of x xs ≡ Err at → slice_get xs at ≡ Some next → below_count (run_idents x n) next ≡ below → k < n → k < below → place_of (shifted (pos k) x) xs ≡ Ok q → ⊥
gone_below xs x next at n below k q i ident f g e h l t =
    let y = shifted (pos k) x in
    let rising = rising_of xs i in
    let low = from_first xs x at k q i ident f t in
    let less = less_at (run_idents x n) k y next (run_rising x n ident) (run_gets x n k h) (subst (λ m. k < m) (sym e) l) in
    let high = at_less xs q y next rising (place_is xs y q rising t) less in
    let count = (found_at xs next at i (place_at xs next at i g)).1 in
    absurd (omega (arith, low, high, count))

-- the first one is below it
pub first_below : (xs : List (List Tuple)) (x next : List Tuple) (at n : ℕ) → is_increasing xs ≡ true → IsIdent x → place_of x xs ≡ Err at → slice_get xs at ≡ Some next → 0 < n → 0 < below_count (run_idents x n) next
first_below xs x next at n i ident f g h =
    let first : slice_get (run_idents x n) 0 ≡ Some x = run_gets x n 0 h ∙ ap Some (shifted_none x) in
    ⊎_elim
    (λ less. at_less (run_idents x n) 0 x next (run_rising x n ident) first less)
    (λ b. ⊎_elim
    (λ e. absurd (let there = sym f ∙ (ap (λ y. place_of y xs) e ∙ place_at xs next at i g) in cc))
    (λ more. let m = at_less xs at next x (rising_of xs i) g more in let count = (missed_at xs x at i f).1 in absurd (omega (arith, m, count)))
    b)
    (tri tuples x next)

-- ---- places that are pushed

pub row_pushed : (old new more later here : List ℕ) → new ≡ old ++ more → here ≡ more ++ later → new ++ later ≡ old ++ here
row_pushed old new more later here e f = ap (λ ps. ps ++ later) e ∙ (append_assoc old more later ∙ ap (λ ps. old ++ ps) (sym f))

pub rest_at : (ls : List ℕ) (i : ℕ) → i < length ls → drop i ls ≡ slice_index ls i ∷ drop (i + 1) ls
rest_at [] i h = absurd (omega (arith, h))
rest_at (l ∷ ls) zero h = refl
rest_at (l ∷ ls) (suc i) h =
    let e : suc (i + 1) ≡ suc i + 1 = omega arith in
    rest_at ls i (omega (arith, h)) ∙ ap (λ n. slice_index ls i ∷ drop n (l ∷ ls)) e
