-- Entries without those of some identifiers.
use Rattle.std.proofs.Common.{◌≡◌, ℕ, zero, suc, ◌+◌, ◌-◌, ◌<◌, ◌≤◌, Bool, true, false, cond, List, [], ◌∷◌, ◌++◌, length, take, drop, get_or, Some, slice_get, refl, sym, ap, ◌∙◌, subst, arith, append_assoc}
use Rattle.std.specs.Prelude.{not, filter, ◌||◌}
use Rattle.std.proofs.lemmas.List.{take-append-drop, append-nil, drop-drop}
use Rattle.std.proofs.lemmas.Option.{slice_get-get_or}
use Rattle.std.proofs.lemmas.List.Elements.{filter-append}
use Rattle.std.proofs.lemmas.List.Sums.{length-filter, count_by-le-length}
use Rattle.rls_ident.specs.declared.tuple.Tuple.{Tuple}
use Rattle.rls_ident.specs.Identifiers.{ident_eq}
use Rattle.rls_ident.proofs.Members.{or_left}
use Rattle.rls_ident.proofs.Ends.{same_eq}
use Rattle.rls_runs.specs.Entries.{Entries, idents_in, has_ident, without_all}
use Rattle.rls_runs.specs.Places.{is_above, last_ident}
use Rattle.rls_runs.specs.Runs.{run_idents, idents_of, is_increasing}
use Rattle.rls_runs.proofs.RunOrder.{Rising, rising_right, rising_of, increasing_of, idents_append as runs_append}
use Rattle.std.proofs.Math.Seq.{take-add}
use Rattle.rls_runs.proofs.RunPlaces.{tells_less, tells_more}
use Rattle.rls_runs.proofs.Sorted.{Entry, Rises, AreAbove, rises_drop}
use Rattle.rls_doc.proofs.Rising.{rising, increasing, above_taken, idents_part}
use Rattle.rls_doc.proofs.Steps.{ident_there}
use Rattle.rls_blocks.specs.Edits.{removed}
use Rattle.rls_blocks.proofs.AtPlaces.{idents_append}
use Rattle.rls_runs.proofs.Gaps.{rising_drop, AreBelow, rising_below, firsts_less, rests_below, left_below}
use Rattle.rls_tree.proofs.Puts.{get_drop, idents_drop, idents_take, parted, headed}

-- ---- lists of identifiers to take out

pub without_none : (es : Entries) → without_all [] es ≡ es
without_none [] = refl
without_none (e ∷ es) = ap (λ zs. e ∷ zs) (without_none es)

pub without_append : (xs : List (List Tuple)) (es fs : Entries) → without_all xs (es ++ fs) ≡ without_all xs es ++ without_all xs fs
without_append xs es fs = filter-append (λ (e : Entry). not (has_ident xs e.0)) es fs

-- ---- entries that stay

stays : (xs : List (List Tuple)) (e : Entry) (es : Entries) → has_ident xs e.0 ≡ false → without_all xs es ≡ es → without_all xs (e ∷ es) ≡ e ∷ es
stays xs e es h k = ap (λ b. cond (not b) (e ∷ without_all xs es) (without_all xs es)) h ∙ ap (λ zs. e ∷ zs) k

pub less_stay : (xs : List (List Tuple)) (es : Entries) → AreBelow (idents_in es) xs → without_all xs es ≡ es
less_stay xs [] h = refl
less_stay xs (e ∷ es) h = stays xs e es (tells_more xs e.0 h.0).0 (less_stay xs es h.1)

pub more_stay : (xs : List (List Tuple)) (es : Entries) → AreBelow xs (idents_in es) → without_all xs es ≡ es
more_stay xs [] h = refl
more_stay xs (e ∷ es) h = stays xs e es (tells_less xs e.0 (firsts_less xs e.0 (idents_in es) h)).0 (more_stay xs es (rests_below xs e.0 (idents_in es) h))

-- ---- entries that go

has_among : (xs ys : List (List Tuple)) (x : List Tuple) → has_ident (xs ++ x ∷ ys) x ≡ true
has_among [] ys x = or_left (ident_eq x x) (has_ident ys x) (same_eq x x refl)
has_among (y ∷ xs) ys x = go (ident_eq y x) (has_among xs ys x)
  where
    go : (b : Bool) → has_ident (xs ++ x ∷ ys) x ≡ true → (b || has_ident (xs ++ x ∷ ys) x) ≡ true
    go true h = refl
    go false h = h

all_gone : (xs : List (List Tuple)) (es : Entries) → without_all (xs ++ idents_in es) es ≡ []
all_gone xs [] = refl
all_gone xs (e ∷ es) =
    ap (λ b. cond (not b) (e ∷ without_all (xs ++ e.0 ∷ idents_in es) es) (without_all (xs ++ e.0 ∷ idents_in es) es)) (has_among xs (idents_in es) e.0)
    ∙ ap (λ zs. without_all zs es) (sym (append_assoc xs (e.0 ∷ []) (idents_in es))) ∙ all_gone (xs ++ e.0 ∷ []) es

-- those of a part
pub part_gone : (f m g : Entries) → Rising (idents_in (f ++ (m ++ g))) → without_all (idents_in m) (f ++ (m ++ g)) ≡ f ++ g
part_gone f m g r =
    let q : Rising (idents_in f ++ (idents_in m ++ idents_in g)) = subst Rising (idents_append f (m ++ g) ∙ ap (λ xs. idents_in f ++ xs) (idents_append m g)) r in
    let b = rising_below (idents_in f) (idents_in m ++ idents_in g) q in
    let s = rising_right (idents_in f) (idents_in m ++ idents_in g) q in
    without_append (idents_in m) f (m ++ g)
    ∙ ap (λ zs. zs ++ without_all (idents_in m) (m ++ g)) (less_stay (idents_in m) f (left_below (idents_in f) (idents_in m) (idents_in g) b))
    ∙ ap (λ zs. f ++ zs) (without_append (idents_in m) m g ∙ ap (λ zs. zs ++ without_all (idents_in m) g) (all_gone [] m) ∙ more_stay (idents_in m) g (rising_below (idents_in m) (idents_in g) s))

-- the first of some identifiers of a run
pub run_head : (xs : List (List Tuple)) (i n : ℕ) (q x : List Tuple) → 0 < n → slice_get xs i ≡ Some x → take n (drop i xs) ≡ run_idents q n → q ≡ x
run_head xs i zero q x h g e = absurd (omega arith)
run_head xs i (suc n) q x h g e = let f = ap (take (suc n)) (sym (headed i xs x g)) ∙ e in cc

-- those that stand one behind another
pub whole_gone : (es : Entries) (i n : ℕ) (xs : List (List Tuple)) → Rising (idents_in es) → take n (drop i (idents_in es)) ≡ xs → removed i n es ≡ without_all xs es
whole_gone es i n xs r h =
    let c = take n (drop i es) in
    let all : es ≡ take i es ++ (c ++ drop (i + n) es) = sym (take-append-drop i es) ∙ ap (λ zs. take i es ++ zs) (parted i n es) in
    let m : idents_in c ≡ xs = idents_take n (drop i es) ∙ ap (take n) (idents_drop i es) ∙ h in
    sym (ap (λ zs. without_all zs es) (sym m) ∙ ap (without_all (idents_in c)) all ∙ part_gone (take i es) c (drop (i + n) es) (subst (λ zs. Rising (idents_in zs)) all r))

-- and as many more
pub taken_more : (xs : List (List Tuple)) (rs : List (List Tuple × ℕ)) (i at n k : ℕ) (r : List Tuple × ℕ) → i ≤ at → take (at - i) (drop i xs) ≡ idents_of (take k rs) → take n (drop at xs) ≡ run_idents r.0 r.1 → slice_get rs k ≡ Some r
    → take (at + n - i) (drop i xs) ≡ idents_of (take (k + 1) rs)
taken_more xs rs i at n k r o h e g =
    let m : at + n - i ≡ (at - i) + n = omega (arith, o) in
    let j : i + (at - i) ≡ at = omega (arith, o) in
    let one : take 1 (drop k rs) ≡ r ∷ [] = ap (take 1) (headed k rs r g) in
    ap (λ q. take q (drop i xs)) m ∙ take-add (at - i) n (drop i xs)
    ∙ ap (λ ys. ys ++ take n (drop (at - i) (drop i xs))) h ∙ ap (λ ys. idents_of (take k rs) ++ ys) (ap (take n) (drop-drop (at - i) i xs ∙ ap (λ q. drop q xs) j) ∙ e ∙ sym (append-nil (run_idents r.0 r.1)))
    ∙ sym (runs_append (take k rs) (r ∷ [])) ∙ ap idents_of (ap (λ ys. take k rs ++ ys) (sym one) ∙ sym (take-add k 1 rs))

pub filter_short : {X : Type 0} (t : X → Bool) (xs : List X) → length (filter t xs) ≤ length xs
filter_short t xs = let n = length-filter t xs in let m = count_by-le-length t xs in omega (arith, n, m)

-- the identifiers of a run from a place on are above those just before it
pub above_next : (es : Entries) (from at : ℕ) (r : List Tuple × ℕ) → is_increasing (idents_in es) ≡ true → from ≤ at → at < length es → 0 < r.1 → take r.1 (drop at (idents_in es)) ≡ run_idents r.0 r.1 → is_above (last_ident (take (at - from) (drop from (idents_in es)))) r.0 ≡ true
above_next es from at r up order within some own =
    let xs = idents_in es in
    let d : Entry = ([], 0) in
    let e = get_or es at d in
    let there : slice_get es at ≡ Some e = slice_get-get_or es at d within in
    let first : r.0 ≡ e.0 = run_head xs at r.1 r.0 e.0 some (ident_there es at e there) own in
    let n : from + (at - from) ≡ at = omega (arith, order) in
    let here : slice_get (drop from es) (at - from) ≡ Some e = get_drop from (at - from) es ∙ ap (slice_get es) n ∙ there in
    let rises : is_increasing (idents_in (drop from es)) ≡ true = ap is_increasing (idents_drop from es) ∙ increasing_of (drop from xs) (rising_drop from xs (rising_of xs up)) in
    ap (λ ys. is_above (last_ident ys) r.0) (sym (idents_part from (at - from) es)) ∙ ap (is_above (last_ident (idents_in (take (at - from) (drop from es))))) first ∙ above_taken (drop from es) (at - from) e rises here

-- ---- what a range taken out leaves rises

above_drop : (e : Entry) (k : ℕ) (es : Entries) → AreAbove e es → AreAbove e (drop k es)
above_drop e zero es h = h
above_drop e (suc k) [] h = tt
above_drop e (suc k) (x ∷ es) h = above_drop e k es h.1

above_removed : (e : Entry) (i k : ℕ) (es : Entries) → AreAbove e es → AreAbove e (take i es ++ drop (i + k) es)
above_removed e zero k es h = above_drop e (0 + k) es h
above_removed e (suc i) k [] h = above_drop e (suc i + k) [] tt
above_removed e (suc i) k (x ∷ es) h = let s : suc (i + k) ≡ suc i + k = omega arith in (h.0, subst (λ n. AreAbove e (take i es ++ drop n (x ∷ es))) s (above_removed e i k es h.1))

rises_removed : (i k : ℕ) (es : Entries) → Rises es → Rises (take i es ++ drop (i + k) es)
rises_removed zero k es h = rises_drop (0 + k) es h
rises_removed (suc i) k [] h = rises_drop (suc i + k) [] tt
rises_removed (suc i) k (x ∷ es) h = let s : suc (i + k) ≡ suc i + k = omega arith in (subst (λ n. AreAbove x (take i es ++ drop n (x ∷ es))) s (above_removed x i k es h.0), subst (λ n. Rises (take i es ++ drop n (x ∷ es))) s (rises_removed i k es h.1))

pub increasing_removed : (i k : ℕ) (es : Entries) → is_increasing (idents_in es) ≡ true → is_increasing (idents_in (removed i k es)) ≡ true
increasing_removed i k es h = increasing (removed i k es) (rises_removed i k es (rising es h))
