-- Where what an operation changes is found.
use Rattle.std.proofs.Common.{◌≡◌, ℕ, zero, suc, ◌+◌, ◌-◌, ◌<◌, ◌≤◌, true, false, List, [], ◌∷◌, ◌++◌, map, length, take, drop, Some, Ok, Err, slice_get, refl, sym, ap, ◌∙◌, subst, arith, IsTrue}
use Rattle.std.specs.Prelude.{max, nat_lt, zip, None}
use Rattle.std.proofs.lemmas.List.{length-drop, length-map, length-take-le, take_all, take-append-drop, take-map, drop-map, drop-take}
use Rattle.std.proofs.lemmas.Option.{slice_get_within}
use Rattle.std.proofs.lemmas.Slice.Zip.{firsts-zip, seconds-zip}
use Rattle.std.proofs.Math.ListN.{drop_of_length-le}
use Rattle.std.proofs.Math.Seq.{take-add}
use Rattle.rls_ident.specs.declared.tuple.Tuple.{Tuple}
use Rattle.rls_ident.proofs.Lists.{Lt}
use Rattle.rls_ident.proofs.Loops.{drop_reads}
use Rattle.rls_ident.proofs.Tuples.{tuples}
use Rattle.rls_runs.specs.Entries.{idents_in, chars_in, has_ident}
use Rattle.rls_runs.specs.Places.{below_count}
use Rattle.rls_runs.specs.Runs.{is_increasing, place_of, run_idents}
use Rattle.rls_rename.proofs.GapPlaces.{gap_there}
use Rattle.rls_runs.proofs.Gaps.{at_less, at_same, below_take, less_drop, more_drop, rising_drop, rising_take}
use Rattle.rls_runs.proofs.Searches.{found_at, missed_at}
use Rattle.rls_runs.proofs.RunOrder.{AllLess, AllMore, Rising, less_trans, more_trans, rising_of}
use Rattle.rls_runs.proofs.RunPlaces.{tells_append, tells_less, tells_more}
use Rattle.rls_ident.specs.declared.limits.TheConstants.{CHARACTERS}
use Rattle.rls_ident.specs.declared.epoch_name.EpochName.{EpochName}
use Rattle.rls_ident.proofs.Members.{not_lt_is}
use Rattle.rls_ops.specs.declared.op.Op.{Op}
use Rattle.rls_ops.specs.declared.op.Body.TheVariants as body
use Rattle.rls_ops.specs.Shapes.{body_len, body_limit, shape_fault}
use Rattle.rls_ops.proofs.Shaped.{shaped}
use Rattle.rls_replica.specs.Names.{keeps}
use Rattle.rls_runs.proofs.Finding.{run_length}
use Rattle.rls_seen.proofs.EditedText.{take_drop_drop}
use Rattle.rls_seen.specs.Over.{placed_over}
use Rattle.rls_seen.specs.Sane.{MayApply}
use Rattle.rls_seen.proofs.Fitting.{facts}
use Rattle.rls_seen.specs.Seen.{Seen, idents_over}
use Rattle.rls_changes.specs.declared.change.Change.{Change}
use Rattle.rls_changes.specs.declared.change.Change.TheVariants.{Insert, Delete}
use Rattle.rls_changes.specs.Changes.{deleted_by, with_change, with_changes, changes_by, cuts, puts}
use Rattle.rls_changes.proofs.Joining.{deleted_all}
use Rattle.rls_changes.specs.Places.{AreAt, AreMissing}
use Rattle.rls_changes.proofs.Putting.{at_end, at_gap, next_puts, more_take}
use Rattle.rls_changes.proofs.Cutting.{cut_count, cut_missing, cuts_delete, few_cut, next_cut, none_cut}

-- ---- by what a search tells

pub found : (xs : List (List Tuple)) (y : List Tuple) (p : ℕ) → is_increasing xs ≡ true → place_of y xs ≡ Ok p → (slice_get xs p ≡ Some y) × (below_count xs y ≡ p)
found xs y p r h = (gap_there xs y p h, (found_at xs y p r h).1)

-- ---- pieces of an insertion

-- the next piece, from a place on
pub pieces_more : (xs ids : List (List Tuple)) (text : List ℕ) (at end g : ℕ) → length ids ≡ length text → at < end → end ≤ length ids → AreAt g xs (take (end - at) (drop at ids))
    → with_change (with_changes [] (puts 0 xs (take at (zip ids text)))) (Insert (g + at) (take (end - at) (drop at text))) ≡ with_changes [] (puts 0 xs (take end (zip ids text)))
pieces_more xs ids text at end g many l w h =
    let es = zip ids text in
    let firsts : idents_in es ≡ ids = firsts-zip ids text (sym many) in
    let seconds : chars_in es ≡ text = seconds-zip ids text (sym many) in
    let a = length-map es (λ (e : List Tuple × ℕ). e.0) in
    let b = ap length firsts in
    let total : length es ≡ length ids = omega arith in
    let m = take (end - at) (drop at es) in
    let split : take at es ++ m ≡ take end es = let e : at + (end - at) ≡ end = omega arith in sym (take-add at (end - at) es) ∙ ap (λ k. take k es) e in
    let front : length (take at es) ≡ at = length-take-le at es (omega arith) in
    let d = length-drop at es in
    let some : length m ≡ end - at = length-take-le (end - at) (drop at es) (omega arith) in
    let idents : idents_in m ≡ take (end - at) (drop at ids) = sym (take-map (λ (e : List Tuple × ℕ). e.0) (end - at) (drop at es)) ∙ (ap (take (end - at)) (sym (drop-map (λ (e : List Tuple × ℕ). e.0) at es)) ∙ ap (λ zs. take (end - at) (drop at zs)) firsts) in
    let chars : chars_in m ≡ take (end - at) (drop at text) = sym (take-map (λ (e : List Tuple × ℕ). e.1) (end - at) (drop at es)) ∙ (ap (take (end - at)) (sym (drop-map (λ (e : List Tuple × ℕ). e.1) at es)) ∙ ap (λ zs. take (end - at) (drop at zs)) seconds) in
    let next = next_puts xs (take at es) m g (omega arith) (subst (AreAt g xs) (sym idents) h) in
    sym (ap (λ zs. with_changes [] (puts 0 xs zs)) (sym split)
    ∙ (next
    ∙ (ap (λ k. with_change (with_changes [] (puts 0 xs (take at es))) (Insert (g + k) (chars_in m))) front
    ∙ ap (λ zs. with_change (with_changes [] (puts 0 xs (take at es))) (Insert (g + at) zs)) chars)))

pub pieces_all : (xs ids : List (List Tuple)) (text : List ℕ) (at : ℕ) → length ids ≡ length text → length ids ≤ at → with_changes [] (puts 0 xs (take at (zip ids text))) ≡ with_changes [] (puts 0 xs (zip ids text))
pieces_all xs ids text at many h =
    let es = zip ids text in
    let a = length-map es (λ (e : List Tuple × ℕ). e.0) in
    let b = ap length (firsts-zip ids text (sym many)) in
    ap (λ zs. with_changes [] (puts 0 xs zs)) (take_all at es (omega arith))

-- ---- stretches of a deletion

-- pointwise equal parts
pub same_part : (n i j : ℕ) (xs ys : List (List Tuple)) → i + n ≤ length xs → j + n ≤ length ys → ((k : ℕ) → k < n → slice_get xs (i + k) ≡ slice_get ys (j + k)) → take n (drop i xs) ≡ take n (drop j ys)
same_part zero i j xs ys l m f = refl
same_part (suc n) i j xs ys l m f =
    let a = there xs i (omega arith) in
    let b = there ys j (omega arith) in
    let p : i + 0 ≡ i = omega arith in
    let q : j + 0 ≡ j = omega arith in
    let same : Some a.0 ≡ Some b.0 = sym a.1 ∙ (ap (slice_get xs) (sym p) ∙ (f 0 (omega arith) ∙ (ap (slice_get ys) q ∙ b.1))) in
    let e : a.0 ≡ b.0 = cc in
    ap (take (suc n)) (drop_reads xs i a.0 a.1)
    ∙ (ap (λ z. z ∷ take n (drop (i + 1) xs)) e
    ∙ (ap (λ zs. b.0 ∷ zs) (same_part n (i + 1) (j + 1) xs ys (omega arith) (omega arith) (λ k h. next k h))
    ∙ sym (ap (take (suc n)) (drop_reads ys j b.0 b.1))))
  where
    there : (zs : List (List Tuple)) (k : ℕ) → k < length zs → (z : List Tuple) × (slice_get zs k ≡ Some z)
    there [] k h = absurd (omega arith)
    there (z ∷ zs) zero h = (z, refl)
    there (z ∷ zs) (suc k) h = there zs k (omega arith)

    next : (k : ℕ) → k < n → slice_get xs (i + 1 + k) ≡ slice_get ys (j + 1 + k)
    next k h =
        let p : i + 1 + k ≡ i + suc k = omega arith in
        let q : j + suc k ≡ j + 1 + k = omega arith in
        ap (slice_get xs) p ∙ (f (suc k) (omega arith) ∙ ap (slice_get ys) q)

parts : (at n : ℕ) (ts : List (List Tuple)) → take at ts ++ take n (drop at ts) ≡ take (at + n) ts
parts at n ts = sym (take-add at n ts)

module _ (xs ts : List (List Tuple)) (r : Rising xs) (s : Rising ts) (at n place : ℕ) (some : 0 < n) (room : place + n ≤ length xs) (within : at + n ≤ length ts) (same : take n (drop at ts) ≡ take n (drop place xs))
    (few : length (cuts 0 (take at ts) xs) ≤ place) where
  whole : take place xs ++ (take n (drop at ts) ++ drop (place + n) xs) ≡ xs
  whole = ap (λ zs. take place xs ++ (zs ++ drop (place + n) xs)) same ∙ take_drop_drop n place xs

  front : length (take place xs) ≡ place
  front = length-take-le place xs (omega (arith, room))

  size : length (take n (drop at ts)) ≡ n
  size = let l = length-drop at ts in length-take-le n (drop at ts) (omega (arith, l, within))

  own : Rising (take at ts ++ take n (drop at ts))
  own = subst Rising (sym (parts at n ts)) (rising_take (at + n) ts s)

  all : Rising (take place xs ++ (take n (drop at ts) ++ drop (place + n) xs))
  all = subst Rising (sym whole) r

  few' : length (cuts 0 (take at ts) (take place xs ++ (take n (drop at ts) ++ drop (place + n) xs))) ≤ length (take place xs)
  few' = let e = ap (λ zs. length (cuts 0 (take at ts) zs)) whole in let f = front in omega (arith, e, f, few)

  pub stretch_more : with_change (with_changes [] (cuts 0 (take at ts) xs)) (Delete (place - length (cuts 0 (take at ts) xs)) n) ≡ with_changes [] (cuts 0 (take (at + n) ts) xs)
  stretch_more =
      let k = size in
      let next = next_cut (take at ts) (take n (drop at ts)) (take place xs) (drop (place + n) xs) (omega (arith, k, some)) own all few' in
      sym (ap (λ zs. with_changes [] (cuts 0 zs xs)) (sym (parts at n ts))
      ∙ (sym (ap (λ zs. with_changes [] (cuts 0 (take at ts ++ take n (drop at ts)) zs)) whole)
      ∙ (next
      ∙ (ap (λ zs. with_change (with_changes [] (cuts 0 (take at ts) zs)) (Delete (length (take place xs) - length (cuts 0 (take at ts) zs)) (length (take n (drop at ts))))) whole
      ∙ (ap (λ i. with_change (with_changes [] (cuts 0 (take at ts) xs)) (Delete (i - length (cuts 0 (take at ts) xs)) (length (take n (drop at ts))))) front
      ∙ ap (λ i. with_change (with_changes [] (cuts 0 (take at ts) xs)) (Delete (place - length (cuts 0 (take at ts) xs)) i)) size)))))

  pub stretch_count : length (cuts 0 (take at ts) xs) + n ≡ length (cuts 0 (take (at + n) ts) xs)
  stretch_count =
      let k = size in
      let c = cut_count (take at ts) (take n (drop at ts)) (take place xs) (drop (place + n) xs) own all few' in
      let e = ap (λ zs. length (cuts 0 (take at ts) zs)) whole in
      let f = ap (λ zs. length (cuts 0 (take at ts ++ take n (drop at ts)) zs)) whole in
      let g = ap (λ zs. length (cuts 0 zs xs)) (parts at n ts) in
      omega (arith, c, e, f, g, k)

-- targets that are gone
pub missing_more : (xs ts : List (List Tuple)) (at end : ℕ) → at ≤ end → AreMissing (take (end - at) (drop at ts)) xs → cuts 0 (take end ts) xs ≡ cuts 0 (take at ts) xs
missing_more xs ts at end l h =
    let e : at + (end - at) ≡ end = omega arith in
    ap (λ k. cuts 0 (take k ts) xs) (sym e) ∙ (ap (λ zs. cuts 0 zs xs) (sym (parts at (end - at) ts)) ∙ cut_missing (take at ts) (take (end - at) (drop at ts)) xs h)

pub none_yet : (xs ts : List (List Tuple)) → [] ≡ with_changes [] (cuts 0 (take 0 ts) xs)
none_yet xs ts = sym (ap (with_changes []) (none_cut 0 xs))

pub none_gone : (xs ts : List (List Tuple)) → 0 ≡ length (cuts 0 (take 0 ts) xs)
none_gone xs ts = sym (ap length (none_cut 0 xs))

pub stretches_all : (xs ts : List (List Tuple)) (at : ℕ) → length ts ≤ at → with_changes [] (cuts 0 (take at ts) xs) ≡ with_changes [] (cuts 0 ts xs)
stretches_all xs ts at h = ap (λ zs. with_changes [] (cuts 0 zs xs)) (take_all at ts h)

-- no more are taken out than identifiers are below the next target
pub few_gone : (xs ts : List (List Tuple)) (at : ℕ) (x : List Tuple) → Rising xs → Rising ts → slice_get ts at ≡ Some x → length (cuts 0 (take at ts) xs) ≤ below_count xs x
few_gone xs ts at x r s g = few_cut (take at ts) x xs (subst (λ k. AllLess (take k ts) x) (at_same ts at x s g) (below_take ts x s)) r

-- how many characters were deleted
pub gone_count : (xs ts : List (List Tuple)) (cs : List Change) → cs ≡ with_changes [] (cuts 0 ts xs) → deleted_by cs ≡ length (cuts 0 ts xs)
gone_count xs ts cs e =
    let a = deleted_all [] (cuts 0 ts xs) in
    let b = cuts_delete 0 ts xs in
    ap deleted_by e ∙ omega arith

-- ---- targets that aren't there

missing_between : (a b : List (List Tuple)) (y : List Tuple) → AllLess a y → AllMore y b → has_ident (a ++ b) y ≡ false
missing_between a b y h k = (tells_append a b y false false (length a) 0 (tells_less a y h) (tells_more b y k)).0

module _ (xs ts : List (List Tuple)) (at place : ℕ) (x : List Tuple) (r : Rising xs) (s : Rising ts) (there : slice_get ts at ≡ Some x) (none : has_ident xs x ≡ false) (count : below_count xs x ≡ place) where
  before : AllLess (take place xs) x
  before = subst (λ n. AllLess (take n xs) x) count (below_take xs x r)

  behind : AllMore x (drop place xs)
  behind = subst (λ n. AllMore x (drop n xs)) count (more_drop xs x r none)

  halves : take place xs ++ drop place xs ≡ xs
  halves = take-append-drop place xs

  reads : drop at ts ≡ x ∷ drop (at + 1) ts
  reads = drop_reads ts at x there

  later : AllMore x (drop (at + 1) ts)
  later = (subst Rising reads (rising_drop at ts s)).0

  -- those above x, all of which are below what comes behind it
  all_missing : (ys : List (List Tuple)) (z : List Tuple) (zs : List (List Tuple)) → drop place xs ≡ z ∷ zs → AllMore x ys → AllLess ys z → AreMissing ys xs
  all_missing [] z zs e a b = tt
  all_missing (y ∷ ys) z zs e a b =
      let rest : Rising (z ∷ zs) = subst Rising e (rising_drop place xs r) in
      let above : AllMore y (drop place xs) = subst (AllMore y) (sym e) (b.0, more_trans y z zs b.0 rest.0) in
      (ap (λ ws. has_ident ws y) (sym halves) ∙ missing_between (take place xs) (drop place xs) y (less_trans (take place xs) x y before a.0) above, all_missing ys z zs e a.1 b.1)

  none_behind : (ys : List (List Tuple)) → drop place xs ≡ [] → AllMore x ys → AreMissing ys xs
  none_behind [] e a = tt
  none_behind (y ∷ ys) e a =
      let above : AllMore y (drop place xs) = subst (AllMore y) (sym e) tt in
      (ap (λ ws. has_ident ws y) (sym halves) ∙ missing_between (take place xs) (drop place xs) y (less_trans (take place xs) x y before a.0) above, none_behind ys e a.1)

  first_and : (k n : ℕ) → n ≡ suc k → AreMissing (take k (drop (at + 1) ts)) xs → AreMissing (take n (drop at ts)) xs
  first_and k n e h = subst (λ ys. AreMissing ys xs) (sym (ap (take n) reads ∙ ap (λ i. take i (x ∷ drop (at + 1) ts)) e)) (none, h)

  pub missing_rest : length xs ≤ place → AreMissing (take (length ts - at) (drop at ts)) xs
  missing_rest l =
      let w : at < length ts = slice_get_within ts at x there in
      let e : drop place xs ≡ [] = drop_of_length-le xs l in
      first_and (length ts - at - 1) (length ts - at) (omega (arith, w)) (none_behind (take (length ts - at - 1) (drop (at + 1) ts)) e (more_take x (length ts - at - 1) (drop (at + 1) ts) later))

  -- z comes behind x in the text
  above_it : (z : List Tuple) → slice_get xs place ≡ Some z → Lt tuples x z
  above_it z g = (subst (AllMore x) (drop_reads xs place z g) behind).0

  pub missing_later : (z : List Tuple) → slice_get xs place ≡ Some z → at < below_count ts z
  missing_later z g = at_less ts at x z s there (above_it z g)

  pub missing_gap : (z : List Tuple) → slice_get xs place ≡ Some z → AreMissing (take (below_count ts z - at) (drop at ts)) xs
  missing_gap z g =
      let l = missing_later z g in
      let n = below_count ts z - at - 1 in
      let f : at + 1 + n ≡ below_count ts z = omega (arith, l) in
      let part : drop (at + 1) (take (below_count ts z) ts) ≡ take n (drop (at + 1) ts) = ap (λ k. drop (at + 1) (take k ts)) (sym f) ∙ drop-take (at + 1) n ts in
      let less : AllLess (take n (drop (at + 1) ts)) z = subst (λ ys. AllLess ys z) part (less_drop (at + 1) (take (below_count ts z) ts) z (below_take ts z s)) in
      first_and n (below_count ts z - at) (omega (arith, l)) (all_missing (take n (drop (at + 1) ts)) z (drop (place + 1) xs) (drop_reads xs place z g) (more_take x n (drop (at + 1) ts) later) less)

-- ---- for calls

pub gap_at_end : (xs ids : List (List Tuple)) (at place total : ℕ) (x : List Tuple) → is_increasing xs ≡ true → is_increasing ids ≡ true → slice_get ids at ≡ Some x → below_count xs x ≡ place → place ≡ length xs → total ≡ length ids
    → AreAt place xs (take (total - at) (drop at ids))
gap_at_end xs ids at place total x r s g e f t =
    subst (λ n. AreAt place xs (take (n - at) (drop at ids))) (sym t) (subst (λ k. AreAt k xs (take (length ids - at) (drop at ids))) e (at_end xs ids at x (rising_of xs r) (rising_of ids s) g (e ∙ f)))

pub gap_within : (xs ids : List (List Tuple)) (at place low end : ℕ) (x z : List Tuple) → is_increasing xs ≡ true → is_increasing ids ≡ true → slice_get ids at ≡ Some x → below_count xs x ≡ place → slice_get xs place ≡ Some z
    → low ≡ below_count ids z → end ≡ max low (at + 1) → AreAt place xs (take (end - at) (drop at ids))
gap_within xs ids at place low end x z r s g e f b m =
    subst (λ k. AreAt k xs (take (end - at) (drop at ids))) e
    (at_gap xs ids at x (rising_of xs r) (rising_of ids s) g z end (ap (slice_get xs) e ∙ f) (m ∙ ap (λ n. max n (at + 1)) b))

pub missing_at_end : (xs ts : List (List Tuple)) (at place total : ℕ) (x : List Tuple) → is_increasing xs ≡ true → is_increasing ts ≡ true → slice_get ts at ≡ Some x → place_of x xs ≡ Err place → length xs ≤ place → total ≡ length ts
    → AreMissing (take (total - at) (drop at ts)) xs
missing_at_end xs ts at place total x r s g h l t =
    let m = missed_at xs x place r h in
    subst (λ n. AreMissing (take (n - at) (drop at ts)) xs) (sym t) (missing_rest xs ts at place x (rising_of xs r) (rising_of ts s) g m.0 m.1 l)

pub missing_within : (xs ts : List (List Tuple)) (at place end : ℕ) (x z : List Tuple) → is_increasing xs ≡ true → is_increasing ts ≡ true → slice_get ts at ≡ Some x → place_of x xs ≡ Err place → slice_get xs place ≡ Some z → end ≡ below_count ts z
    → (at < end) × AreMissing (take (end - at) (drop at ts)) xs
missing_within xs ts at place end x z r s g h f b =
    let m = missed_at xs x place r h in (
      subst (λ n. at < n) (sym b) (missing_later xs ts at place x (rising_of xs r) (rising_of ts s) g m.0 m.1 z f),
      subst (λ n. AreMissing (take (n - at) (drop at ts)) xs) (sym b) (missing_gap xs ts at place x (rising_of xs r) (rising_of ts s) g m.0 m.1 z f),
    )

pub cut_few : (xs ts : List (List Tuple)) (at place gone : ℕ) (x : List Tuple) → is_increasing xs ≡ true → is_increasing ts ≡ true → slice_get ts at ≡ Some x → place_of x xs ≡ Ok place → gone ≡ length (cuts 0 (take at ts) xs) → gone ≤ place
cut_few xs ts at place gone x r s g h k = let l = few_gone xs ts at x (rising_of xs r) (rising_of ts s) g in let e = (found xs x place r h).1 in omega arith

-- the next stretch is taken out
pub cut_more : (xs ts : List (List Tuple)) (at n place gone : ℕ) (cs new : List Change) → is_increasing xs ≡ true → is_increasing ts ≡ true → 0 < n → place + n ≤ length xs → at + n ≤ length ts → take n (drop at ts) ≡ take n (drop place xs) → gone ≤ place
    → gone ≡ length (cuts 0 (take at ts) xs) → cs ≡ with_changes [] (cuts 0 (take at ts) xs) → new ≡ with_change cs (Delete (place - gone) n)
    → (new ≡ with_changes [] (cuts 0 (take (at + n) ts) xs)) × (gone + n ≡ length (cuts 0 (take (at + n) ts) xs))
cut_more xs ts at n place gone cs new r s some room within same few k c e =
    let f : length (cuts 0 (take at ts) xs) ≤ place = omega arith in
    let m = stretch_more xs ts (rising_of xs r) (rising_of ts s) at n place some room within same f in
    let q = stretch_count xs ts (rising_of xs r) (rising_of ts s) at n place some room within same f in (
      e ∙ (ap (λ zs. with_change zs (Delete (place - gone) n)) c ∙ (ap (λ i. with_change (with_changes [] (cuts 0 (take at ts) xs)) (Delete (place - i) n)) k ∙ m)),
      omega arith,
    )

pub cut_none : (xs ts : List (List Tuple)) (at end gone : ℕ) (cs : List Change) → at ≤ end → AreMissing (take (end - at) (drop at ts)) xs → gone ≡ length (cuts 0 (take at ts) xs) → cs ≡ with_changes [] (cuts 0 (take at ts) xs)
    → (cs ≡ with_changes [] (cuts 0 (take end ts) xs)) × (gone ≡ length (cuts 0 (take end ts) xs))
cut_none xs ts at end gone cs l h k c =
    let e = sym (missing_more xs ts at end l h) in
    (c ∙ ap (with_changes []) e, k ∙ ap length e)

-- there is room for what is deleted
pub cut_room : (xs ts : List (List Tuple)) (at n place gone : ℕ) (cs : List Change) → gone ≤ place → place + n ≤ length xs → gone ≡ length (cuts 0 (take at ts) xs) → cs ≡ with_changes [] (cuts 0 (take at ts) xs) → deleted_by cs + n ≤ length xs
cut_room xs ts at n place gone cs l room k c = let d = gone_count xs (take at ts) cs c in omega arith

-- a part of a text, by the identifiers with which it begins
pub part_length : (n p : ℕ) (xs there : List (List Tuple)) → there ≡ take n (drop p xs) → p + n ≤ length xs → length there ≡ n
part_length n p xs there e l = let d = length-drop p xs in ap length e ∙ length-take-le n (drop p xs) (omega arith)

pub part_reads : (n p k : ℕ) (xs there : List (List Tuple)) → there ≡ take n (drop p xs) → k < n → slice_get there k ≡ slice_get xs (p + k)
part_reads n p k xs there e l = ap (λ zs. slice_get zs k) e ∙ (front n k (drop p xs) l ∙ behind p k xs)
  where
    front : (m i : ℕ) (ys : List (List Tuple)) → i < m → slice_get (take m ys) i ≡ slice_get ys i
    front zero i ys h = absurd (omega arith)
    front (suc m) i [] h = refl
    front (suc m) zero (y ∷ ys) h = refl
    front (suc m) (suc i) (y ∷ ys) h = front m i ys (omega arith)

    behind : (m i : ℕ) (ys : List (List Tuple)) → slice_get (drop m ys) i ≡ slice_get ys (m + i)
    behind zero i ys = let e : i ≡ 0 + i = omega arith in ap (slice_get ys) e
    behind (suc m) i [] = refl
    behind (suc m) i (y ∷ ys) = let e : suc (m + i) ≡ suc m + i = omega arith in behind m i ys ∙ ap (slice_get (y ∷ ys)) e

pub stretch_same : (xs ts there : List (List Tuple)) (at place most n : ℕ) → there ≡ take most (drop place xs) → place + most ≤ length xs → at + n ≤ length ts → n ≤ most → ((k : ℕ) → k < n → slice_get ts (at + k) ≡ slice_get there (0 + k))
    → take n (drop at ts) ≡ take n (drop place xs)
stretch_same xs ts there at place most n e room within few f =
    same_part n at place ts xs within (omega arith) (λ k h.
    let z : 0 + k ≡ k = omega arith in
    f k h ∙ (ap (slice_get there) z ∙ part_reads most place k xs there e (omega arith)))

-- ---- what an operation that may be applied has

pub epoch_kept : (s : Seen) (o : Op) → MayApply s o → IsTrue (keeps s o.epoch)
epoch_kept s o m = (facts s o m).kept

-- no more characters than an insertion may have
pub few_chars : (n : ℕ) (o : Op) (first : List Tuple) (text : List ℕ) → shape_fault n o ≡ None → o.body ≡ body.Insert first text → length text ≤ CHARACTERS
few_chars n o first text h e = not_lt_is CHARACTERS (length text) (ap (λ b. nat_lt (body_limit b) (body_len b)) (sym e) ∙ (shaped n o h).few)

-- ---- the changes of an operation, by what was found

pub insert_found : (s : Seen) (e : EpochName) (first : List Tuple) (text : List ℕ) (n : ℕ) (ids there : List (List Tuple)) (cs : List Change) → n ≡ length text → ids ≡ run_idents first n → there ≡ map (placed_over s e) ids
    → cs ≡ with_changes [] (puts 0 (idents_over s) (zip there text)) → cs ≡ changes_by (placed_over s) (idents_over s) e (body.Insert first text)
insert_found s e first text n ids there cs l i t h =
    let p : there ≡ map (placed_over s e) (run_idents first (length text)) = t ∙ (ap (map (placed_over s e)) i ∙ ap (λ k. map (placed_over s e) (run_idents first k)) l) in
    h ∙ ap (λ zs. with_changes [] (puts 0 (idents_over s) (zip zs text))) p

pub there_length : (s : Seen) (e : EpochName) (first : List Tuple) (text : List ℕ) (n : ℕ) (ids there : List (List Tuple)) → n ≡ length text → ids ≡ run_idents first n → there ≡ map (placed_over s e) ids → length there ≡ length text
there_length s e first text n ids there l i t = ap length t ∙ (length-map ids (placed_over s e) ∙ (ap length i ∙ (run_length first n ∙ l)))

pub delete_found : (s : Seen) (e : EpochName) (targets there : List (List Tuple)) (cs : List Change) → there ≡ map (placed_over s e) targets → cs ≡ with_changes [] (cuts 0 there (idents_over s))
    → cs ≡ changes_by (placed_over s) (idents_over s) e (body.Delete targets)
delete_found s e targets there cs t h = h ∙ ap (λ zs. with_changes [] (cuts 0 zs (idents_over s))) t
