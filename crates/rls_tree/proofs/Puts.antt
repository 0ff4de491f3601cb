-- Entries put in where there is a gap for them, and one after another.
use Rattle.std.proofs.Common.{◌≡◌, ℕ, zero, suc, ◌+◌, ◌-◌, ◌<◌, ◌≤◌, inr, true, false, List, [], ◌∷◌, ◌++◌, length, take, drop, Some, Ok, Err, slice_get, refl, sym, ap, ◌∙◌, subst, arith, length-drop, append_assoc}
use Rattle.std.specs.Prelude.{if◌then◌else◌, pos}
use Rattle.std.proofs.lemmas.List.{take-append-drop, append-nil, drop-take, length-take-le, length-map, drop-drop, take-map, drop-map}
use Rattle.std.proofs.Math.ListN.{drop_of_length-le}
use Rattle.std.proofs.Math.Seq.{take-append_seam, drop-append_seam}
use Rattle.rls_ident.specs.declared.tuple.Tuple.{Tuple}
use Rattle.rls_ident.specs.Identifiers.{ident_lt, shifted}
use Rattle.rls_runs.specs.Runs.{run_idents, run_last, idents_of, is_increasing, is_run, place_of}
use Rattle.rls_runs.specs.Entries.{Entries, idents_in, has_ident, put, put_all}
use Rattle.rls_runs.specs.Places.{below_count, find_ident}
use Rattle.rls_runs.proofs.Finding.{run_length}
use Rattle.rls_runs.proofs.RunEnds.{count_most}
use Rattle.rls_runs.proofs.RunLists.{place_most}
use Rattle.rls_runs.proofs.RunPlaces.{found_is}
use Rattle.rls_ident.proofs.Lists.{Lt}
use Rattle.rls_ident.proofs.Tuples.{tuples}
use Rattle.rls_runs.proofs.RunOrder.{AllLess, AllMore, Rising, lt_of, of_lt, run_less, last_at, increasing_of, run_rising, run_ident, run_gets, run_some, rising_left, rising_right, rising_of}
use Rattle.rls_runs.proofs.Sorted.{Entry}
use Rattle.rls_doc.specs.Documents.{AreNew}
use Rattle.rls_blocks.specs.Trees.{Piece, ArePieces, piece_entries, entries_of}
use Rattle.rls_blocks.specs.Edits.{part_of, inserted, located}
use Rattle.rls_tree.specs.Gaps.{gap_end}
use Rattle.rls_blocks.proofs.Changes.{thirds}
use Rattle.rls_blocks.proofs.Taken.{single_run}
use Rattle.rls_blocks.proofs.AtPlaces.{part_exact, part_at, piece_idents, idents_append, run_part}
use Rattle.rls_runs.proofs.Gaps.{lt_false, below_take, more_drop, at_less, read_err, read_ok, AreBelow, below_from, below_none, rising_three, rising_below, firsts_less, rests_below, one_below, left_below, less_drop, rising_drop, rising_take}
use Rattle.rls_ident.proofs.Loops.{drop_reads}
use Rattle.std.proofs.lemmas.Option.{slice_get_within}

-- ---- one gap

put_here : (f g : Entries) (e : Entry) → AllLess (idents_in f) e.0 → AllMore e.0 (idents_in g) → put e (f ++ g) ≡ f ++ e ∷ g
put_here [] [] e h k = refl
put_here [] (x ∷ g) e h k = ap (λ b. if b then x ∷ put e g else e ∷ x ∷ g) (lt_false x.0 e.0 k.0)
put_here (a ∷ f) g e h k = ap (λ b. if b then a ∷ put e (f ++ g) else e ∷ a ∷ (f ++ g)) (of_lt a.0 e.0 h.0) ∙ ap (λ es. a ∷ es) (put_here f g e h.1 k)

pub put_gap : (f p g : Entries) → AreBelow (idents_in f) (idents_in p) → AreBelow (idents_in p) (idents_in g) → Rising (idents_in p) → put_all p (f ++ g) ≡ f ++ p ++ g
put_gap f [] g h k r = ap (λ es. es ++ g) (sym (append-nil f))
put_gap f (e ∷ p) g h k r =
    ap (put_all p) (put_here f g e (firsts_less (idents_in f) e.0 (idents_in p) h) k.0 ∙ sym (append_assoc f (e ∷ []) g))
    ∙ put_gap (f ++ e ∷ []) p g (subst (λ xs. AreBelow xs (idents_in p)) (sym (idents_append f (e ∷ []))) (one_below (idents_in f) e.0 (idents_in p) (rests_below (idents_in f) e.0 (idents_in p) h) r.0)) k.1 r.1
    ∙ ap (λ es. es ++ g) (append_assoc f (e ∷ []) p)

-- ---- the gap for identifiers of a rising list, from one of them on

pub headed : {X : Type 0} (k : ℕ) (xs : List X) (y : X) → slice_get xs k ≡ Some y → drop k xs ≡ y ∷ drop (suc k) xs
headed k xs y g = let s : k + 1 ≡ suc k = omega arith in drop_reads xs k y g ∙ ap (λ j. y ∷ drop j xs) s

module _ (xs ids : List (List Tuple)) (i done : ℕ) (first : List Tuple) (rising : Rising xs) (own : Rising ids) (at : slice_get ids done ≡ Some first) (found : find_ident xs first ≡ Err i) where
  places : (has_ident xs first ≡ false) × (below_count xs first ≡ i)
  places = read_err xs first i found

  front_less : AllLess (take i xs) first
  front_less = subst (λ n. AllLess (take n xs) first) places.1 (below_take xs first rising)

  rest_more : AllMore first (drop i xs)
  rest_more = subst (λ n. AllMore first (drop n xs)) places.1 (more_drop xs first rising places.0)

  pub ends_later : done < gap_end ids (drop i xs)
  ends_later = go (drop i xs) rest_more
    where
      go : (rest : List (List Tuple)) → AllMore first rest → done < gap_end ids rest
      go [] m = slice_get_within ids done first at
      go (x ∷ rest) m = at_less ids done first x own at m.0

  pub ends_within : gap_end ids (drop i xs) ≤ length ids
  ends_within = go (drop i xs)
    where
      go : (rest : List (List Tuple)) → gap_end ids rest ≤ length ids
      go [] = omega arith
      go (x ∷ rest) = count_most ids x

  pub part_rising : Rising (take (gap_end ids (drop i xs) - done) (drop done ids))
  part_rising = rising_take (gap_end ids (drop i xs) - done) (drop done ids) (rising_drop done ids own)

  pub front_below : AreBelow (take i xs) (take (gap_end ids (drop i xs) - done) (drop done ids))
  front_below =
      let l = ends_later in
      let n : gap_end ids (drop i xs) - done ≡ suc (gap_end ids (drop i xs) - done - 1) = omega (arith, l) in
      let e : take (gap_end ids (drop i xs) - done) (drop done ids) ≡ first ∷ take (gap_end ids (drop i xs) - done - 1) (drop (suc done) ids) =
      ap (λ zs. take (gap_end ids (drop i xs) - done) zs) (headed done ids first at) ∙ ap (λ k. take k (first ∷ drop (suc done) ids)) n in
      let r = subst Rising e part_rising in
      subst (AreBelow (take i xs)) (sym e) (below_from (take i xs) first (take (gap_end ids (drop i xs) - done - 1) (drop (suc done) ids)) front_less r.0)

  pub part_below : AreBelow (take (gap_end ids (drop i xs) - done) (drop done ids)) (drop i xs)
  part_below = go (drop i xs) (rising_drop i xs rising) (ends_later)
    where
      go : (rest : List (List Tuple)) → Rising rest → done < gap_end ids rest → AreBelow (take (gap_end ids rest - done) (drop done ids)) rest
      go [] r l = below_none (take (gap_end ids [] - done) (drop done ids))
      go (x ∷ rest) r l =
          let n : done + (below_count ids x - done) ≡ below_count ids x = omega (arith, l) in
          let e : drop done (take (below_count ids x) ids) ≡ take (below_count ids x - done) (drop done ids) = ap (λ k. drop done (take k ids)) (sym n) ∙ drop-take done (below_count ids x - done) ids in
          below_from (take (below_count ids x - done) (drop done ids)) x rest (subst (λ zs. AllLess zs x) e (less_drop done (take (below_count ids x) ids) x (below_take ids x own))) r.0

-- ---- entries and their identifiers

pub idents_take : (n : ℕ) (es : Entries) → idents_in (take n es) ≡ take n (idents_in es)
idents_take n es = sym (take-map (λ e. e.0) n es)

pub idents_drop : (n : ℕ) (es : Entries) → idents_in (drop n es) ≡ drop n (idents_in es)
idents_drop n es = sym (drop-map (λ e. e.0) n es)

pub idents_inserted : (i : ℕ) (p es : Entries) → idents_in (inserted i p es) ≡ take i (idents_in es) ++ (idents_in p ++ drop i (idents_in es))
idents_inserted i p es =
    idents_append (take i es ++ p) (drop i es) ∙ ap (λ xs. xs ++ idents_in (drop i es)) (idents_append (take i es) p) ∙ append_assoc (idents_in (take i es)) (idents_in p) (idents_in (drop i es))
    ∙ ap (λ xs. xs ++ (idents_in p ++ idents_in (drop i es))) (idents_take i es) ∙ ap (λ xs. take i (idents_in es) ++ (idents_in p ++ xs)) (idents_drop i es)

-- entries whose identifiers rise where they are put in
pub put_inserted : (i : ℕ) (p es : Entries) → Rising (take i (idents_in es) ++ (idents_in p ++ drop i (idents_in es))) → put_all p es ≡ inserted i p es
put_inserted i p es r =
    let f = take i es in
    let g = drop i es in
    let q : Rising (idents_in f ++ (idents_in p ++ idents_in g)) = subst (λ xs. Rising (xs ++ (idents_in p ++ idents_in g))) (sym (idents_take i es)) (subst (λ xs. Rising (take i (idents_in es) ++ (idents_in p ++ xs))) (sym (idents_drop i es)) r) in
    let s = rising_right (idents_in f) (idents_in p ++ idents_in g) q in
    ap (put_all p) (sym (take-append-drop i es)) ∙ put_gap f p g (left_below (idents_in f) (idents_in p) (idents_in g) (rising_below (idents_in f) (idents_in p ++ idents_in g) q)) (rising_below (idents_in p) (idents_in g) s) (rising_left (idents_in p) (idents_in g) s)

-- a part of a block is a part of its entries
pub part_taken : (b : Piece) (k n : ℕ) → length b.1 ≡ b.0.1 → k + n ≤ b.0.1 → piece_entries (part_of k n b) ≡ take n (drop k (piece_entries b))
part_taken b k n m h =
    let x = piece_entries (part_of 0 k b) in
    let z = piece_entries (part_of k n b) in
    let y = piece_entries (part_of (k + n) (b.0.1 - (k + n)) b) in
    let l = part_exact b 0 k m (omega arith) in
    let o = part_exact b k n m h in
    sym (ap (λ es. take n (drop k es)) (thirds b k n m h) ∙ ap (λ j. take n (drop j (x ++ (z ++ y)))) (sym l) ∙ ap (take n) (drop-append_seam x (z ++ y)) ∙ ap (λ j. take j (z ++ y)) (sym o) ∙ take-append_seam z y)

-- identifiers of the block of a place
pub idents_located : (bs : List Piece) (i at k : ℕ) (b : Piece) → ArePieces bs → located bs i ≡ Some (b, at) → length b.1 ≡ b.0.1 → at + k ≤ b.0.1 → 0 < k → take k (drop i (idents_in (entries_of bs))) ≡ run_idents (shifted (pos at) b.0.0) k
idents_located bs i at k b h e m l some =
    let part = part_at bs i at k b h e (omega (arith, m, l)) some in
    sym (idents_take k (drop i (entries_of bs)) ∙ ap (take k) (idents_drop i (entries_of bs))) ∙ ap idents_in part.0
    ∙ idents_take k (drop at (piece_entries b)) ∙ ap (take k) (idents_drop at (piece_entries b) ∙ ap (drop at) (piece_idents b m)) ∙ run_part b.0.0 b.0.1 at k l

-- ---- a run between two neighbours

pub run_ends : (xs : List (List Tuple)) (i : ℕ) (x : List Tuple) (r : List Tuple × ℕ) → Rising xs → slice_get xs i ≡ Some x → is_run r ≡ true → ident_lt (run_last r) x ≡ true → AreBelow (run_idents r.0 r.1) (drop i xs)
run_ends xs i x (y, zero) h g s e = absurd (let m = run_some (y, zero) s in omega (arith, m))
run_ends xs i x (y, suc n) h g s e =
    let at = headed i xs x g in
    let less : AllLess (run_idents y (suc n)) x = run_less y n x (run_ident (y, suc n) s) (subst (λ z. Lt tuples z x) (last_at y n) (lt_of (run_last (y, suc n)) x e)) in
    subst (AreBelow (run_idents y (suc n))) (sym at) (below_from (run_idents y (suc n)) x (drop (suc i) xs) less (subst Rising at (rising_drop i xs h)).0)

pub run_fits : (xs : List (List Tuple)) (i : ℕ) (r : List Tuple × ℕ) → Rising xs → is_run r ≡ true → AllLess (take i xs) r.0 → AreBelow (run_idents r.0 r.1) (drop i xs) → is_increasing (take i xs ++ (run_idents r.0 r.1 ++ drop i xs)) ≡ true
run_fits xs i (y, zero) h s f b = absurd (let m = run_some (y, zero) s in omega (arith, m))
run_fits xs i (y, suc n) h s f b =
    let own = run_rising y (suc n) (run_ident (y, suc n) s) in
    let front = below_from (take i xs) y (run_idents (shifted (pos 1) y) n) f own.0 in
    increasing_of (take i xs ++ (run_idents y (suc n) ++ drop i xs)) (rising_three (take i xs) (run_idents y (suc n)) (drop i xs) (subst Rising (sym (take-append-drop i xs)) h) own front b)

-- ---- entries put in from a place of theirs on

pub parted : (at n : ℕ) (es : Entries) → drop at es ≡ take n (drop at es) ++ drop (at + n) es
parted at n es = sym (take-append-drop n (drop at es)) ∙ ap (λ zs. take n (drop at es) ++ zs) (drop-drop n at es)

-- ---- none of the rest is there yet

pub new_second : (xs ys zs : List (List Tuple)) → AreNew (xs ++ ys) zs → AreNew ys zs
new_second [] ys zs h = h
new_second (x ∷ xs) ys zs h = new_second xs ys zs h.1

-- ---- the next identifiers of a run that go into one gap

module _ (es : Entries) (r : List Tuple × ℕ) (i done : ℕ) (incr : is_increasing (idents_in es) ≡ true) (sound : is_run r ≡ true) (short : done < r.1) (first : List Tuple) (first_is : first ≡ shifted (pos done) r.0) where
  own_rising : Rising (run_idents r.0 r.1)
  own_rising = run_rising r.0 r.1 (run_ident r sound)

  first_at : slice_get (run_idents r.0 r.1) done ≡ Some first
  first_at = run_gets r.0 r.1 done short ∙ ap Some (sym first_is)

  -- it isn't there
  pub not_there : (k : ℕ) → place_of first (idents_in es) ≡ Ok k → AreNew (drop done (run_idents r.0 r.1)) (idents_in es) → ⊥
  not_there k h new =
      let f = read_ok (idents_in es) first k (found_is (idents_in es) first (rising_of (idents_in es) incr) ∙ h) in
      let n = subst (λ zs. AreNew zs (idents_in es)) (headed done (run_idents r.0 r.1) first first_at) new in
      let g = f.0 in let m = n.0 in absurd (cc)

  module _ (gap : place_of first (idents_in es) ≡ Err i) where
    found : find_ident (idents_in es) first ≡ Err i
    found = found_is (idents_in es) first (rising_of (idents_in es) incr) ∙ gap

    pub next_later : done < gap_end (run_idents r.0 r.1) (drop i (idents_in es))
    next_later = ends_later (idents_in es) (run_idents r.0 r.1) i done first (rising_of (idents_in es) incr) own_rising first_at found

    pub next_within : gap_end (run_idents r.0 r.1) (drop i (idents_in es)) ≤ r.1
    next_within = let w = ends_within (idents_in es) (run_idents r.0 r.1) i done first (rising_of (idents_in es) incr) own_rising first_at found in let l = run_length r.0 r.1 in omega (arith, w, l)

    module _ (text : List ℕ) (many : length text ≡ r.1) (end : ℕ) (end_is : end ≡ gap_end (run_idents r.0 r.1) (drop i (idents_in es))) (p : Piece) (p_is : p ≡ part_of done (end - done) (r, text)) where
      pub part_is : piece_entries p ≡ take (end - done) (drop done (piece_entries (r, text)))
      part_is = ap piece_entries p_is ∙ part_taken (r, text) done (end - done) many (let l = next_later in let w = next_within in omega (arith, l, w, end_is))

      part_idents : idents_in (piece_entries p) ≡ take (gap_end (run_idents r.0 r.1) (drop i (idents_in es)) - done) (drop done (run_idents r.0 r.1))
      part_idents =
          ap idents_in part_is ∙ idents_take (end - done) (drop done (piece_entries (r, text))) ∙ ap (take (end - done)) (idents_drop done (piece_entries (r, text)) ∙ ap (drop done) (piece_idents (r, text) many))
          ∙ ap (λ n. take (n - done) (drop done (run_idents r.0 r.1))) end_is

      pub next_below : AreBelow (idents_in (piece_entries p)) (drop i (idents_in es))
      next_below = subst (λ zs. AreBelow zs (drop i (idents_in es))) (sym part_idents) (part_below (idents_in es) (run_idents r.0 r.1) i done first (rising_of (idents_in es) incr) own_rising first_at found)

-- all identifiers in front of the place of one that isn't there are less
pub first_above : (es : Entries) (i : ℕ) (first : List Tuple) → is_increasing (idents_in es) ≡ true → place_of first (idents_in es) ≡ Err i → AllLess (take i (idents_in es)) first
first_above es i first incr gap =
    let xs = idents_in es in
    let rising = rising_of xs incr in
    subst (λ n. AllLess (take n xs) first) (read_err xs first i (found_is xs first rising ∙ gap)).1 (below_take xs first rising)

pub whole_place : (es : Entries) (i : ℕ) (first : List Tuple) → is_increasing (idents_in es) ≡ true → place_of first (idents_in es) ≡ Err i → i ≤ length es
whole_place es i first incr gap =
    let m = place_most (idents_in es) first i (inr (found_is (idents_in es) first (rising_of (idents_in es) incr) ∙ gap)) in
    let l = length-map es (λ e. e.0) in
    omega (arith, m, l)

-- ---- the identifiers of a gap's end

pub end_none : (es : Entries) (ids : List (List Tuple)) (i : ℕ) → i ≡ length es → gap_end ids (drop i (idents_in es)) ≡ length ids
end_none es ids i h = ap (gap_end ids) (drop_of_length-le (idents_in es) (let l = length-map es (λ e. e.0) in omega (arith, h, l)))

pub end_some : (es : Entries) (ids : List (List Tuple)) (i : ℕ) (x : List Tuple) → slice_get (idents_in es) i ≡ Some x → gap_end ids (drop i (idents_in es)) ≡ below_count ids x
end_some es ids i x g = ap (gap_end ids) (headed i (idents_in es) x g)

-- ---- entries taken from a place on

pub taken_length : (at n : ℕ) (es : Entries) → at + n ≤ length es → length (take n (drop at es)) ≡ n
taken_length at n es h = let l = length-drop at es in length-take-le n (drop at es) (omega (arith, h, l))

pub new_now : (at n : ℕ) (added : Entries) (zs : List (List Tuple)) → AreNew (idents_in (drop at added)) zs → AreNew (idents_in (take n (drop at added))) zs
new_now at n added zs h = go (idents_in (take n (drop at added))) (idents_in (drop (at + n) added)) (subst (λ xs. AreNew xs zs) (ap idents_in (parted at n added) ∙ idents_append (take n (drop at added)) (drop (at + n) added)) h)
  where
    go : (xs ys : List (List Tuple)) → AreNew (xs ++ ys) zs → AreNew xs zs
    go [] ys k = tt
    go (x ∷ xs) ys k = (k.0, go xs ys k.1)

pub get_drop : {X : Type 0} (m j : ℕ) (xs : List X) → slice_get (drop m xs) j ≡ slice_get xs (m + j)
get_drop zero j xs = ap (slice_get xs) (omega arith)
get_drop (suc m) j [] = refl
get_drop (suc m) j (x ∷ xs) = let s : suc (m + j) ≡ suc m + j = omega arith in get_drop m j xs ∙ ap (slice_get (x ∷ xs)) s

-- ---- one run that goes in at a place

module _ (es : Entries) (i : ℕ) (x : List Tuple) (cs : List ℕ) (rises : is_increasing (take i (idents_in es) ++ (run_idents x (length cs) ++ drop i (idents_in es))) ≡ true) where
  same : take i (idents_in es) ++ (run_idents x (length cs) ++ drop i (idents_in es)) ≡ take i (idents_in es) ++ (idents_in (piece_entries ((x, length cs), cs)) ++ drop i (idents_in es))
  same = ap (λ zs. take i (idents_in es) ++ (zs ++ drop i (idents_in es))) (sym (piece_idents ((x, length cs), cs) refl))

  pub run_rises : is_increasing (idents_in (inserted i (piece_entries ((x, length cs), cs)) es)) ≡ true
  run_rises = ap is_increasing (idents_inserted i (piece_entries ((x, length cs), cs)) es ∙ sym same) ∙ rises

  pub run_put : put_all (piece_entries ((x, length cs), cs)) es ≡ inserted i (piece_entries ((x, length cs), cs)) es
  run_put = put_inserted i (piece_entries ((x, length cs), cs)) es (subst Rising same (rising_of (take i (idents_in es) ++ (run_idents x (length cs) ++ drop i (idents_in es))) rises))

-- ---- one run as a list of runs

pub one_run : (rs : List (List Tuple × ℕ)) (r : List Tuple × ℕ) → rs ≡ r ∷ [] → idents_of rs ≡ run_idents r.0 r.1
one_run rs r e = ap idents_of e ∙ append-nil (run_idents r.0 r.1)

-- the only run of a list, whose first identifier is this one, and which has as many as there are characters
module _ (rs : List (List Tuple × ℕ)) (r : List Tuple × ℕ) (x : List Tuple) (cs : List ℕ) (one : length rs ≡ 1) (there : slice_get rs 0 ≡ Some r) (many : length (idents_of rs) ≡ length cs) (first : x ≡ r.0) where
  only_length : r.1 ≡ length cs
  only_length = sym (run_length r.0 r.1) ∙ ap length (sym (single_run rs r one there)) ∙ many

  pub only_sound : is_run r ≡ true → is_run (x, length cs) ≡ true
  only_sound h = subst (λ k. is_run (x, k) ≡ true) only_length (subst (λ y. is_run (y, r.1) ≡ true) (sym first) h)

  pub only_idents : idents_of rs ≡ run_idents x (length cs)
  only_idents = single_run rs r one there ∙ ap (λ k. run_idents r.0 k) only_length ∙ ap (λ y. run_idents y (length cs)) (sym first)
