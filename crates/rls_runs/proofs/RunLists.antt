-- What the calls of a list of runs need of what it keeps.
use Rattle.std.proofs.Common.{◌≡◌, ℕ, zero, suc, ◌+◌, ◌-◌, ◌<◌, ◌≤◌, Bool, true, false, List, [], ◌∷◌, ◌++◌, append_assoc, length, take, drop, get_or, set, Some, None, Ok, Err, slice_get, refl, sym, ap, ◌∙◌, subst, inl, inr, ◌⊎◌, ⊎_elim, arith}
use Rattle.std.specs.Prelude.{pos, ◌^◌, if◌then◌else◌}
use Rattle.std.specs.List.{list_all}
use Rattle.std.proofs.Math.Seq.{drop-append-add, drop-append_seam}
use Rattle.std.proofs.lemmas.Bool.{cases_lt}
use Rattle.std.proofs.lemmas.Int.{ints}
use Rattle.std.proofs.lemmas.Option.{slice_get_within, slice_get-get_or, slice_get_read}
use Rattle.rls_ident.specs.declared.tuple.Tuple.{Tuple}
use Rattle.rls_ident.specs.Identifiers.{ident_lt, shifted}
use Rattle.rls_ident.proofs.Members.{some_is}
use Rattle.rls_runs.specs.Runs.{place_of, run_idents, runs_of, idents_of, is_apart, are_apart, run_before, is_run, run_last, AreRuns, AreIdents}
use Rattle.rls_runs.specs.Entries.{has_ident}
use Rattle.rls_runs.specs.Places.{below_count, find_ident, first_len, last_ident, is_above, touches}
use Rattle.rls_runs.proofs.Finding.{run_length}
use Rattle.rls_runs.proofs.RunOrder.{Rising, increasing_of, idents_rise, all_idents, sound_at, idents_append, behind_apart}
use Rattle.rls_runs.proofs.RunPlaces.{moved, found_is, IsFirst, find_first, find_among, split_at, start_at, starts_length, next_start, within_total, last_total, ident_at}
use Rattle.rls_runs.proofs.RunJoins.{apart_by_last, idents_longer, run_longer, runs_longer}
use Rattle.rls_runs.proofs.RunsOf.{IsFree, free_of, runs_of_idents, runs_of_run, shifted_shifted}
use Rattle.rls_runs.proofs.RunEnds.{count_most, last_is, last_run, touched_is, longer_is, run_short}

-- the number in a search's answer is at most the length
pub place_most : (xs : List (List Tuple)) (y : List Tuple) (i : ℕ) → (find_ident xs y ≡ Ok i) ⊎ (find_ident xs y ≡ Err i) → i ≤ length xs
place_most xs y i h = go (has_ident xs y) refl h (count_most xs y)
  where
    go : (b : Bool) → has_ident xs y ≡ b → ((if b then Ok (below_count xs y) else Err (below_count xs y)) ≡ Ok i) ⊎ ((if b then Ok (below_count xs y) else Err (below_count xs y)) ≡ Err i) → below_count xs y ≤ length xs → i ≤ length xs
    go true e (inl q) m = let f : below_count xs y ≡ i = cc in omega arith
    go true e (inr q) m = absurd (cc)
    go false e (inl q) m = absurd (cc)
    go false e (inr q) m = let f : below_count xs y ≡ i = cc in omega arith

first_dropped : (y : List Tuple) (n : ℕ) (rs : List (List Tuple × ℕ)) → ((q : List Tuple × ℕ) → slice_get rs n ≡ Some q → ident_lt y q.0 ≡ true) → IsFirst y (drop n rs)
first_dropped y zero [] h = tt
first_dropped y zero (q ∷ rs) h = h q refl
first_dropped y (suc n) [] h = tt
first_dropped y (suc n) (q ∷ rs) h = first_dropped y n rs h

ends_in : (rs : List (List Tuple × ℕ)) → 0 < length rs → (q : List Tuple × ℕ) × (slice_get rs (length rs - 1) ≡ Some q)
ends_in [] h = absurd (omega arith)
ends_in (q ∷ rs) h = (get_or (q ∷ rs) (length (q ∷ rs) - 1) q, slice_get-get_or (q ∷ rs) (length (q ∷ rs) - 1) q (omega arith))

module _ (rs : List (List Tuple × ℕ)) (starts : List ℕ) (total : ℕ) (a : AreRuns rs starts total) where
  pub starts_long : length starts ≡ length rs
  starts_long = ap length a.starts_are ∙ starts_length 0 rs

  pub start_is : (k d : ℕ) → k < length rs → get_or starts k d ≡ length (idents_of (take k rs))
  start_is k d h = ap (λ xs. get_or xs k d) a.starts_are ∙ start_at 0 rs k d h ∙ omega arith

  pub sound_get : (k : ℕ) (r : List Tuple × ℕ) → slice_get rs k ≡ Some r → is_run r ≡ true
  sound_get k r g = sound_at (take k rs) r (drop (k + 1) rs) (subst (λ xs. list_all is_run xs ≡ true) (sym (split_at rs k r g)) a.sound)

  pub last_there : (xs : List (List Tuple)) → idents_of rs ≡ xs → (r : List Tuple × ℕ) → slice_get rs (length rs - 1) ≡ Some r → last_ident xs ≡ Some (run_last r)
  last_there xs e r g = ap last_ident (sym e) ∙ last_run rs r g (sound_get (length rs - 1) r g)

  pub fits_total : (k d : ℕ) (r : List Tuple × ℕ) → slice_get rs k ≡ Some r → get_or starts k d + r.1 ≤ total
  fits_total k d r g = let s = start_is k d (slice_get_within rs k r g) in let w = within_total rs k r g in let t = a.total_is in omega arith

  pub are_idents : AreIdents (idents_of rs)
  are_idents = (all_idents rs a.sound, increasing_of (idents_of rs) (idents_rise None rs a.apart a.sound))

  pub rising : Rising (idents_of rs)
  rising = idents_rise None rs a.apart a.sound

  pub is_place : (xs : List (List Tuple)) → idents_of rs ≡ xs → (y : List Tuple) → find_ident xs y ≡ place_of y xs
  is_place xs e y = found_is xs y (subst Rising e rising)

  -- an identifier less than the first one
  pub none_found : (y : List Tuple) → ((q : List Tuple × ℕ) → slice_get rs 0 ≡ Some q → ident_lt y q.0 ≡ true) → Err 0 ≡ find_ident (idents_of rs) y
  none_found y h = sym (find_first rs y a.apart a.sound (first_dropped y 0 rs h))

  -- an identifier from the first one of a run on, and less than that of the next
  pub found_in : (k d : ℕ) (r : List Tuple × ℕ) (y : List Tuple) → slice_get rs k ≡ Some r → ident_lt y r.0 ≡ false → ((q : List Tuple × ℕ) → slice_get rs (k + 1) ≡ Some q → ident_lt y q.0 ≡ true) →
      moved (get_or starts k d) (find_ident (run_idents r.0 r.1) y) ≡ find_ident (idents_of rs) y
  found_in k d r y g n h =
      let e = split_at rs k r g in
      let p = subst (λ xs. are_apart None xs ≡ true) (sym e) a.apart in
      let q = subst (λ xs. list_all is_run xs ≡ true) (sym e) a.sound in
      ap (λ s. moved s (find_ident (run_idents r.0 r.1) y)) (start_is k d (slice_get_within rs k r g))
      ∙ sym (find_among (take k rs) r (drop (k + 1) rs) y p q n (first_dropped y (k + 1) rs h))
      ∙ ap (λ xs. find_ident (idents_of xs) y) e

  -- a place from the start of a run on, and before the next one's start
  pub in_run : (k d e i : ℕ) (r : List Tuple × ℕ) → slice_get rs k ≡ Some r → (k + 1 < length starts → i < get_or starts (k + 1) e) → i < length (idents_of rs) → i < get_or starts k d + r.1
  in_run k d e i r g h l =
      let s = start_is k d (slice_get_within rs k r g) in
      ⊎_elim (λ m. let t = start_is (k + 1) e m in let n = next_start rs k r g in let w = h (subst (λ z. k + 1 < z) (sym starts_long) m) in omega arith)
      (λ m. let t = last_total rs k r g m in omega arith) (cases_lt (k + 1) (length rs))

  pub ident_is : (k d i : ℕ) (r : List Tuple × ℕ) → slice_get rs k ≡ Some r → get_or starts k d ≤ i → i < get_or starts k d + r.1 → slice_get (idents_of rs) i ≡ Some (shifted (pos (i - get_or starts k d)) r.0)
  ident_is k d i r g h l =
      let s = start_is k d (slice_get_within rs k r g) in
      let e : i ≡ length (idents_of (take k rs)) + (i - get_or starts k d) = omega arith in
      ap (slice_get (idents_of rs)) e ∙ ident_at rs k r (i - get_or starts k d) g (omega arith)

  -- one more run that is apart
  pub apart_at_end : (r : List Tuple × ℕ) → is_above (last_ident (idents_of rs)) r.0 ≡ true → touches (last_ident (idents_of rs)) r.0 ≡ false → is_apart (run_before None rs) r ≡ true
  apart_at_end r p t = ⊎_elim some none (cases_lt 0 (length rs))
    where
      some : 0 < length rs → is_apart (run_before None rs) r ≡ true
      some l =
          let q = ends_in rs l in
          let fs = take (length rs - 1) rs in
          let e = last_is rs q.0 q.1 in
          subst (λ xs. is_apart (run_before None xs) r ≡ true) e
          (apart_by_last fs q.0 r (sound_get (length rs - 1) q.0 q.1) (subst (λ xs. is_above (last_ident (idents_of xs)) r.0 ≡ true) (sym e) p) (subst (λ xs. touches (last_ident (idents_of xs)) r.0 ≡ false) (sym e) t))

      none : length rs ≤ 0 → is_apart (run_before None rs) r ≡ true
      none l = go rs l
        where
          go : (xs : List (List Tuple × ℕ)) → length xs ≤ 0 → is_apart (run_before None xs) r ≡ true
          go [] m = refl
          go (x ∷ xs) m = absurd (omega arith)

  -- a run that touches the last one
  module _ (r : List Tuple × ℕ) (g : slice_get rs (length rs - 1) ≡ Some r) (run : List Tuple × ℕ) (good : is_run run ≡ true) (t : touches (last_ident (idents_of rs)) run.0 ≡ true) where
    right_behind : run.0 ≡ shifted (pos r.1) r.0
    right_behind = touched_is r run.0 (sound_get (length rs - 1) r g) (ap (λ o. touches o run.0) (sym (last_run rs r g (sound_get (length rs - 1) r g))) ∙ t)

    pub joined_fits : is_run (r.0, r.1 + run.1) ≡ true
    joined_fits = longer_is r run.0 run.1 (sound_get (length rs - 1) r g) good right_behind

    pub joined_runs : AreRuns (take (length rs - 1) rs ++ (r.0, r.1 + run.1) ∷ []) starts (total + run.1)
    joined_runs = runs_longer (take (length rs - 1) rs) starts total r.0 r.1 run.1 (subst (λ xs. AreRuns xs starts total) (sym (last_is rs r g)) a) joined_fits

    pub joined_idents : idents_of (take (length rs - 1) rs ++ (r.0, r.1 + run.1) ∷ []) ≡ idents_of rs ++ run_idents run.0 run.1
    joined_idents = idents_longer (take (length rs - 1) rs) r.0 r.1 run.1 run.0 right_behind ∙ ap (λ xs. idents_of xs ++ run_idents run.0 run.1) (last_is rs r g)

set_end : (xs : List (List Tuple × ℕ)) (x q : List Tuple × ℕ) → set (x ∷ xs) (length xs) q ≡ take (length xs) (x ∷ xs) ++ q ∷ []
set_end [] x q = refl
set_end (z ∷ xs) x q = ap (λ ys. x ∷ ys) (set_end xs z q)

set_last : (rs : List (List Tuple × ℕ)) (q : List Tuple × ℕ) → 0 < length rs → set rs (length rs - 1) q ≡ take (length rs - 1) rs ++ q ∷ []
set_last [] q h = absurd (omega arith)
set_last (r ∷ rs) q h = let e : length (r ∷ rs) - 1 ≡ length rs = omega arith in ap (λ k. set (r ∷ rs) k q) e ∙ set_end rs r q ∙ ap (λ k. take k (r ∷ rs) ++ q ∷ []) (sym e)

-- what touches something touches the last of some runs
pub touching_some : (rs : List (List Tuple × ℕ)) (y : List Tuple) → touches (last_ident (idents_of rs)) y ≡ true → 0 < length rs
touching_some [] y h = absurd (cc)
touching_some (r ∷ rs) y h = omega arith

pub got_last : (rs : List (List Tuple × ℕ)) (n : ℕ) (r : List Tuple × ℕ) → n ≡ length rs → 0 < length rs → r ≡ get_or rs (n - 1) r → slice_get rs (length rs - 1) ≡ Some r
got_last rs n r e h g = subst (λ k. slice_get rs (k - 1) ≡ Some r) e (slice_get_read rs (length rs) (n - 1) r refl (omega arith) g)

pub joined_set : (rs : List (List Tuple × ℕ)) (n : ℕ) (q : List Tuple × ℕ) → n ≡ length rs → 0 < length rs → set rs (n - 1) q ≡ take (length rs - 1) rs ++ q ∷ []
joined_set rs n q e h = ap (λ k. set rs (k - 1) q) e ∙ set_last rs q h

pub some_runs : (rs : List (List Tuple × ℕ)) (i : ℕ) → i < length (idents_of rs) → 0 < length rs
some_runs [] i h = absurd (omega arith)
some_runs (r ∷ rs) i h = omega arith

-- from a place in a run on, the first run is what is left of it
rest_from : (rs : List (List Tuple × ℕ)) (k p : ℕ) (r : List Tuple × ℕ) → are_apart None rs ≡ true → list_all is_run rs ≡ true → slice_get rs k ≡ Some r → p < r.1
    → first_len (runs_of (drop (length (idents_of (take k rs)) + p) (idents_of rs))) ≡ r.1 - p
rest_from rs k p r h q g l = ap (λ xs. first_len (runs_of xs)) left ∙ (ap first_len first ∙ omega (arith, l))
  where
    front : List (List Tuple)
    front = idents_of (take k rs)

    behind : List (List Tuple × ℕ)
    behind = drop (k + 1) rs

    m : ℕ
    m = r.1 - p - 1

    x : List Tuple
    x = shifted (pos p) r.0

    apart : are_apart (Some r) behind ≡ true
    apart =
        let e = sym (split_at rs k r g) in
        (behind_apart None (take k rs) r behind (subst (λ xs. are_apart None xs ≡ true) e h) (subst (λ xs. list_all is_run xs ≡ true) e q)).0

    own : run_idents r.0 r.1 ≡ run_idents r.0 p ++ run_idents x (suc m)
    own = ap (run_idents r.0) (omega (arith, l)) ∙ run_longer r.0 p (suc m)

    parts : idents_of rs ≡ front ++ (run_idents r.0 p ++ (run_idents x (suc m) ++ idents_of behind))
    parts =
        ap idents_of (sym (split_at rs k r g))
        ∙ (idents_append (take k rs) (r ∷ behind) ∙ ap (λ xs. front ++ xs) (ap (λ xs. xs ++ idents_of behind) own ∙ append_assoc (run_idents r.0 p) (run_idents x (suc m)) (idents_of behind)))

    left : drop (length front + p) (idents_of rs) ≡ run_idents x (suc m) ++ idents_of behind
    left =
        ap (drop (length front + p)) parts
        ∙ (drop-append-add front (run_idents r.0 p ++ (run_idents x (suc m) ++ idents_of behind)) p
        ∙ (ap (λ n. drop n (run_idents r.0 p ++ (run_idents x (suc m) ++ idents_of behind))) (sym (run_length r.0 p)) ∙ drop-append_seam (run_idents r.0 p) (run_idents x (suc m) ++ idents_of behind)))

    first : runs_of (run_idents x (suc m) ++ idents_of behind) ≡ (x, suc m) ∷ behind
    first =
        runs_of_run m x (idents_of behind) behind (runs_of_idents (Some r) behind apart)
        (subst (λ y. IsFree y behind) (sym (shifted_shifted (pos m) (pos p) r.0 ∙ ap (λ z. shifted z r.0) (omega (arith, ints, l)))) (free_of r behind apart))

-- a place in a run, as it was searched for
module _ (rs : List (List Tuple × ℕ)) (starts : List ℕ) (total : ℕ) (a : AreRuns rs starts total) (seen : List ℕ) (same : seen ≡ starts) (k i s : ℕ) (r : List Tuple × ℕ) (short : k < length seen)
    (got : r ≡ get_or rs k r) (start : s ≡ get_or starts k s) (below : get_or seen k 0 ≤ i) (above : k + 1 < length seen → i < get_or seen (k + 1) 0) (within : i < length (idents_of rs)) where
  at_run : slice_get rs k ≡ Some r
  at_run = slice_get_read rs (length rs) k r refl (let e = ap length same in let l = starts_long rs starts total a in omega arith) got

  pub placed : (s ≤ i) × (i < s + r.1)
  placed =
      let h = slice_get_within rs k r at_run in
      let e = start_is rs starts total a k 0 h in
      let f = start_is rs starts total a k s h in
      let b = subst (λ xs. get_or xs k 0 ≤ i) same below in
      let c = in_run rs starts total a k s 0 i r at_run (subst (λ xs. k + 1 < length xs → i < get_or xs (k + 1) 0) same above) within in
      (omega arith, omega arith)

  pub placed_short : i - s < 2 ^ 32
  placed_short = let p = placed in let l = run_short r (sound_get rs starts total a k r at_run) in omega arith

  -- the identifiers from the place on to the end of the run
  pub placed_on : (j : ℕ) → (i - s) + j < r.1 → slice_get (idents_of rs) (i + j) ≡ Some (shifted (pos ((i - s) + j)) r.0)
  placed_on j l =
      let p = placed in
      let e : (i + j) - s ≡ (i - s) + j = omega arith in
      ident_is rs starts total a k s (i + j) r at_run (omega arith) (omega arith) ∙ ap (λ n. Some (shifted (pos ((i + j) - n)) r.0)) (sym start) ∙ ap (λ n. Some (shifted (pos n) r.0)) e

  pub placed_rest : first_len (runs_of (drop i (idents_of rs))) ≡ r.1 - (i - s)
  placed_rest =
      let p = placed in
      let e : i ≡ length (idents_of (take k rs)) + (i - s) = let f = start_is rs starts total a k s (slice_get_within rs k r at_run) in omega (arith, p, f, start) in
      ap (λ n. first_len (runs_of (drop n (idents_of rs)))) e ∙ rest_from rs k (i - s) r a.apart a.sound at_run (omega (arith, p))

-- what is left of a run from a place on is within the list
pub rest_within : (xs : List (List Tuple)) (i p n : ℕ) (a : List Tuple) → p < n → ((k : ℕ) → p + k < n → slice_get xs (i + k) ≡ Some (shifted (pos (p + k)) a)) → i + (n - p) ≤ length xs
rest_within xs i p n a l f = let w = slice_get_within xs (i + (n - 1 - p)) _ (f (n - 1 - p) (omega (arith, l))) in omega (arith, w, l)

-- identifiers of two runs that agree at one place agree further on
pub agree_on : (xs ys : List (List Tuple)) (i j p q n : ℕ) (a b : List Tuple) → slice_get xs i ≡ slice_get ys j → ((k : ℕ) → k < n → slice_get xs (i + k) ≡ Some (shifted (pos (p + k)) a)) → ((k : ℕ) → k < n → slice_get ys (j + k) ≡ Some (shifted (pos (q + k)) b))
    → (k : ℕ) → k < n → slice_get xs (i + k) ≡ slice_get ys (j + k)
agree_on xs ys i j p q n a b same f g k l = f k l ∙ (ap Some (sym (further p a) ∙ (ap (shifted (pos k)) first ∙ further q b)) ∙ sym (g k l))
  where
    none : (m : ℕ) → m + 0 ≡ m
    none m = omega arith

    further : (r : ℕ) (x : List Tuple) → shifted (pos k) (shifted (pos r) x) ≡ shifted (pos (r + k)) x
    further r x = shifted_shifted (pos k) (pos r) x ∙ ap (λ d. shifted d x) (omega (arith, ints))

    some : 0 < n
    some = omega (arith, l)

    first : shifted (pos p) a ≡ shifted (pos q) b
    first =
        some_is (shifted (pos p) a) (shifted (pos q) b)
        (ap (λ m. Some (shifted (pos m) a)) (sym (none p)) ∙ (sym (f 0 some) ∙ (ap (slice_get xs) (none i) ∙ (same ∙ (ap (slice_get ys) (sym (none j)) ∙ (g 0 some ∙ ap (λ m. Some (shifted (pos m) b)) (none q)))))))

-- the identifier at a place, of the run that holds it
pub ident_there : (xs : List (List Tuple)) (i : ℕ) (r : List Tuple × ℕ) (place : ℕ) → place < r.1 → ((k : ℕ) → place + k < r.1 → slice_get xs (i + k) ≡ Some (shifted (pos (place + k)) r.0)) → (x : List Tuple) → x ≡ shifted (pos place) r.0 → slice_get xs i ≡ Some x
ident_there xs i r place l f x e =
    let m : i ≡ i + 0 = omega arith in
    let n : place + 0 ≡ place = omega arith in
    ap (slice_get xs) m ∙ f 0 (omega arith) ∙ ap (λ k. Some (shifted (pos k) r.0)) n ∙ ap Some (sym e)

-- a run that was searched for an identifier
module _ (rs : List (List Tuple × ℕ)) (starts : List ℕ) (total : ℕ) (a : AreRuns rs starts total) (seen : List (List Tuple × ℕ)) (same : seen ≡ rs) (behind s : ℕ) (r : List Tuple × ℕ) (y : List Tuple) (some : 0 < behind) (within : behind ≤ length seen)
    (got : r ≡ get_or rs (behind - 1) r) (start : s ≡ get_or starts (behind - 1) s) (below : (q : List Tuple × ℕ) → 0 < behind → slice_get seen (behind - 1) ≡ Some q → ident_lt y q.0 ≡ false) (above : (q : List Tuple × ℕ) → slice_get seen behind ≡ Some q → ident_lt y q.0 ≡ true) where
  in_front : slice_get rs (behind - 1) ≡ Some r
  in_front = slice_get_read rs (length rs) (behind - 1) r refl (let e = ap length same in omega arith) got

  pub searched : moved s (find_ident (run_idents r.0 r.1) y) ≡ find_ident (idents_of rs) y
  searched =
      let e : (behind - 1) + 1 ≡ behind = omega arith in
      ap (λ k. moved k (find_ident (run_idents r.0 r.1) y)) start
      ∙ found_in rs starts total a (behind - 1) s r y in_front (below r some (ap (λ xs. slice_get xs (behind - 1)) same ∙ in_front))
      (λ q g. above q (ap (λ xs. slice_get xs behind) same ∙ ap (slice_get rs) (sym e) ∙ g))

  pub searched_fits : (i : ℕ) → (find_ident (run_idents r.0 r.1) y ≡ Ok i) ⊎ (find_ident (run_idents r.0 r.1) y ≡ Err i) → s + i ≤ total
  searched_fits i h =
      let m = place_most (run_idents r.0 r.1) y i h in
      let l = run_length r.0 r.1 in
      let t = fits_total rs starts total a (behind - 1) s r in_front in
      omega arith
