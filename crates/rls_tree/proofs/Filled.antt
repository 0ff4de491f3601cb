-- What goes into gaps, one after another.
use Rattle.std.proofs.Common.{◌≡◌, ℕ, zero, suc, ◌+◌, ◌-◌, ◌<◌, ◌≤◌, true, false, cond, List, [], ◌∷◌, ◌++◌, length, take, drop, Some, Err, slice_index_or, refl, sym, ap, ◌∙◌, subst, ⊎_elim, arith, append_assoc}
use Rattle.std.specs.Prelude.{if◌then◌else◌, pos, zip}
use Rattle.std.proofs.lemmas.Bool.{or_parts}
use Rattle.std.proofs.lemmas.Slice.Zip.{firsts-zip}
use Rattle.std.proofs.Math.Nat.{eq-or-lt_of_le}
use Rattle.rls_ident.specs.Identifiers.{ident_eq, shifted}
use Rattle.rls_ident.proofs.Ends.{same_eq}
use Rattle.rls_ident.proofs.Members.{eq_is, eq_test}
use Rattle.rls_doc.specs.Documents.{AreNew}
use Rattle.std.proofs.lemmas.List.{drop-take, drop-drop, length-map}
use Rattle.std.proofs.Math.Seq.{take-add}
use Rattle.rls_ident.specs.declared.tuple.Tuple.{Tuple}
use Rattle.rls_runs.specs.Entries.{Entries, idents_in, has_ident, put, put_all}
use Rattle.rls_runs.specs.Runs.{run_idents, is_increasing, is_run, place_of}
use Rattle.rls_runs.specs.Places.{below_count}
use Rattle.rls_runs.proofs.RunOrder.{AllLess, Rising, of_lt, rising_of, run_gets, more_right, rising_left, rising_right}
use Rattle.rls_runs.proofs.RunPlaces.{found_is}
use Rattle.rls_runs.proofs.Sorted.{Entry, AreApart, AllApart, put_all_append, rises_all, distinct_of, rises_of_increasing, increasing_of_rises}
use Rattle.rls_runs.proofs.Gaps.{AreBelow, below_take, below_from, firsts_less, rests_below, rising_below, less_drop, read_err}
use Rattle.rls_tree.specs.declared.insertion.Gap.{Gap}
use Rattle.rls_blocks.specs.Trees.{Piece, piece_entries}
use Rattle.rls_blocks.specs.Edits.{part_of}
use Rattle.rls_tree.specs.Gaps.{gap_end, filled, AreGaps, is_gap, last_gap, Leaves}
use Rattle.rls_blocks.proofs.AtPlaces.{idents_append, piece_idents}
use Rattle.rls_tree.proofs.Puts.{put_gap, parted, headed, idents_take, idents_drop, whole_place, next_later, next_below, part_is}

-- ---- places

pub gaps_within : (gs : List Gap) (at end : ℕ) → AreGaps at gs end → at ≤ end
gaps_within [] at end h = h
gaps_within (g ∷ gs) at end h = let o = h.0 in let l = gaps_within gs g.at end h.1 in omega (arith, o, l)

last_most : (gs : List Gap) (at end : ℕ) → AreGaps at gs end → last_gap at gs ≤ end
last_most [] at end h = h
last_most (g ∷ gs) at end h = last_most gs g.at end h.1

-- ---- one gap more at the end

filled_more : (gs : List Gap) (g : Gap) (at : ℕ) (es : Entries) (rest : ℕ → Entries) → filled at (gs ++ g ∷ []) es rest ≡ filled at gs es (λ k. take (g.at - k) (drop k es) ++ (piece_entries g.block ++ rest g.at))
filled_more [] g at es rest = refl
filled_more (h ∷ gs) g at es rest = ap (λ zs. take (h.at - at) (drop at es) ++ (piece_entries h.block ++ zs)) (filled_more gs g h.at es rest)

filled_same : (gs : List Gap) (at : ℕ) (es : Entries) (f h : ℕ → Entries) → f (last_gap at gs) ≡ h (last_gap at gs) → filled at gs es f ≡ filled at gs es h
filled_same [] at es f h e = e
filled_same (g ∷ gs) at es f h e = ap (λ zs. take (g.at - at) (drop at es) ++ (piece_entries g.block ++ zs)) (filled_same gs g.at es f h e)

last_more : (gs : List Gap) (g : Gap) (at : ℕ) → last_gap at (gs ++ g ∷ []) ≡ g.at
last_more [] g at = refl
last_more (h ∷ gs) g at = last_more gs g h.at

gaps_more : (gs : List Gap) (g : Gap) (at end : ℕ) → AreGaps at gs end → last_gap at gs ≤ g.at → g.at ≤ end → AreGaps at (gs ++ g ∷ []) end
gaps_more [] g at end h l w = (l, w)
gaps_more (f ∷ gs) g at end h l w = (h.0, gaps_more gs g f.at end h.1 l w)

-- ---- entries put in after others

put_one : (f g : Entries) (e : Entry) → AllLess (idents_in f) e.0 → put e (f ++ g) ≡ f ++ put e g
put_one [] g e h = refl
put_one (a ∷ f) g e h = ap (λ b. if b then a ∷ put e (f ++ g) else e ∷ a ∷ (f ++ g)) (of_lt a.0 e.0 h.0) ∙ ap (λ es. a ∷ es) (put_one f g e h.1)

put_after : (q f g : Entries) → AreBelow (idents_in f) (idents_in q) → put_all q (f ++ g) ≡ f ++ put_all q g
put_after [] f g h = refl
put_after (e ∷ q) f g h = ap (put_all q) (put_one f g e (firsts_less (idents_in f) e.0 (idents_in q) h)) ∙ put_after q f (put e g) (rests_below (idents_in f) e.0 (idents_in q) h)

put_parts : (f p q g : Entries) → AreBelow (idents_in f) (idents_in (p ++ q)) → AreBelow (idents_in p) (idents_in g) → Rising (idents_in (p ++ q)) → put_all (p ++ q) (f ++ g) ≡ f ++ (p ++ put_all q g)
put_parts f p q g h k r =
    let s = subst Rising (idents_append p q) r in
    put_after (p ++ q) f g h
    ∙ ap (λ zs. f ++ zs) (put_all_append p q g ∙ ap (put_all q) (put_gap [] p g tt k (rising_left (idents_in p) (idents_in q) s)) ∙ put_after q p g (rising_below (idents_in p) (idents_in q) s))

counted : (k : ℕ) (xs : List (List Tuple)) (x : List Tuple) → k ≤ length xs → AllLess (take k xs) x → k ≤ below_count xs x
counted zero xs x l h = omega arith
counted (suc k) [] x l h = absurd (omega (arith, l))
counted (suc k) (y ∷ xs) x l h =
    let c = counted k xs x (omega (arith, l)) h.1 in
    let e : below_count (y ∷ xs) x ≡ suc (below_count xs x) = ap (λ b. cond b (suc (below_count xs x)) (below_count xs x)) (of_lt y x h.0) in
    omega (arith, c, e)

right_below : (xs ys zs : List (List Tuple)) → AreBelow xs (ys ++ zs) → AreBelow xs zs
right_below [] ys zs h = tt
right_below (x ∷ xs) ys zs h = (more_right x ys zs h.0, right_below xs ys zs h.1)

-- ---- one gap more, and what goes in there put in

module _ (es : Entries) (gs : List Gap) (g : Gap) (more all : Entries) (was : Leaves es gs (piece_entries g.block ++ more) all) (first : List Tuple) (tail : List (List Tuple)) (rising : Rising (idents_in es))
    (head : idents_in (piece_entries g.block ++ more) ≡ first ∷ tail) (place : g.at ≤ length es) (found : below_count (idents_in es) first ≡ g.at) (rest : AreBelow (idents_in (piece_entries g.block)) (drop g.at (idents_in es))) where
  abbrev p : Entries
  p = piece_entries g.block

  abbrev last : ℕ
  last = last_gap 0 gs

  front : AllLess (take g.at (idents_in es)) first
  front = subst (λ n. AllLess (take n (idents_in es)) first) found (below_take (idents_in es) first rising)

  order : last ≤ g.at
  order =
      let l = length-map es (λ e. e.0) in
      let m = last_most gs 0 (length es) was.places in
      let c = counted last (idents_in es) first (omega (arith, l, m)) (firsts_less (take last (idents_in es)) first tail (subst (AreBelow (take last (idents_in es))) head was.below)) in
      omega (arith, c, found)

  own : Rising (first ∷ tail)
  own = subst Rising head was.rising

  pointwise : take (g.at - last) (drop last es) ++ (p ++ put_all more (drop g.at es)) ≡ put_all (p ++ more) (drop last es)
  pointwise =
      let n = g.at - last in
      let m : last + n ≡ g.at = let o = order in omega (arith, o) in
      let f = take n (drop last es) in
      let e : idents_in f ≡ drop last (take g.at (idents_in es)) = idents_take n (drop last es) ∙ ap (take n) (idents_drop last es) ∙ sym (drop-take last n (idents_in es)) ∙ ap (λ k. drop last (take k (idents_in es))) m in
      let less : AllLess (idents_in f) first = subst (λ zs. AllLess zs first) (sym e) (less_drop last (take g.at (idents_in es)) first front) in
      sym (ap (put_all (p ++ more)) (parted last n es ∙ ap (λ k. f ++ drop k es) m)
      ∙ put_parts f p more (drop g.at es) (subst (AreBelow (idents_in f)) (sym head) (below_from (idents_in f) first tail less own.0)) (subst (AreBelow (idents_in p)) (sym (idents_drop g.at es)) rest) was.rising)

  pub gap_put : Leaves es (gs ++ g ∷ []) more all
  gap_put =
      record {
        total = filled_more gs g 0 es (λ k. put_all more (drop k es)) ∙ filled_same gs 0 es (λ k. take (g.at - k) (drop k es) ++ (p ++ put_all more (drop g.at es))) (λ k. put_all (p ++ more) (drop k es)) pointwise ∙ was.total;
        places = gaps_more gs g 0 (length es) was.places order place;
        rising = rising_right (idents_in p) (idents_in more) (subst Rising (idents_append p more) was.rising);
        below =
            subst (λ k. AreBelow (take k (idents_in es)) (idents_in more)) (sym (last_more gs g 0))
            (right_below (take g.at (idents_in es)) (idents_in p) (idents_in more) (subst (AreBelow (take g.at (idents_in es))) (sym head ∙ idents_append p more) (below_from (take g.at (idents_in es)) first tail front own.0)));
      }

-- ---- characters before the first gap

pub filled_later : (gs : List Gap) (at to end : ℕ) (es : Entries) → at ≤ to → AreGaps to gs end → filled at gs es (λ k. drop k es) ≡ take (to - at) (drop at es) ++ filled to gs es (λ k. drop k es)
filled_later [] at to end es o h = let m : at + (to - at) ≡ to = omega (arith, o) in parted at (to - at) es ∙ ap (λ k. take (to - at) (drop at es) ++ drop k es) m
filled_later (g ∷ gs) at to end es o h =
    let q = h.0 in
    let n : g.at - at ≡ (to - at) + (g.at - to) = omega (arith, o, q) in
    let m : at + (to - at) ≡ to = omega (arith, o) in
    let rest = piece_entries g.block ++ filled g.at gs es (λ k. drop k es) in
    ap (λ zs. zs ++ rest) (ap (λ k. take k (drop at es)) n ∙ take-add (to - at) (g.at - to) (drop at es) ∙ ap (λ zs. take (to - at) (drop at es) ++ take (g.at - to) zs) (drop-drop (to - at) at es ∙ ap (λ k. drop k es) m))
    ∙ append_assoc (take (to - at) (drop at es)) (take (g.at - to) (drop to es)) rest

pub gaps_lower : (gs : List Gap) (at to end : ℕ) → at ≤ to → AreGaps to gs end → AreGaps at gs end
gaps_lower [] at to end o h = omega (arith, o, h)
gaps_lower (g ∷ gs) at to end o h = let l = h.0 in (omega (arith, o, l), h.1)

-- ---- the first gap

pub first_gap : (gs : List Gap) (g : Gap) → 0 < length gs → g ≡ slice_index_or gs 0 g → gs ≡ g ∷ drop 1 gs
first_gap [] g s e = absurd (omega (arith, s))
first_gap (x ∷ gs) g s e = ap (λ y. y ∷ gs) (sym e)

pub gap_here : (gs : List Gap) (g : Gap) (at end : ℕ) (es : Entries) → is_gap at (g ∷ gs) ≡ true → AreGaps at (g ∷ gs) end → AreGaps at gs end × (filled at (g ∷ gs) es (λ k. drop k es) ≡ piece_entries g.block ++ filled at gs es (λ k. drop k es))
gap_here gs g at end es t h =
    let e = eq_is g.at at t in
    let k : g.at - at ≡ 0 = omega (arith, e) in
    (subst (λ j. AreGaps j gs end) e h.1, ap (λ j. take j (drop at es) ++ (piece_entries g.block ++ filled g.at gs es (λ k. drop k es))) k ∙ ap (λ j. piece_entries g.block ++ filled j gs es (λ k. drop k es)) e)

pub gap_later : (gs : List Gap) (g : Gap) (at : ℕ) → is_gap at (g ∷ gs) ≡ false → at ≤ g.at → at < g.at
gap_later gs g at f l = ⊎_elim (λ e. let t = eq_test g.at at (sym e) in absurd cc) (λ k. k) (eq-or-lt_of_le l)

pub gap_within : (gs : List Gap) (at end : ℕ) → 0 < length gs → AreGaps at gs end → is_gap at gs ≡ false → at < end
gap_within [] at end s h f = absurd (omega (arith, s))
gap_within (g ∷ gs) at end s h f = let l = gap_later gs g at f h.0 in let w = gaps_within gs g.at end h.1 in omega (arith, l, w)

-- ---- the next gap for a run

module _ (es : Entries) (b : Piece) (done end : ℕ) (g : Gap) (many : length b.1 ≡ b.0.1) (incr : is_increasing (idents_in es) ≡ true) (sound : is_run b.0 ≡ true) (short : done < b.0.1) (first : List Tuple) (first_is : first ≡ shifted (pos done) b.0.0)
    (gap : place_of first (idents_in es) ≡ Err g.at) (end_is : end ≡ gap_end (run_idents b.0.0 b.0.1) (drop g.at (idents_in es))) (block_is : g.block ≡ part_of done (end - done) b) (gs : List Gap) (more all : Entries) (was : Leaves es gs (drop done (piece_entries b) ++ more) all) where
  abbrev new : Entries
  new = piece_entries g.block

  abbrev left : Entries
  left = drop end (piece_entries b) ++ more

  parts : drop done (piece_entries b) ++ more ≡ new ++ left
  parts =
      let l = next_later es b.0 g.at done incr sound short first first_is gap in
      let n : done + (end - done) ≡ end = omega (arith, l, end_is) in
      ap (λ zs. zs ++ more) (parted done (end - done) (piece_entries b) ∙ ap (λ zs. zs ++ drop (done + (end - done)) (piece_entries b)) (sym (part_is es b.0 g.at done incr sound short first first_is gap b.1 many end end_is g.block block_is)) ∙ ap (λ k. new ++ drop k (piece_entries b)) n)
      ∙ append_assoc new (drop end (piece_entries b)) more

  head : idents_in (new ++ left) ≡ first ∷ (drop (suc done) (run_idents b.0.0 b.0.1) ++ idents_in more)
  head =
      ap idents_in (sym parts) ∙ idents_append (drop done (piece_entries b)) more
      ∙ ap (λ xs. xs ++ idents_in more) (idents_drop done (piece_entries b) ∙ ap (drop done) (piece_idents b many) ∙ headed done (run_idents b.0.0 b.0.1) first (run_gets b.0.0 b.0.1 done short ∙ ap Some (sym first_is)))

  pub run_gap : Leaves es (gs ++ g ∷ []) left all
  run_gap =
      gap_put es gs g left all (subst (λ zs. Leaves es gs zs all) parts was) first (drop (suc done) (run_idents b.0.0 b.0.1) ++ idents_in more) (rising_of (idents_in es) incr) head
      (whole_place es g.at first incr gap) (read_err (idents_in es) first g.at (found_is (idents_in es) first (rising_of (idents_in es) incr) ∙ gap)).1
      (next_below es b.0 g.at done incr sound short first first_is gap b.1 many end end_is g.block block_is)

-- ---- all entries rise

apart_of : (e : Entry) (es : Entries) → has_ident (idents_in es) e.0 ≡ false → AreApart e es
apart_of e [] h = tt
apart_of e (x ∷ es) h =
    let p = or_parts (ident_eq x.0 e.0) (has_ident (idents_in es) e.0) h in
    (λ q. let t = same_eq x.0 e.0 (sym q) in let n = p.0 in absurd cc, apart_of e es p.1)

all_apart : (ids : List (List Tuple)) (cs : List ℕ) (es : Entries) → AreNew ids (idents_in es) → AllApart (zip ids cs) es
all_apart [] cs es h = tt
all_apart (x ∷ ids) [] es h = tt
all_apart (x ∷ ids) (c ∷ cs) es h = (apart_of (x, c) es h.0, all_apart ids cs es h.1)

pub put_rises : (ids : List (List Tuple)) (cs : List ℕ) (es : Entries) → length ids ≡ length cs → is_increasing ids ≡ true → AreNew ids (idents_in es) → is_increasing (idents_in es) ≡ true → is_increasing (idents_in (put_all (zip ids cs) es)) ≡ true
put_rises ids cs es n h a r =
    increasing_of_rises (put_all (zip ids cs) es)
    (rises_all (zip ids cs) es (rises_of_increasing es r) (distinct_of (zip ids cs) (rises_of_increasing (zip ids cs) (ap is_increasing (firsts-zip ids cs (sym n)) ∙ h))) (all_apart ids cs es a))
