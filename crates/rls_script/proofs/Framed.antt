-- What a window of a text tells of the text's grapheme clusters.
use Rattle.std.proofs.Common.{◌≡◌, ◌∙◌, ℕ, zero, suc, ◌+◌, ◌-◌, ◌<◌, ◌≤◌, ◌⊎◌, inl, inr, ⊎_elim, min, Bool, true, false, not, cond, List, [], ◌∷◌, ◌++◌, length, length-append, get_or, take, drop, Option, Some, None, IfSome, Result, Ok, Err, refl, sym, ap, append_assoc, eq-or-lt_of_le, drop-cons, drop_of_length-le, length-drop, length-take, take-append-drop, arith}
use Rattle.std.specs.Prelude.{◌&&◌, ◌==◌, nat_lt}
use Rattle.std.specs.List.{position_or_len}
use Rattle.std.proofs.lemmas.Bool.{eqb-false, eqb-true, ne_eqb, eq-eqb, le-ltb, lt-ltb, ltb-true}
use Rattle.std.proofs.lemmas.List.Sums.{passes_at_first}
use Rattle.ucd_breaks.specs.GraphemeClusterBreak.{grapheme_cluster_break}
use Rattle.ucd_breaks.specs.declared.GraphemeClusterBreak.{GraphemeClusterBreak}
use Rattle.ucd_breaks.specs.declared.GraphemeClusterBreak.TheVariants as breaks
use Rattle.unicode_segmentation.specs.Grapheme.{break_by_pair, is_grapheme_break}
use Rattle.unicode_segmentation.specs.Segments.{cut}
use Rattle.rls_script.specs.declared.clusters.ClusterError.{ClusterError}
use Rattle.rls_script.specs.declared.clusters.ClusterError.TheVariants.{NotBoundary}
use Rattle.rls_script.specs.Clusters.{begin_of, cluster_before, cluster_in, clusters_of, found_after, is_barrier, is_control, is_inside, is_mark, are_joined, left_out, or_no_boundary, placed}
use Rattle.rls_script.proofs.Barriers.{breaks_at_end, hides, reads_next}
use Rattle.rls_script.proofs.Places.{both}
use Rattle.rls_script.proofs.Walks.{Agrees, onto, pieces_walk, prepend_none, reached, walk, windowed}

-- ---- a cluster by a walk

by_walk : (k c : ℕ) (cs : List ℕ) → k ≤ length cs → cluster_before (c ∷ cs) (suc k) ≡ or_no_boundary (suc k) (walk (is_grapheme_break true) (suc k) [] (c ∷ cs) 0 0)
unfolding cluster_before clusters_of cut
by_walk k c cs l =
    rw (ne_eqb (suc k) 0 (λ e. omega arith), le-ltb (length (c ∷ cs)) (suc k) (omega arith))
    (ap (or_no_boundary (suc k))
    (ap (begin_of (suc k) 0) (sym (prepend_none (is_grapheme_break true (c ∷ []) (cs ++ [])) c (cut (is_grapheme_break true) (c ∷ []) cs [])))
    ∙ pieces_walk (is_grapheme_break true) breaks_at_end k [] c cs [] 0 0 (suc k) (omega arith) (omega arith) l))

by_walk_at : (text : List ℕ) (at : ℕ) → 0 < at → at ≤ length text → cluster_before text at ≡ or_no_boundary at (walk (is_grapheme_break true) at [] text 0 0)
by_walk_at [] at p l = absurd (omega arith)
by_walk_at (c ∷ cs) zero p l = absurd (omega arith)
by_walk_at (c ∷ cs) (suc k) p l = by_walk k c cs (omega arith)

-- ---- inside a cluster

joined_break : (v w : GraphemeClusterBreak) → is_control v ≡ false → is_mark w ≡ true → break_by_pair true v w ≡ Some false
joined_break breaks.Control w h k = absurd cc
joined_break breaks.Cr w h k = absurd cc
joined_break breaks.Lf w h k = absurd cc
joined_break _ breaks.Extend h k = refl
joined_break _ breaks.Zwj h k = refl
joined_break _ breaks.SpacingMark h k = refl
joined_break _ _ h k = absurd cc

not_false : (b : Bool) → not b ≡ true → b ≡ false
not_false true h = absurd cc
not_false false h = refl

no_break : (c d : ℕ) (before after : List ℕ) → are_joined c d ≡ true → is_grapheme_break true (c ∷ before) (d ∷ after) ≡ false
unfolding are_joined is_grapheme_break
no_break c d before after h =
    let k = both (not (is_control (grapheme_cluster_break c))) (is_mark (grapheme_cluster_break d)) h in
    rw (joined_break (grapheme_cluster_break c) (grapheme_cluster_break d) (not_false (is_control (grapheme_cluster_break c)) k.0) k.1) refl

joined_inside : (front : List ℕ) (c d : ℕ) (rest : List ℕ) (at : ℕ) → at ≡ suc (length front) → are_joined c d ≡ true → cluster_before (front ++ c ∷ d ∷ rest) at ≡ Err (NotBoundary at)
joined_inside front c d rest at e h =
    let text = front ++ c ∷ d ∷ rest in
    let there = reached (is_grapheme_break true) front [] (c ∷ d ∷ rest) 0 0 (length front) 0 (length front) (omega arith) (omega arith) in
    let stops : walk (is_grapheme_break true) 1 (onto front []) (c ∷ d ∷ rest) there.0 (length front) ≡ None = ap (λ b. cond b (Some there.0) None) (no_break c d (onto front []) rest h) in
    by_walk_at text at (omega arith) (omega (arith, length-append front (c ∷ d ∷ rest)))
    ∙ ap (or_no_boundary at) (ap (λ n. walk (is_grapheme_break true) n [] text 0 0) e ∙ there.1 ∙ stops)

-- ---- from a window to its text

abbrev Earlier : ℕ → Type 0
Earlier start = 0 < start

finish : (start at k : ℕ) (w t : Option ℕ) (r : Result ℕ ClusterError) → Agrees (is_grapheme_break true) reads_next start (Earlier start) w t → placed start at (or_no_boundary k w) ≡ Some r → r ≡ or_no_boundary at t
finish start at k None t r g h = let same : Err (NotBoundary at) ≡ r = cc in sym same ∙ ap (or_no_boundary at) (sym g)
finish start at k (Some b) t r (inl e) h = go ((b == 0) && nat_lt 0 start) h ∙ ap (or_no_boundary at) (sym e)
  where
    go : (test : Bool) → cond test None (Some (Ok (start + b))) ≡ Some r → r ≡ Ok (start + b)
    go true h = absurd cc
    go false h = cc
finish start at k (Some b) t r (inr e) h = go ((b == 0) && nat_lt 0 start) (rw (eq-eqb b 0 e.0, lt-ltb 0 start e.1) refl) h
  where
    go : (test : Bool) → test ≡ true → cond test None (Some (Ok (start + b))) ≡ Some r → r ≡ or_no_boundary at t
    go true p h = absurd cc
    go false p h = absurd cc

module _ (c : ℕ) (ws rest : List ℕ) (k at start : ℕ) (r : Result ℕ ClusterError) (end : at ≡ start + suc k) (m : k ≤ length ws) (l : (k < length ws) ⊎ (rest ≡ [])) (h : placed start at (cluster_before (c ∷ ws) (suc k)) ≡ Some r) where
  seen : placed start at (or_no_boundary (suc k) (walk (is_grapheme_break true) (suc k) [] (c ∷ ws) 0 0)) ≡ Some r
  seen = ap (placed start at) (sym (by_walk k c ws m)) ∙ h

  long : (front : List ℕ) → start ≡ length front → at ≤ length (front ++ c ∷ (ws ++ rest))
  long front e = omega (arith, length-append front (c ∷ (ws ++ rest)), length-append ws rest)

  from_start : start ≡ 0 → r ≡ cluster_before (c ∷ (ws ++ rest)) at
  from_start e =
      let same : at ≡ suc k = omega arith in
      let met = windowed (is_grapheme_break true) reads_next start (Earlier start) k c ws rest [] [] 0 0 0 start (λ cs after. refl) (omega arith) m l (inl (omega arith)) in
      let walks = ap (λ n. walk (is_grapheme_break true) (suc k) [] (c ∷ (ws ++ rest)) 0 n) e ∙ ap (λ n. walk (is_grapheme_break true) n [] (c ∷ (ws ++ rest)) 0 0) (sym same) in
      finish start at (suc k) _ _ r met seen ∙ ap (or_no_boundary at) walks ∙ sym (by_walk_at (c ∷ (ws ++ rest)) at (omega arith) (long [] e))

  from_barrier : (front : List ℕ) → start ≡ length front → 0 < start → is_barrier c ≡ true → r ≡ cluster_before (front ++ c ∷ (ws ++ rest)) at
  from_barrier front e some barrier =
      let there = reached (is_grapheme_break true) front [] (c ∷ (ws ++ rest)) 0 0 start k (start + k) (omega arith) (omega arith) in
      let met = windowed (is_grapheme_break true) reads_next start (Earlier start) k c ws rest [] (onto front []) 0 there.0 0 start (hides c [] (onto front []) barrier) (omega arith) m l (inr (refl, some)) in
      let same : suc (start + k) ≡ at = omega arith in
      let walks = sym there.1 ∙ ap (λ n. walk (is_grapheme_break true) n [] (front ++ c ∷ (ws ++ rest)) 0 0) same in
      finish start at (suc k) _ _ r met seen ∙ ap (or_no_boundary at) walks ∙ sym (by_walk_at (front ++ c ∷ (ws ++ rest)) at (omega arith) (long front e))

-- ---- the window as a part of its text

no_length : (xs : List ℕ) → length xs ≡ 0 → xs ≡ []
no_length [] e = refl
no_length (x ∷ xs) e = absurd (omega arith)

-- the first character that isn't left out is a barrier, unless it is that of the text
barrier_there : (from : ℕ) (window : List ℕ) (b : Bool) → (from == 0) ≡ b → cond b 0 (position_or_len is_barrier window) < length window → 0 < from + cond b 0 (position_or_len is_barrier window)
    → is_barrier (get_or window (cond b 0 (position_or_len is_barrier window)) 0) ≡ true
barrier_there from window true e l some = let none = eqb-true from 0 e in absurd (omega arith)
barrier_there from window false e l some = passes_at_first is_barrier window 0 l

module _ (text window : List ℕ) (from at : ℕ) (r : Result ℕ ClusterError) (begins : from < at) (reaches : at ≤ from + length window) (part : take (at + 1 - from) (drop from text) ≡ window) where
  abbrev rest : List ℕ
  rest = drop (at + 1 - from) (drop from text)

  wide : length window ≡ min (at + 1 - from) (length (drop from text))
  wide = ap length (sym part) ∙ length-take (at + 1 - from) (drop from text)

  module _ (n : ℕ) (few : n < at - from) where
    abbrev k : ℕ
    k = at - from - n - 1

    abbrev c : ℕ
    c = get_or window n 0

    abbrev ws : List ℕ
    ws = drop (suc n) window

    abbrev front : List ℕ
    front = take from text ++ take n window

    split : drop n window ≡ c ∷ ws
    split = drop-cons window n 0 (omega arith)

    whole : text ≡ front ++ c ∷ (ws ++ rest)
    whole =
        sym (take-append-drop from text) ∙ ap (λ t. take from text ++ t)
        (sym (take-append-drop (at + 1 - from) (drop from text)) ∙ ap (λ t. t ++ rest) (part ∙ sym (take-append-drop n window) ∙ ap (λ t. take n window ++ t) split)
        ∙ append_assoc (take n window) (c ∷ ws) rest)
        ∙ sym (append_assoc (take from text) (take n window) (c ∷ (ws ++ rest)))

    begun : from + n ≡ length front
    begun = omega (arith, length-append (take from text) (take n window), length-take from text, length-take n window, length-drop from text, wide)

    most : k ≤ length ws
    most = omega (arith, length-drop (suc n) window)

    later : (k < length ws) ⊎ (rest ≡ [])
    later = ⊎_elim (λ e. inr (drop_of_length-le (drop from text) (omega (arith, wide)))) (λ l. inl (omega (arith, length-drop (suc n) window))) (eq-or-lt_of_le reaches)

    at_is : at ≡ from + n + suc k
    at_is = omega arith

    found : placed (from + n) at (cluster_before (drop n window) (at - from - n)) ≡ Some r → (0 < from + n → is_barrier c ≡ true) → r ≡ cluster_before text at
    found h barrier =
        let count : at - from - n ≡ suc k = omega arith in
        let seen : placed (from + n) at (cluster_before (c ∷ ws) (suc k)) ≡ Some r = ap (λ t. placed (from + n) at (cluster_before t (suc k))) (sym split) ∙ ap (λ j. placed (from + n) at (cluster_before (drop n window) j)) (sym count) ∙ h in
        go (from + n == 0) refl seen
      where
        go : (b : Bool) → (from + n == 0) ≡ b → placed (from + n) at (cluster_before (c ∷ ws) (suc k)) ≡ Some r → r ≡ cluster_before text at
        go true e seen =
            let none = eqb-true (from + n) 0 e in
            let empty : front ≡ [] = no_length front (omega (arith, begun)) in
            from_start c ws rest k at (from + n) r at_is most later seen none ∙ ap (λ t. cluster_before (t ++ c ∷ (ws ++ rest)) at) (sym empty) ∙ ap (λ t. cluster_before t at) (sym whole)
        go false e seen =
            let some = eqb-false (from + n) 0 e in
            from_barrier c ws rest k at (from + n) r at_is most later seen front begun (omega arith) (barrier (omega arith)) ∙ ap (λ t. cluster_before t at) (sym whole)

  -- at its place in the text it is so too
  joined_at : (k : ℕ) → k ≡ at - from → is_inside window k ≡ true → Err (NotBoundary at) ≡ cluster_before text at
  joined_at zero e h = absurd (omega arith)
  joined_at (suc n) e h =
      let back : n ≡ suc n - 1 = omega arith in
      let i = both (nat_lt (suc n) (length window)) (are_joined (get_or window n 0) (get_or window (suc n) 0)) (ap (λ m. nat_lt (suc n) (length window) && are_joined (get_or window m 0) (get_or window (suc n) 0)) back ∙ h) in
      let l = ltb-true (suc n) (length window) i.0 in
      let few : n < at - from = omega arith in
      let two : ws n few ≡ get_or window (suc n) 0 ∷ drop (suc (suc n)) window = drop-cons window (suc n) 0 l in
      let parts : text ≡ front n few ++ get_or window n 0 ∷ get_or window (suc n) 0 ∷ (drop (suc (suc n)) window ++ rest) = whole n few ∙ ap (λ (zs : List ℕ). front n few ++ get_or window n 0 ∷ (zs ++ rest)) two in
      sym (joined_inside (front n few) (get_or window n 0) (get_or window (suc n) 0) (drop (suc (suc n)) window ++ rest) at (omega (arith, begun n few)) i.1) ∙ ap (λ (zs : List ℕ). cluster_before zs at) (sym parts)

  found_told : found_after (left_out from window) window from at ≡ Some r → r ≡ cluster_before text at
  found_told h = go (nat_lt (left_out from window) (at - from)) refl h
    where
      go : (b : Bool) → nat_lt (left_out from window) (at - from) ≡ b
          → cond b (placed (from + left_out from window) at (cluster_before (drop (left_out from window) window) (at - from - left_out from window))) None ≡ Some r → r ≡ cluster_before text at
      go true e h =
          let few = ltb-true (left_out from window) (at - from) e in
          found (left_out from window) few h (barrier_there from window (from == 0) refl (omega arith))
      go false e h = absurd cc

  pub told : cluster_in window from at ≡ Some r → r ≡ cluster_before text at
  unfolding cluster_in
  told h = go (is_inside window (at - from)) refl h
    where
      go : (b : Bool) → is_inside window (at - from) ≡ b → cond b (Some (Err (NotBoundary at))) (found_after (left_out from window) window from at) ≡ Some r → r ≡ cluster_before text at
      go true e h = let same : Err (NotBoundary at) ≡ r = cc in sym same ∙ joined_at (at - from) refl e
      go false e h = found_told h

-- ---- for the function

pub told_if_found : (window : List ℕ) (from at : ℕ) (o : Option (Result ℕ ClusterError)) → from < at → at ≤ from + length window → o ≡ cluster_in window from at
    → IfSome o (λ begin. (text : List ℕ) → take (at + 1 - from) (drop from text) ≡ window → begin ≡ cluster_before text at)
told_if_found window from at None p q e = tt
told_if_found window from at (Some r) p q e = λ text part. told text window from at r p q part (sym e)

pub joined_is : (window : List ℕ) (from at : ℕ) → is_inside window (at - from) ≡ true → Some (Err (NotBoundary at)) ≡ cluster_in window from at
unfolding cluster_in
joined_is window from at h = rw h refl

pub too_few : (window : List ℕ) (from at n : ℕ) → is_inside window (at - from) ≡ false → n ≡ left_out from window → at - from ≤ n → None ≡ cluster_in window from at
unfolding cluster_in
too_few window from at n i e h = rw (i, sym e, le-ltb n (at - from) h) refl

pub enough : (window : List ℕ) (from at n : ℕ) → is_inside window (at - from) ≡ false → n ≡ left_out from window → n < at - from → placed (from + n) at (cluster_before (drop n window) (at - (from + n))) ≡ cluster_in window from at
unfolding cluster_in
enough window from at n i e h =
    let same : at - (from + n) ≡ at - from - n = omega arith in
    rw (i, sym e, lt-ltb n (at - from) h) (ap (λ k. placed (from + n) at (cluster_before (drop n window) k)) same)
