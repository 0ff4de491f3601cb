-- Before a barrier the rules on grapheme clusters read nothing.
use Rattle.std.proofs.Common.{◌≡◌, ℕ, true, false, not, ◌&&◌, ◌||◌, List, [], ◌∷◌, ◌++◌, map, refl, ap, ap₂}
use Rattle.std.specs.Prelude.{unwrap_or}
use Rattle.ucd_breaks.specs.GraphemeClusterBreak.{grapheme_cluster_break}
use Rattle.ucd_breaks.specs.declared.GraphemeClusterBreak.{GraphemeClusterBreak}
use Rattle.ucd_breaks.specs.declared.GraphemeClusterBreak.TheVariants as breaks
use Rattle.ucd_derived.specs.IndicConjunctBreak.{indic_conjunct_break}
use Rattle.ucd_derived.specs.declared.IndicConjunctBreak.{IndicConjunctBreak}
use Rattle.ucd_derived.specs.declared.IndicConjunctBreak.TheVariants as conjuncts
use Rattle.unicode_segmentation.specs.Grapheme.{break_by_pair, ends_in_half_flag, ends_in_linker, ends_in_pictograph, is_consonant, is_extend, is_grapheme_break, is_regional, is_zwj, joins_conjunct, joins_emoji, joins_flag}
use Rattle.rls_script.specs.Clusters.{is_barrier_break, is_barrier_conjunct, is_barrier}
use Rattle.rls_script.proofs.Places.{both}
use Rattle.rls_script.proofs.Walks.{Hides}

-- ---- the rules read no more than the next character

pub reads_next : (before : List ℕ) (c : ℕ) (xs ys : List ℕ) → is_grapheme_break true before (c ∷ xs) ≡ is_grapheme_break true before (c ∷ ys)
unfolding is_grapheme_break
reads_next [] c xs ys = refl
reads_next (b ∷ before) c xs ys = refl

pub breaks_at_end : (c : ℕ) (before : List ℕ) → is_grapheme_break true (c ∷ before) [] ≡ true
unfolding is_grapheme_break
breaks_at_end c before = refl

-- ---- what a barrier isn't

barrier_break : (v : GraphemeClusterBreak) → is_barrier_break v ≡ true → (is_extend v ≡ false) × (is_zwj v ≡ false) × (is_regional v ≡ false)
barrier_break breaks.Extend h = absurd cc
barrier_break breaks.Zwj h = absurd cc
barrier_break breaks.RegionalIndicator h = absurd cc
barrier_break _ h = (refl, refl, refl)

-- after any value the same, if it is so after what stands before
linker_after : (v : IndicConjunctBreak) (xs ys : List IndicConjunctBreak) → ends_in_linker xs ≡ ends_in_linker ys → ends_in_linker (v ∷ xs) ≡ ends_in_linker (v ∷ ys)
unfolding ends_in_linker
linker_after conjuncts.Linker xs ys h = refl
linker_after conjuncts.Extend xs ys h = h
linker_after conjuncts.Consonant xs ys h = refl
linker_after conjuncts.None xs ys h = refl

linker_barrier : (v : IndicConjunctBreak) (xs ys : List IndicConjunctBreak) → is_barrier_conjunct v ≡ true → ends_in_linker (v ∷ xs) ≡ ends_in_linker (v ∷ ys)
unfolding ends_in_linker
linker_barrier conjuncts.Linker xs ys h = absurd cc
linker_barrier conjuncts.Extend xs ys h = absurd cc
linker_barrier conjuncts.Consonant xs ys h = refl
linker_barrier conjuncts.None xs ys h = refl

module _ (last : ℕ) (xs ys : List ℕ) (barrier : is_barrier last ≡ true) where
  shown : (is_barrier_break (grapheme_cluster_break last) ≡ true) × (is_barrier_conjunct (indic_conjunct_break last) ≡ true)
  unfolding is_barrier
  shown = both (is_barrier_break (grapheme_cluster_break last)) (is_barrier_conjunct (indic_conjunct_break last)) barrier

  alone : (is_extend (grapheme_cluster_break last) ≡ false) × (is_zwj (grapheme_cluster_break last) ≡ false) × (is_regional (grapheme_cluster_break last) ≡ false)
  alone = barrier_break (grapheme_cluster_break last) shown.0

  linker : (cs : List ℕ) → ends_in_linker (map indic_conjunct_break (cs ++ last ∷ xs)) ≡ ends_in_linker (map indic_conjunct_break (cs ++ last ∷ ys))
  linker [] = linker_barrier (indic_conjunct_break last) (map indic_conjunct_break xs) (map indic_conjunct_break ys) shown.1
  linker (c ∷ cs) = linker_after (indic_conjunct_break c) _ _ (linker cs)

  pictograph : (cs : List ℕ) → ends_in_pictograph (cs ++ last ∷ xs) ≡ ends_in_pictograph (cs ++ last ∷ ys)
  unfolding ends_in_pictograph
  pictograph [] = rw alone.0 refl
  pictograph (c ∷ cs) = rw (pictograph cs) refl

  half_flag : (cs : List ℕ) → ends_in_half_flag (cs ++ last ∷ xs) ≡ ends_in_half_flag (cs ++ last ∷ ys)
  unfolding ends_in_half_flag
  half_flag [] = rw alone.2 refl
  half_flag (c ∷ cs) = ap (λ b. is_regional (grapheme_cluster_break c) && not b) (half_flag cs)

  conjunct : (cs : List ℕ) (next : ℕ) → joins_conjunct (cs ++ last ∷ xs) next ≡ joins_conjunct (cs ++ last ∷ ys) next
  conjunct cs next = ap (λ b. b && is_consonant (indic_conjunct_break next)) (linker cs)

  emoji : (cs : List ℕ) (next : ℕ) → joins_emoji (cs ++ last ∷ xs) next ≡ joins_emoji (cs ++ last ∷ ys) next
  emoji [] next = rw alone.1 refl
  emoji (c ∷ cs) next = rw (pictograph cs) refl

  flag : (cs : List ℕ) (next : ℕ) → joins_flag (cs ++ last ∷ xs) next ≡ joins_flag (cs ++ last ∷ ys) next
  flag cs next = ap (λ b. b && is_regional (grapheme_cluster_break next)) (half_flag cs)

  pub hides : Hides (is_grapheme_break true) last xs ys
  unfolding is_grapheme_break
  hides [] [] = refl
  hides (c ∷ cs) [] = refl
  hides [] (next ∷ after) =
      ap (λ b. unwrap_or (break_by_pair true (grapheme_cluster_break last) (grapheme_cluster_break next)) (not b)) (ap₂ ◌||◌ (ap₂ ◌||◌ (conjunct [] next) (emoji [] next)) (flag [] next))
  hides (c ∷ cs) (next ∷ after) =
      ap (λ b. unwrap_or (break_by_pair true (grapheme_cluster_break c) (grapheme_cluster_break next)) (not b)) (ap₂ ◌||◌ (ap₂ ◌||◌ (conjunct (c ∷ cs) next) (emoji (c ∷ cs) next)) (flag (c ∷ cs) next))
