-- The places of grapheme clusters, one after another.
use Rattle.std.proofs.Common.{◌≡◌, ℕ, ◌+◌, ◌<◌, Bool, true, false, cond, List, [], ◌∷◌, ◌++◌, map, length, length-append, Some, None, Ok, Err, refl, sym, ap, ap₂, ◌∙◌, arith}
use Rattle.std.specs.Prelude.{◌&&◌, encode_utf8_all}
use Rattle.std.proofs.Math.Utf8.{scalar}
use Rattle.std.proofs.lemmas.Bool.{ne_eqb, eq-eqb, le-ltb, lt-ltb}
use Rattle.std.proofs.lemmas.Str.{chars-append, chars-encodes, chars-nil, scalars-chars}
use Rattle.std.specs.List.{concat}
use Rattle.std.specs.Str.{IsUtf8, all_scalars, chars}
use Rattle.rls_script.specs.declared.clusters.ClusterError.TheVariants.{Range, NotBoundary}
use Rattle.rls_script.specs.Clusters.{begin_of, cluster_before, clusters_of}
use Rattle.rls_script.proofs.Walks.{begin_of_none}
use Rattle.unicode_segmentation.specs.Grapheme.{graphemes, is_grapheme_break}
use Rattle.unicode_segmentation.specs.Segments.{Rule, cut, prepend, segments}
use Rattle.unicode_segmentation.proofs.SegmentsLemmas.{concat-segments}

-- ---- the pieces of a text as characters and as bytes

pub both : (a b : Bool) → (a && b) ≡ true → (a ≡ true) × (b ≡ true)
both true b h = (refl, h)
both false b h = absurd cc

scalars_apart : (xs ys : List ℕ) → all_scalars (xs ++ ys) ≡ true → (all_scalars xs ≡ true) × (all_scalars ys ≡ true)
scalars_apart [] ys h = (refl, h)
scalars_apart (x ∷ xs) ys h =
    let here = both (scalar x) (all_scalars (xs ++ ys)) h in
    let rest = scalars_apart xs ys here.1 in
    (rw (here.0, rest.0) refl, rest.1)

concat_cut : (rule : Rule) (before cs after : List ℕ) → concat (cut rule before cs after) ≡ cs
unfolding cut
concat_cut rule before [] after = refl
concat_cut rule before (c ∷ cs) after = go (rule (c ∷ before) (cs ++ after)) (cut rule (c ∷ before) cs after) (concat_cut rule (c ∷ before) cs after)
  where
    go : (b : Bool) (ps : List (List ℕ)) → concat ps ≡ cs → concat (cond b ((c ∷ []) ∷ ps) (prepend (c ∷ []) ps)) ≡ c ∷ cs
    go true ps e = ap (λ t. c ∷ t) e
    go false [] e = ap (λ t. c ∷ t) e
    go false (p ∷ ps) e = ap (λ t. c ∷ t) e

read_back : (ps : List (List ℕ)) → all_scalars (concat ps) ≡ true → map chars (map encode_utf8_all ps) ≡ ps
read_back [] h = refl
read_back (p ∷ ps) h =
    let parts = scalars_apart p (concat ps) h in
    ap₂ ◌∷◌ (chars-encodes p parts.0) (read_back ps parts.1)

-- the clusters of the bytes are those of the characters
pub clusters_read : (text : List ℕ) → IsUtf8 text → map chars (graphemes true text) ≡ clusters_of (chars text)
unfolding segments clusters_of
clusters_read text utf8 =
    read_back (cut (is_grapheme_break true) [] (chars text) []) (ap all_scalars (concat_cut (is_grapheme_break true) [] (chars text) []) ∙ scalars-chars text utf8)

-- ---- one after another

-- the clusters from this character on give what all of them give
pub record IsPlace (text : List ℕ) (at begin : ℕ) (pieces : List (List ℕ)) : Type 0 where
  pub below : begin < at
  pub total : begin + length (chars (concat pieces)) ≡ length (chars text)
  pub found : begin_of at begin (map chars pieces) ≡ begin_of at 0 (clusters_of (chars text))

pub starts : (text : List ℕ) (at : ℕ) → IsUtf8 text → 0 < at → IsPlace text at 0 (graphemes true text)
starts text at utf8 some =
    let all = ap (λ (bytes : List ℕ). length (chars bytes)) (concat-segments (is_grapheme_break true) text utf8) in
    record { below = some; total = omega (arith, all); found = ap (begin_of at 0) (clusters_read text utf8) }

module _ (text : List ℕ) (at begin : ℕ) (piece : List ℕ) (pieces : List (List ℕ)) (utf8 : IsUtf8 piece) (place : IsPlace text at begin (piece ∷ pieces)) where
  total_by_parts : begin + length (chars piece) + length (chars (concat pieces)) ≡ length (chars text)
  total_by_parts =
      let both : length (chars (piece ++ concat pieces)) ≡ length (chars piece) + length (chars (concat pieces)) = ap length (chars-append piece (concat pieces) utf8) ∙ length-append (chars piece) (chars (concat pieces)) in
      omega (arith, both, place.total)

  pub goes_on : begin + length (chars piece) < at → IsPlace text at (begin + length (chars piece)) pieces
  goes_on h = record {
    below = h;
    total = total_by_parts;
    found = rw (ne_eqb (begin + length (chars piece)) at (λ e. omega arith)) at place.found;
  }

  pub ends : begin + length (chars piece) ≡ at → cluster_before (chars text) at ≡ Ok begin
  unfolding cluster_before
  ends h =
      let found : begin_of at 0 (clusters_of (chars text)) ≡ Some begin = sym place.found ∙ rw (eq-eqb (begin + length (chars piece)) at h) refl in
      rw (ne_eqb at 0 (λ e. omega (arith, place.below)), le-ltb (length (chars text)) at (omega (arith, total_by_parts)), found) refl

  pub passes : at < begin + length (chars piece) → cluster_before (chars text) at ≡ Err (NotBoundary at)
  unfolding cluster_before
  passes h =
      let found : begin_of at 0 (clusters_of (chars text)) ≡ None = sym place.found ∙ rw (ne_eqb (begin + length (chars piece)) at (λ e. omega arith)) (begin_of_none at (begin + length (chars piece)) (map chars pieces) h) in
      rw (ne_eqb at 0 (λ e. omega (arith, place.below)), le-ltb (length (chars text)) at (omega (arith, total_by_parts)), found) refl

pub is_zero : (text : List ℕ) (at : ℕ) → at ≡ 0 → cluster_before (chars text) at ≡ Err (Range at (length (chars text)))
unfolding cluster_before
is_zero text at h = rw (eq-eqb at 0 h) refl

pub is_above : (text : List ℕ) (at begin : ℕ) → IsPlace text at begin [] → cluster_before (chars text) at ≡ Err (Range at begin)
unfolding cluster_before
is_above text at begin place =
    let none = ap length chars-nil in
    let all : length (chars text) ≡ begin = omega (arith, none, place.total) in
    rw (ne_eqb at 0 (λ e. omega (arith, place.below)), lt-ltb (length (chars text)) at (omega (arith, all, place.below)), all) refl
