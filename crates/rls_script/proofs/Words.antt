-- The words of a line.
use Rattle.std.proofs.Common.{◌≡◌, ℕ, ◌+◌, ◌<◌, ltb, Bool, true, false, not, cond, List, length, get_or, Option, Some, None, unwrap_or, refl, ap, ◌∙◌, arith}
use Rattle.std.proofs.lemmas.Bool.{ltb-true, eqb-true}
use Rattle.std.proofs.lemmas.List.Sums.{prefix_len_stops}
use Rattle.std.proofs.lemmas.Str.{IsCharBoundary-before_ascii, IsCharBoundary-after_ascii}
use Rattle.std.specs.List.{position, position_or_len}
use Rattle.std.specs.Str.{IsUtf8, IsCharBoundary}
use Rattle.rls_script.specs.Scripts.{is_space}

not_false : (b : Bool) → not b ≡ false → b ≡ true
not_false true h = refl
not_false false h = absurd cc

-- the first space of a text was found at this place
module _ (text : List ℕ) (at : ℕ) (found : Some at ≡ position is_space text) where
  abbrev place : ℕ
  place = position_or_len is_space text

  found_at : (ltb place (length text) ≡ true) × (at ≡ place)
  found_at = by (ltb place (length text)) found
    where
      by : (t : Bool) → Some at ≡ cond t (Some place) None → (t ≡ true) × (at ≡ place)
      by true h = (refl, ap (λ (o : Option ℕ). unwrap_or o 0) h)
      by false h = absurd cc

  is_within : at < length text
  is_within = let lt = ltb-true place (length text) found_at.0 in omega (arith, found_at.1)

  is_low : get_or text at 0 < 128
  is_low =
      let lt = ltb-true place (length text) found_at.0 in
      let space = ap (λ k. get_or text k 0) found_at.1 ∙ eqb-true (get_or text place 0) 32 (not_false (is_space (get_or text place 0)) (prefix_len_stops (λ b. not (is_space b)) text 0 lt)) in
      omega (arith, space)

  pub may_cut_before : IsCharBoundary text at
  may_cut_before = IsCharBoundary-before_ascii text at is_within is_low

  pub may_cut_after : IsUtf8 text → IsCharBoundary text (at + 1)
  may_cut_after u = IsCharBoundary-after_ascii text at u is_within is_low
