-- The labels of a text's characters, place by place.
use Rattle.std.specs.Prelude.{ℕ, zero, suc, ◌<◌, List, [], ◌∷◌, length, slice_get, slice_index, Option, Some, None}

-- those that are there
abbrev pub given_labels : List (Option ℕ) → List ℕ
given_labels [] = []
given_labels (None ∷ os) = given_labels os
given_labels (Some n ∷ os) = n ∷ given_labels os

-- the first one, but for the front of the text
abbrev pub left_in : ℕ → List ℕ → Option ℕ
left_in zero ls = None
left_in (suc k) ls = slice_get ls 0

-- each of these numbers is less than those after it
abbrev pub IsRising : List ℕ → Type 0
IsRising ls = (i j : ℕ) → i < j → j < length ls → slice_index ls i < slice_index ls j
