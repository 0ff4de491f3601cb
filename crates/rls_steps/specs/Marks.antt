-- A text whose characters are told by labels, and the pieces of which steps consist.
-- Why: docs/DECISIONS.md, 77.
use Rattle.std.specs.Prelude.{ℕ, zero, suc, ◌+◌, ◌==◌, Bool, false, List, [], ◌∷◌, ◌++◌, map, zip, take, drop, Option, Some, None, if◌then◌else◌}
use Rattle.std.specs.List.{list_any}
use Rattle.rls_ident.specs.declared.tuple.Tuple.{Tuple}
-- what a member did at one place, by labels: it put characters in; or cut them out, after a left neighbour and before a right one, but
-- for the ends of the text
pub use Rattle.rls_steps.specs.declared.piece.Piece.{Piece}
pub use Rattle.rls_steps.specs.declared.piece.Piece.TheVariants.{Put, Cut}

-- what a character is told by: its label, which stays when the character goes and comes back under another identifier; or its identifier,
-- as long as it has no label
pub data Mark : Type 0 where
  Known : (label : ℕ) → Mark
  Unknown : (ident : List Tuple) → Mark

-- a text with the marks of its characters
abbrev pub Marked : Type 0
Marked = List (Mark × ℕ)

abbrev pub marks : Marked → List Mark
marks m = map (λ e. e.0) m

abbrev pub chars : Marked → List ℕ
chars m = map (λ e. e.1) m

-- characters with these labels
abbrev pub known : List ℕ → List ℕ → Marked
known labels cs = zip (map Known labels) cs

-- the mark is one of these labels
abbrev pub is_one_of : List ℕ → Mark → Bool
is_one_of labels (Known n) = list_any (λ k. k == n) labels
is_one_of labels (Unknown x) = false

-- the places, counted from i on, of the marks that are one of these labels
abbrev pub label_places : ℕ → List ℕ → List Mark → List ℕ
label_places i labels [] = []
label_places i labels (m ∷ ms) = if is_one_of labels m then i ∷ label_places (suc i) labels ms else label_places (suc i) labels ms

-- the place of a label, if it is there
abbrev pub first_of : List ℕ → Option ℕ
first_of [] = None
first_of (i ∷ is) = Some i

abbrev pub label_place : List Mark → ℕ → Option ℕ
label_place ms n = first_of (label_places 0 (n ∷ []) ms)

-- the place, or what stands in for it
abbrev pub place_or : Option ℕ → ℕ → ℕ
place_or None other = other
place_or (Some i) other = i

abbrev pub behind_or : Option ℕ → ℕ → ℕ
behind_or None other = other
behind_or (Some i) other = suc i

abbrev pub before_right : List Mark → Option ℕ → ℕ → ℕ
before_right ms None gone = gone
before_right ms (Some r) gone = place_or (label_place ms r) gone

-- where cut characters come back: right after the left neighbour, if that is in the text, and at the front if there was none; else right
-- before the right neighbour, if that is in the text; else where the left one would be
abbrev pub return_place : List Mark → Option ℕ → Option ℕ → ℕ → ℕ
return_place ms None right gone = 0
return_place ms (Some l) right gone = behind_or (label_place ms l) (before_right ms right gone)

-- ---- what edits do to the text

abbrev pub put_in : Marked → ℕ → List ℕ → List ℕ → Marked
put_in m at labels cs = take at m ++ (known labels cs ++ drop at m)

abbrev pub cut_out : Marked → ℕ → ℕ → Marked
cut_out m at n = take at m ++ drop (at + n) m

-- the text with other marks
abbrev pub remarked : (Mark → Mark) → Marked → Marked
remarked f m = map (λ e. (f e.0, e.1)) m

-- the numbers from i on, n of them
abbrev pub numbers_from : ℕ → ℕ → List ℕ
numbers_from i zero = []
numbers_from i (suc n) = i ∷ numbers_from (suc i) n
