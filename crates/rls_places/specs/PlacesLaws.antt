-- The statements of the laws.
use Rattle.std.specs.Prelude.{◌≡◌, ◌<◌, ◌≤◌, ℕ, List, [], ◌∷◌, length, Some, option_and_then}
use Rattle.rls_codec.specs.Spelled.{FitsName, FitTuples}
use Rattle.rls_seen.specs.Sane.{IsSane}
use Rattle.rls_seen.specs.Seen.{Seen}
use Rattle.rls_anchor.specs.declared.anchor.Anchor.{Anchor}
use Rattle.rls_anchor.specs.declared.anchor.Anchor.TheVariants.{Beginning, After, Before}
use Rattle.rls_anchor.specs.Anchors.{anchor_over}
use Rattle.rls_anchor.specs.Elsewhere.{located_over}
use Rattle.rls_places.specs.Words.{place_of, place_word}

-- what the types of the code give of a place: its numbers and its offsets are in range, and its tuples are an identifier
abbrev pub FitsPlace : Anchor → Type 0
FitsPlace Beginning = Unit {0}
FitsPlace (After e x) = FitsName e × FitTuples x
FitsPlace (Before e x) = FitsName e × FitTuples x

-- what is written of a place is read as that place
abbrev pub ReadBack : Type 0
ReadBack = (a : Anchor) → FitsPlace a → place_of (place_word a) ≡ Some a

-- printed characters of ASCII, and no space
abbrev pub IsOneWord : List ℕ → Type 0
IsOneWord [] = Unit {0}
IsOneWord (c ∷ cs) = (32 < c) × (c < 127) × IsOneWord cs

-- a place is written as one such word
abbrev pub AreOneWord : Type 0
AreOneWord = (a : Anchor) → FitsPlace a → IsOneWord (place_word a)

-- a place that is written, and read where nothing has happened since, is where it was
abbrev pub LocatedBack : Type 0
LocatedBack = (s : Seen) (at : ℕ) → IsSane s → at ≤ length s.text → FitsPlace (anchor_over s at) → option_and_then (located_over s) (place_of (place_word (anchor_over s at))) ≡ Some at
