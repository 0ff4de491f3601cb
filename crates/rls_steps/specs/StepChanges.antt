-- What steps change that are taken back.
use Rattle.std.specs.Prelude.{◌≡◌, ℕ, zero, suc, ◌+◌, List, [], ◌∷◌, ◌++◌, map, length}
use Rattle.rls_seen.specs.Sane.{IsSane}
use Rattle.rls_seen.specs.Seen.{text_over}
use Rattle.rls_changes.specs.declared.change.Change.{Change}
use Rattle.rls_changes.specs.declared.change.Change.TheVariants.{Insert, Delete}
use Rattle.rls_changes.specs.Changes.{played, inserted_by, deleted_by}
use Rattle.rls_steps.specs.Marks.{Piece, Put, Cut}
use Rattle.rls_steps.specs.Labelled.{Labelled}
use Rattle.rls_steps.specs.Courses.{Steps, Back, FitsBack, moved, place_over, ranges_over, taken_back}

-- this range goes
abbrev pub range_change : ℕ × ℕ → Change
range_change r = Delete r.0 r.1

-- of a piece that is taken back: its ranges go, the last first; or its text is back at its place
abbrev pub piece_changes : Labelled → Piece → List Change
piece_changes h (Put labels) = map range_change (ranges_over h labels)
piece_changes h (Cut labels cs left right) = Insert (place_over h left right) cs ∷ []

-- of the first of these pieces
abbrev pub first_changes : Labelled → List Piece → List Change
first_changes h [] = []
first_changes h (p ∷ ps) = piece_changes h p

-- of so many pieces, one after another
abbrev pub back_changes : ℕ → Steps → List Change
back_changes zero st = []
back_changes (suc n) st = first_changes st.held st.past ++ back_changes n (moved st Back)

-- some of the first of these changes stand after the others now, and lead from the text before to the text after
pub record AreTold (all cs ds : List Change) (before after : List ℕ) : Type 0 where
  pub fresh : List Change
  pub rest : List Change
  pub are : all ≡ fresh ++ rest
  pub added : ds ≡ cs ++ fresh
  pub leads : played fresh before ≡ after

-- ---- the law

-- the changes of a piece that is taken back, played over the text before, give the text after; what was put in goes, and nothing comes; of
-- what was cut out comes just its text, and nothing goes
pub record IsChanged (h : Labelled) (p : Piece) : Type 0 where
  pub plays : played (piece_changes h p) (text_over h.seen) ≡ text_over (taken_back h p []).held.seen
  pub put : (labels : List ℕ) → p ≡ Put labels → (inserted_by (piece_changes h p) ≡ []) × (deleted_by (piece_changes h p) + length (text_over (taken_back h p []).held.seen) ≡ length (text_over h.seen))

abbrev pub PieceChanges : Type 0
PieceChanges = (h : Labelled) (p : Piece) → IsSane h.seen → FitsBack h p → IsChanged h p
