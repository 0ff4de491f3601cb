-- A piece that is taken back, also where an edit is refused.
use Rattle.std.specs.Prelude.{◌≡◌, ℕ, ◌++◌, List, [], ◌∷◌, Option, None}
use Rattle.rls_model.specs.declared.edit.Edit.TheVariants as edits
use Rattle.rls_model.specs.declared.edit.EditError.{EditError}
use Rattle.rls_model.specs.Editing.{or_fault}
use Rattle.rls_seen.specs.Edits.{edit_fault_over, IsFault}
use Rattle.rls_steps.specs.declared.piece.Step.{Step}
use Rattle.rls_steps.specs.Marks.{Piece, Put, Cut}
use Rattle.rls_steps.specs.Labelled.{Labelled, ready_over, cut_over}
use Rattle.rls_steps.specs.Courses.{cut_ranges, ranges_over, place_over, FitRanges}
use Rattle.rls_steps.specs.Recorded.{steps_of}

-- the first fault of the deletions of these ranges, one after another
abbrev pub ranges_fault : Labelled → List (ℕ × ℕ) → Option EditError
ranges_fault h [] = None
ranges_fault h (r ∷ rs) = or_fault (edit_fault_over h.seen (edits.Delete r.0 r.1)) (ranges_fault (cut_over (ready_over h r.0 r.1) r.0 r.1) rs)

-- the first fault of the edits that take a piece back
abbrev pub back_fault : Labelled → Piece → Option EditError
back_fault h (Put labels) = ranges_fault h (ranges_over h labels)
back_fault h (Cut labels cs left right) = edit_fault_over h.seen (edits.Insert (place_over h left right) cs)

-- the fault of the first of these deletions
abbrev pub first_fault : Labelled → List (ℕ × ℕ) → Option EditError
first_fault h [] = None
first_fault h (r ∷ rs) = edit_fault_over h.seen (edits.Delete r.0 r.1)

-- the first of these ranges were cut out, up to the one that is refused with this error, and their pieces are on the other stack
pub record IsPartCut (e : EditError) (h : Labelled) (ranges : List (ℕ × ℕ)) (new : Labelled) (group : ℕ) (old_other other : List Step) : Type 0 where
  pub front : List (ℕ × ℕ)
  pub rest : List (ℕ × ℕ)
  pub are : ranges ≡ front ++ rest
  pub fit : FitRanges h front
  pub held : new ≡ (cut_ranges h front []).held
  pub met : IsFault e (first_fault new rest)
  pub others : other ≡ old_other ++ steps_of group (cut_ranges h front []).other

-- after an error: of what was put in the ranges before the one that is refused are cut out; what was cut out isn't back
abbrev pub IsPartBack : EditError → Labelled → Piece → Labelled → ℕ → List Step → List Step → Type 0
IsPartBack e h (Put labels) new group old other = IsPartCut e h (ranges_over h labels) new group old other
IsPartBack e h (Cut labels cs left right) new group old other = (new ≡ h) × (other ≡ old)
