-- A long deletion, which leaves several pieces, since one insertion puts back only so many characters.
use Rattle.std.specs.Prelude.{◌≡◌, ℕ, zero, suc, ◌+◌, ◌-◌, ◌++◌, List, [], ◌∷◌, length, take, drop, slice_get, nat_le, Option, if◌then◌else◌}
use Rattle.rls_ident.specs.declared.limits.TheConstants.{CHARACTERS}
use Rattle.rls_model.specs.declared.edit.Edit.TheVariants as edits
use Rattle.rls_steps.specs.Marks.{Piece, Put, Cut}
use Rattle.rls_steps.specs.Labelled.{ready_over, cut_over, cut_piece}
use Rattle.rls_steps.specs.Courses.{Steps, Copies, Fits, Shows}

abbrev pub last_label : List ℕ → Option ℕ
last_label labels = slice_get labels (length labels - 1)

-- a piece that was cut out as at most k more pieces than one, of at most so many characters. The first comes back first
abbrev pub parts_of : ℕ → ℕ → List ℕ → List ℕ → Option ℕ → Option ℕ → List Piece
parts_of most zero labels cs left right = Cut labels cs left right ∷ []
parts_of most (suc k) labels cs left right =
    if nat_le (length cs) most then Cut labels cs left right ∷ []
    else Cut (take most labels) (take most cs) left right ∷ parts_of most k (drop most labels) (drop most cs) (last_label (take most labels)) right

-- the pieces, each of which one insertion puts back
abbrev pub parts : Piece → List Piece
parts (Put labels) = Put labels ∷ []
parts (Cut labels cs left right) = parts_of CHARACTERS (length cs) labels cs left right

-- a deletion, which isn't refused
abbrev pub deleted : Steps → ℕ → ℕ → Steps
deleted st at n = let g = ready_over st.held at n in record { held = cut_over g at n; past = parts (cut_piece g at n) ++ st.past; future = [] }

-- the text without the range; the one before, after as many steps back as there are parts; and those in between
abbrev pub without : Copies → ℕ → ℕ → List (List ℕ) → Copies
without c at n between = record { now = take at c.now ++ drop (at + n) c.now; before = between ++ c.now ∷ c.before; after = [] }

-- so the editor that keeps a copy of each text has the text before again once all parts are back
abbrev pub DeletionShows : Type 0
DeletionShows = (st : Steps) (c : Copies) (at n : ℕ) → Shows st c → Fits st.held.seen (edits.Delete at n) →
    (between : List (List ℕ)) × (suc (length between) ≡ length (parts (cut_piece (ready_over st.held at n) at n))) × Shows (deleted st at n) (without c at n between)
