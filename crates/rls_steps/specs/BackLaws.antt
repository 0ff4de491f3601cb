-- The statements of the laws.
use Rattle.std.specs.Prelude.{◌≡◌, ℕ, suc, Bool, IsTrue, Some, None, List, [], ◌∷◌, length, take, drop, Option}
use Rattle.rls_ident.specs.Lists.{IsIn}
use Rattle.rls_undo.specs.Plans.{ranges_of}
use Rattle.rls_steps.specs.Marks.{Marked, marks, chars, known, Piece, Put, Cut, label_places, label_place, return_place, put_in, cut_out, remarked, Mark}
use Rattle.rls_steps.specs.Back.{EndsIn, LeadBack, ArePieces, Exchanges}

-- what was put in stands in one range; without it the text is the one before, the pieces below lead on from there, and the piece that puts
-- it in again leads back to the text now
abbrev pub PutBack : Type 0
PutBack = (m : Marked) (labels : List ℕ) (ps qs : List Piece) (t : List ℕ) (ts us : List (List ℕ)) → LeadBack m (Put labels ∷ ps) (t ∷ ts) → LeadBack m qs us →
    (at : ℕ) × (cs : List ℕ)
    × (ranges_of (label_places 0 labels (marks m)) ≡ (at, length labels) ∷ [])
    × (take (length labels) (drop at m) ≡ known labels cs)
    × (chars (cut_out m at (length labels)) ≡ t)
    × LeadBack (cut_out m at (length labels)) ps ts
    × ((left right : Option ℕ) → EndsIn (take at m) left → LeadBack (cut_out m at (length labels)) (Cut labels cs left right ∷ qs) (chars m ∷ us))

-- what was cut out comes back at its place; the text is then the one before, the pieces below lead on from there, and the piece that cuts it
-- out again leads back to the text now
abbrev pub CutBack : Type 0
CutBack = (m : Marked) (labels cs : List ℕ) (left right : Option ℕ) (gone : ℕ) (ps qs : List Piece) (t : List ℕ) (ts us : List (List ℕ)) →
    LeadBack m (Cut labels cs left right ∷ ps) (t ∷ ts) → LeadBack m qs us →
    let n = put_in m (return_place (marks m) left right gone) labels cs in
    (chars n ≡ t) × LeadBack n ps ts × LeadBack n (Put labels ∷ qs) (chars m ∷ us)

-- what pieces lead back to doesn't depend on the names of characters: neither labels that are given to further characters nor renames change it
abbrev pub Exchanged : Type 0
Exchanged = (next : ℕ) (among : Mark → Bool) (f : Mark → Mark) → Exchanges next (λ k. IsTrue (among k)) f → (m : Marked) (ps : List Piece) (ts : List (List ℕ)) →
    ((k : Mark) → IsIn k (marks m) → IsTrue (among k)) → ArePieces next ps →
    LeadBack m ps ts → LeadBack (remarked f m) ps ts

-- what was cut out comes back at the front if nothing stood before it, else right after its left neighbour, if that is in the text, and else
-- right before its right one, if that is
pub record ReturnsBeside : Type 0 where
  pub front : (ms : List Mark) (right : Option ℕ) (gone : ℕ) → return_place ms None right gone ≡ 0
  pub left : (ms : List Mark) (l i : ℕ) (right : Option ℕ) (gone : ℕ) → label_place ms l ≡ Some i → return_place ms (Some l) right gone ≡ suc i
  pub right : (ms : List Mark) (l r j : ℕ) (gone : ℕ) → label_place ms l ≡ None → label_place ms r ≡ Some j → return_place ms (Some l) (Some r) gone ≡ j
