-- What own edits change, one after another.
use Rattle.std.specs.Prelude.{◌≡◌, ℕ, ◌+◌, List, [], ◌∷◌, ◌++◌, None}
use Rattle.rls_model.specs.declared.edit.Edit.{Edit}
use Rattle.rls_model.specs.declared.edit.Edit.TheVariants as edits
use Rattle.rls_model.specs.Editing.{made, edit_fault}
use Rattle.rls_model.specs.Receiving.{State, accept}
use Rattle.rls_model.specs.Laws.{AreEdits}
use Rattle.rls_seen.specs.Edits.{edit_fault_over, edited}
use Rattle.rls_seen.specs.Sane.{IsSane}
use Rattle.rls_seen.specs.Seen.{Seen, text_over}
use Rattle.rls_seen.specs.Stands.{StandsFor}
use Rattle.rls_undo.specs.Undoing.{performed_over, refusal_over, unless}
use Rattle.rls_changes.specs.declared.change.Change.{Change}
use Rattle.rls_changes.specs.Changes.{played, inserted_by, deleted_by}
use Rattle.rls_changes.specs.ChangesLaws.{own_changes}

-- what these edits change, one after another
abbrev pub edit_changes : List Edit → List Change
edit_changes [] = []
edit_changes (e ∷ es) = own_changes e ++ edit_changes es

-- those of the edits that are performed: up to the first that is refused
abbrev pub performed_edits : Seen → List Edit → List Edit
performed_edits s [] = []
performed_edits s (e ∷ es) = unless (edit_fault_over s e) [] (e ∷ performed_edits (edited s e) es)

-- the same over a history and what waits beside it
abbrev pub performed_edits_in : State → List Edit → List Edit
performed_edits_in t [] = []
performed_edits_in t (e ∷ es) = unless (edit_fault t.history e) [] (e ∷ performed_edits_in (accept t (made t.history e)) es)

-- the characters that these edits insert, one after another, and how many they delete
abbrev pub chars_put : List Edit → List ℕ
chars_put [] = []
chars_put (edits.Insert at cs ∷ es) = cs ++ chars_put es
chars_put (edits.Delete at n ∷ es) = chars_put es
chars_put (edits.Rename ∷ es) = chars_put es
chars_put (edits.Leave ∷ es) = chars_put es

abbrev pub chars_cut : List Edit → ℕ
chars_cut [] = 0
chars_cut (edits.Insert at cs ∷ es) = chars_cut es
chars_cut (edits.Delete at n ∷ es) = n + chars_cut es
chars_cut (edits.Rename ∷ es) = chars_cut es
chars_cut (edits.Leave ∷ es) = chars_cut es

-- ---- laws

-- what is performed of these edits changes the text before to the text after
abbrev pub EditsPlayed : Type 0
EditsPlayed = (s : Seen) (es : List Edit) → IsSane s → AreEdits es → played (edit_changes (performed_edits s es)) (text_over s) ≡ text_over (performed_over s es)

-- all of them are performed, where none is refused
abbrev pub AllPerformed : Type 0
AllPerformed = (s : Seen) (es : List Edit) → refusal_over s es ≡ None → performed_edits s es ≡ es

-- the changes insert just what the edits do, and delete as many characters
abbrev pub EditsExact : Type 0
EditsExact = (es : List Edit) → (inserted_by (edit_changes es) ≡ chars_put es) × (deleted_by (edit_changes es) ≡ chars_cut es)

-- the edits that are performed are those of each history that the replica stands for
abbrev pub PerformedAlike : Type 0
PerformedAlike = (s : Seen) (t : State) (es : List Edit) → AreEdits es → StandsFor s t → performed_edits s es ≡ performed_edits_in t es

-- ---- of calls

-- some of the first of these edits were performed, of which none was refused, and what they change stands after the other changes
pub record IsToldPart (old : Seen) (plan : List Edit) (new : Seen) (cs ds : List Change) : Type 0 where
  pub front : List Edit
  pub rest : List Edit
  pub are : plan ≡ front ++ rest
  pub fit : refusal_over old front ≡ None
  pub led : new ≡ performed_over old front
  pub told : ds ≡ cs ++ edit_changes front
