-- A session without changes of its editor: the edits that its drafts mean stand in their place, as lines that insert and delete.
use Rattle.std.specs.Prelude.{ℕ, zero, suc, ◌-◌, List, [], ◌∷◌, ◌++◌, if◌then◌else◌}
use Rattle.rls_model.specs.declared.edit.Edit.{Edit}
use Rattle.rls_model.specs.declared.edit.Edit.TheVariants as edits
use Rattle.rls_script.specs.declared.lines.Line.TheVariants as lines
use Rattle.rls_session.specs.declared.orders.Order.TheVariants as orders
use Rattle.rls_session.specs.Answers.{Kind}
use Rattle.rls_session.specs.Courses.{Answered}
use Rattle.rls_session.specs.Drafts.{draft_of}
use Rattle.rls_session.specs.Requests.{Request, Does, cut}
use Rattle.rls_session.specs.Seats.{Seat, goes_with, plan, respond}

-- ---- requests, one after another

-- this one and those after it, unless it is to store or to quit
abbrev pub asked_on : Request → List Request → List Request
asked_on (Does orders.Quit) rest = []
asked_on (Does orders.Store) rest = []
asked_on request rest = request ∷ rest

-- those of what comes after n bytes
abbrev pub asked_from : ℕ → List ℕ → List Request
asked_from n [] = []
asked_from (suc n) (b ∷ bytes) = asked_from n bytes
asked_from zero (b ∷ bytes) = asked_on (cut (b ∷ bytes)).request (asked_from ((cut (b ∷ bytes)).size - 1) bytes)

-- the requests of an input, up to the next order to store or to quit
abbrev pub asked : List ℕ → List Request
asked input = asked_from 0 input

-- the state after these requests
abbrev pub state_after : {S : Type 0} → (S → Request → Answered S) → S → List Request → S
state_after answer s [] = s
state_after answer s (r ∷ rs) = state_after answer (answer s r).state rs

-- it is no change of the editor
abbrev pub IsNoChange : Request → Type 0
IsNoChange (Does (orders.Change at n cs)) = ⊥
IsNoChange request = Unit {0}

-- so are all of these
abbrev pub AreNoChanges : List Request → Type 0
AreNoChanges [] = Unit {0}
AreNoChanges (r ∷ rs) = IsNoChange r × AreNoChanges rs

-- ---- edits as lines

-- the line that makes this edit. No line leaves a group, and no draft does
abbrev pub edit_lines : Edit → List Request
edit_lines (edits.Insert at cs) = Does (orders.Edit (lines.Insert at cs)) ∷ []
edit_lines (edits.Delete at n) = Does (orders.Edit (lines.Delete at n)) ∷ []
edit_lines edits.Rename = Does (orders.Edit lines.Rename) ∷ []
edit_lines edits.Leave = []

abbrev pub all_lines : List Edit → List Request
all_lines [] = []
all_lines (edit ∷ edits) = edit_lines edit ++ all_lines edits

-- those of what is drafted
abbrev pub draft_lines : {X : Type 0} → Kind X → Seat X → List Request
draft_lines K b = all_lines (plan K (b.sitting).state b.draft)

-- In place of a change that goes on with the draft stands nothing. In place of one that doesn't stand the lines of the draft before it. Before each
-- other request they stand too.
abbrev pub in_place_of : {X : Type 0} → Kind X → Seat X → Request → List Request
in_place_of K b (Does (orders.Change at n cs)) = if goes_with K (b.sitting).state b.draft (draft_of at n cs) then [] else draft_lines K b
in_place_of K b request = draft_lines K b ++ request ∷ []

-- of all requests, and at the end the lines of the draft that is left
abbrev pub in_place : {X : Type 0} → Kind X → Seat X → List Request → List Request
in_place K b [] = draft_lines K b
in_place K b (r ∷ rs) = in_place_of K b r ++ in_place K (respond K b r).state rs
