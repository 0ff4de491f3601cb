-- What it does to the text that a group is taken back or done again.
use Rattle.std.specs.Prelude.{◌≡◌, ℕ, zero, suc, List, [], ◌∷◌, ◌++◌, None}
use Rattle.rls_model.specs.declared.edit.Edit.{Edit}
use Rattle.rls_model.specs.Receiving.{State}
use Rattle.rls_model.specs.WellFormed.{IsEdit}
use Rattle.rls_seen.specs.Edits.{edit_fault_over, edited}
use Rattle.rls_seen.specs.Over.{released_all}
use Rattle.rls_seen.specs.Sane.{IsSane}
use Rattle.rls_seen.specs.Seen.{Seen, text_over}
use Rattle.rls_undo.specs.declared.entry.Entry.{Entry}
use Rattle.rls_undo.specs.Undoing.{entries_over, performed_over, planned_over, refusal_over}
use Rattle.rls_steps.specs.declared.piece.Piece.{Piece}
use Rattle.rls_steps.specs.Courses.{Back, IsTakenBack, Steps, moved}
use Rattle.rls_steps.specs.GroundLaws.{IsWhole}
use Rattle.rls_steps.specs.Grounds.{Turned}
use Rattle.rls_steps.specs.Groups.{group_size, turned}
use Rattle.rls_steps.specs.Labelled.{Labelled}
use Rattle.rls_steps.specs.Recorded.{steps_over}
use Rattle.rls_session.specs.declared.orders.Order.TheVariants.{Undo}
use Rattle.rls_session.specs.Answers.{Sitting, answer, with_begun}
use Rattle.rls_session.specs.InPlace.{edit_lines, state_after}
use Rattle.rls_session.specs.Requests.{Does}
use Rattle.rls_session.specs.SessionLaws.{IsOfHistory}
use Rattle.rls_session.specs.Sessions.{by_parts}

-- the first of these pieces is taken back, if there is one: of what was put in just those characters go that are still in the text; what was
-- cut out stands in its place; and nothing else changes
abbrev pub IsFirstBack : Labelled → List Piece → Seen → Type 0
IsFirstBack h [] new = new ≡ h.seen
IsFirstBack h (p ∷ ps) new = IsTakenBack h p new

-- so are as many steps as this, one after another
abbrev pub AreBack : ℕ → Steps → Seen → Type 0
AreBack zero st new = new ≡ (st.held).seen
AreBack (suc k) st new = IsFirstBack st.held st.past ((moved st Back).held).seen × AreBack k (moved st Back) new

-- what `z` and `y` come to at a sitting, once what is recorded has begun
abbrev pub turned_by_back : Sitting Seen → Turned Seen
turned_by_back d = let e = with_begun by_parts d in by_parts.backed e.state e.recorded

abbrev pub turned_by_again : Sitting Seen → Turned Seen
turned_by_again d = let e = with_begun by_parts d in by_parts.redone e.state e.recorded

-- the steps of a sitting then
abbrev pub begun_steps : Sitting Seen → Steps
begun_steps d = let e = with_begun by_parts d in steps_over e.state e.recorded

-- a group that is taken back, or done again, does so step by step: only own characters of the group that are still in the text go, what was cut
-- out stands beside its neighbour (`rls_steps::laws::taken_back`), and nothing else changes; unless an edit is refused
abbrev pub BackTakesOwn : Sitting Seen → Type 0
BackTakesOwn d = (turned_by_back d).fault ≡ None → AreBack (group_size (d.recorded).past) (begun_steps d) (turned_by_back d).state

abbrev pub AgainTakesOwn : Sitting Seen → Type 0
AgainTakesOwn d = (turned_by_again d).fault ≡ None → AreBack (group_size (d.recorded).future) (turned (begun_steps d)) (turned_by_again d).state

-- so it is in every state, whatever others did
abbrev pub TurnsTakeOwn : Type 0
TurnsTakeOwn = (d : Sitting Seen) → IsSane d.state → IsWhole d.recorded → BackTakesOwn d × AgainTakesOwn d

-- An edit that `u` takes back at once gives the text before, unless an edit of that is refused, and where nothing that waits becomes ready. Else `u`
-- takes out what is left of the edit's characters, or puts back what it took out (`rls_undo::laws::undoes`).
abbrev pub UndoneAtOnce : Type 0
UndoneAtOnce = (d : Sitting Seen) (t : State) (edit : Edit) (entry : Entry) → IsOfHistory d t → IsEdit edit → edit_fault_over d.state edit ≡ None → entries_over d.state edit ≡ entry ∷ [] →
    let n = edited d.state edit in let m = performed_over n (planned_over n entry) in
    released_all n ≡ n → refusal_over n (planned_over n entry) ≡ None → released_all m ≡ m →
    text_over ((state_after (answer by_parts) d (edit_lines edit ++ Does Undo ∷ [])).state) ≡ text_over d.state
