-- A group that is taken back or done again: one or the other is told by a direction.
use Rattle.std.specs.Prelude.{ℕ, List, replicate}
use Rattle.rls_model.specs.declared.edit.Edit.{Edit}
use Rattle.rls_model.specs.declared.edit.EditError.{EditError}
use Rattle.rls_seen.specs.Seen.{Seen}
use Rattle.rls_changes.specs.declared.change.Change.{Change}
use Rattle.rls_steps.specs.declared.steps.Turn.{Turn}
use Rattle.rls_steps.specs.declared.steps.Turn.TheVariants as turns
use Rattle.rls_steps.specs.Courses.{Move, Back, Again}
use Rattle.rls_steps.specs.Grounds.{Ground, Turned, back_on, again_on, back_edits, exchanged}
use Rattle.rls_steps.specs.Groups.{group_size, IsStopped}
use Rattle.rls_steps.specs.Recorded.{Recorded, steps_over}
use Rattle.rls_steps.specs.StepChanges.{back_changes}

-- what is recorded as a turn finds it: the steps that it takes are those that can be taken back, also where it does a group again
abbrev pub facing : Turn → Recorded → Recorded
facing turns.Back r = r
facing turns.Again r = exchanged r

-- how many steps the group has
abbrev pub turn_size : Turn → Recorded → ℕ
turn_size turn r = group_size (facing turn r).past

-- as many moves
abbrev pub move_of : Turn → Move
move_of turns.Back = Back
move_of turns.Again = Again

abbrev pub moves_of : Turn → Recorded → List Move
moves_of turn r = replicate (turn_size turn r) (move_of turn)

-- what it leaves, and the edits that it makes, up to the first that is refused
abbrev pub turned_on : {X : Type 0} → Ground X → Turn → X → Recorded → Turned X
turned_on G turns.Back s r = back_on G s r
turned_on G turns.Again s r = again_on G s r

abbrev pub turned_edits : {X : Type 0} → Ground X → Turn → X → Recorded → List Edit
turned_edits G turn s r = back_edits G s (facing turn r)

-- what it changes in the text
abbrev pub turned_changes : Turn → Seen → Recorded → List Change
turned_changes turn s r = back_changes (turn_size turn r) (steps_over s (facing turn r))

-- where it stopped at this error: some steps of the group were taken, and a part of the next one
abbrev pub IsTurnStopped : EditError → Turn → Seen → Recorded → Seen → Recorded → Type 0
IsTurnStopped e turn s r n q =
    let from = facing turn r in
    let to = facing turn q in
    IsStopped e (steps_over s from).held from.past from.future (steps_over n to).held to.past to.future
