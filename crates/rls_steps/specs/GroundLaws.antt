-- The statements that what is recorded over a replica's parts is what is recorded over each history that the replica stands for.
use Rattle.std.specs.Prelude.{◌≡◌, ℕ, List, [], ◌∷◌, IsTrue, None}
use Rattle.rls_ops.specs.WellFormed.{IsText}
use Rattle.rls_model.specs.declared.edit.Edit.{Edit}
use Rattle.rls_model.specs.Receiving.{State}
use Rattle.rls_model.specs.Laws.{AreEdits}
use Rattle.rls_replica.specs.Names.{keeps}
use Rattle.rls_seen.specs.Sane.{IsSane}
use Rattle.rls_seen.specs.Seen.{Seen}
use Rattle.rls_seen.specs.Stands.{StandsFor}
use Rattle.rls_steps.specs.declared.piece.Step.{Step}
use Rattle.rls_steps.specs.Marks.{Piece, Put, Cut}
use Rattle.rls_steps.specs.Recorded.{Recorded}
use Rattle.rls_undo.specs.Undoing.{performed, performed_over, refusal, refusal_over}
use Rattle.rls_steps.specs.Grounds.{over, within, Turned, recorded_on, back_on, again_on, kept_on, back_edits, again_edits}

-- the text that was cut out consists of characters
abbrev pub IsSpelled : Piece → Type 0
IsSpelled (Put labels) = Unit {0}
IsSpelled (Cut labels cs left right) = IsText cs

-- so does that of each of these steps
abbrev pub AreSpelled : List Step → Type 0
AreSpelled [] = Unit {0}
AreSpelled (x ∷ xs) = IsSpelled x.piece × AreSpelled xs

abbrev pub IsWhole : Recorded → Type 0
IsWhole r = AreSpelled r.past × AreSpelled r.future

-- what a group leaves over a replica's parts and over a history
pub record AreAlike (a : Turned Seen) (b : Turned State) : Type 0 where
  pub steps : a.steps ≡ b.steps
  pub fault : a.fault ≡ b.fault
  pub recorded : a.recorded ≡ b.recorded
  pub stands : StandsFor a.state b.state
  pub sane : IsSane a.state
  pub whole : IsWhole a.recorded
  pub kept : IsTrue (keeps a.state a.recorded.epoch)

abbrev pub TurnedAlike : Type 0
TurnedAlike = (s : Seen) (t : State) (r : Recorded) → StandsFor s t → IsSane s → IsTrue (keeps s r.epoch) → IsWhole r →
    AreAlike (back_on over s r) (back_on within t r) × AreAlike (again_on over s r) (again_on within t r)

abbrev pub RecordedAlike : Type 0
RecordedAlike = (s : Seen) (t : State) (edit : Edit) (r : Recorded) → StandsFor s t → IsTrue (keeps s r.epoch) → IsWhole r →
    (recorded_on over s edit r ≡ recorded_on within t edit r) × IsWhole (recorded_on over s edit r)

abbrev pub KeptAlike : Type 0
KeptAlike = (s : Seen) (t : State) (steps chars : ℕ) (r : Recorded) → StandsFor s t → IsTrue (keeps s r.epoch) → IsWhole r →
    (kept_on over s steps chars r ≡ kept_on within t steps chars r) × IsWhole (kept_on over s steps chars r)

-- these edits, none of which is refused, lead from one replica to another
pub record ArePerformed (s : Seen) (es : List Edit) (n : Seen) : Type 0 where
  pub state : n ≡ performed_over s es
  pub fit : refusal_over s es ≡ None
  pub whole : AreEdits es

-- and from one history to another
pub record ArePerformedIn (t : State) (es : List Edit) (n : State) : Type 0 where
  pub state : n ≡ performed t es
  pub fit : refusal t es ≡ None

-- what is told as the edits of an undo or a redo leads to the state after it, also where one is refused
abbrev pub TurnedPerformed : Type 0
TurnedPerformed = (s : Seen) (r : Recorded) → IsSane s → IsWhole r →
    ArePerformed s (back_edits over s r) (back_on over s r).state × ArePerformed s (again_edits over s r) (again_on over s r).state

-- so it does over a history
abbrev pub TurnedPerformedIn : Type 0
TurnedPerformedIn = (t : State) (r : Recorded) → ArePerformedIn t (back_edits within t r) (back_on within t r).state × ArePerformedIn t (again_edits within t r) (again_on within t r).state

-- where these are the same
abbrev pub TurnedEditsAlike : Type 0
TurnedEditsAlike = (s : Seen) (t : State) (r : Recorded) → StandsFor s t → IsSane s → IsTrue (keeps s r.epoch) → IsWhole r →
    (back_edits over s r ≡ back_edits within t r) × (again_edits over s r ≡ again_edits within t r)
