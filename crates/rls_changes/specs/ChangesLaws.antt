-- The statements of the laws.
use Rattle.std.specs.Prelude.{◌≡◌, ℕ, ◌+◌, ◌++◌, List, [], ◌∷◌, length, None, IsTrue}
use Rattle.rls_ident.specs.declared.tuple.Tuple.{Tuple}
use Rattle.rls_ident.specs.Lists.{IsIn}
use Rattle.rls_ops.specs.declared.op.Op.{Op}
use Rattle.rls_ops.specs.declared.op.Body.TheVariants as body
use Rattle.rls_ops.specs.declared.message.Message.{Message}
use Rattle.rls_ops.specs.WellFormed.{IsInRange}
use Rattle.rls_model.specs.declared.edit.Edit.{Edit}
use Rattle.rls_model.specs.declared.edit.Edit.TheVariants as edits
use Rattle.rls_model.specs.Machine.{Limit}
use Rattle.rls_model.specs.MachineLaws.{IsAlike}
use Rattle.rls_model.specs.Receiving.{State}
use Rattle.rls_model.specs.WellFormed.{IsEdit}
use Rattle.rls_seen.specs.Edits.{edit_fault_over, made_over}
use Rattle.rls_seen.specs.Messages.{IsMessage, taken_within}
use Rattle.rls_seen.specs.Over.{accepted}
use Rattle.rls_seen.specs.Sane.{IsSane, MayApply}
use Rattle.rls_seen.specs.Seen.{Seen, members, text_over}
use Rattle.rls_seen.specs.Stands.{StandsFor}
use Rattle.rls_replica.specs.Names.{keeps}
use Rattle.rls_changes.specs.declared.change.Change.{Change}
use Rattle.rls_changes.specs.declared.change.Change.TheVariants.{Insert, Delete}
use Rattle.rls_changes.specs.Changes.{played, inserted_by, deleted_by, changes_over, changes_in}
use Rattle.rls_replica.specs.Watching.{Told}
use Rattle.rls_changes.specs.Telling.{told_within, told_in, all_released_changes, all_released_changes_in}

-- the changes of an operation that is accepted, played over the text before it, give the text after it
abbrev pub ChangesPlayed : Type 0
ChangesPlayed = (s : Seen) (o : Op) → IsSane s → MayApply s o → played (changes_over s o) (text_over s) ≡ text_over (accepted s o)

-- those of an insertion insert just its characters, in order, and delete none; those of a deletion insert none, and delete as many as are
-- gone afterwards; a rename and a leave have none
abbrev pub ChangesExact : Type 0
ChangesExact = (s : Seen) (o : Op) →
    ((first : List Tuple) (text : List ℕ) → o.body ≡ body.Insert first text → (inserted_by (changes_over s o) ≡ text) × (deleted_by (changes_over s o) ≡ 0))
    × ((targets : List (List Tuple)) → o.body ≡ body.Delete targets →
    (inserted_by (changes_over s o) ≡ []) × (deleted_by (changes_over s o) + length (text_over (accepted s o)) ≡ length (text_over s)))
    × ((former : List (List Tuple)) → o.body ≡ body.Rename former → changes_over s o ≡ [])
    × (o.body ≡ body.Leave → changes_over s o ≡ [])

-- what an edit changes
abbrev pub own_changes : Edit → List Change
own_changes (edits.Insert at text) = Insert at text ∷ []
own_changes (edits.Delete at n) = Delete at n ∷ []
own_changes edits.Rename = []
own_changes edits.Leave = []

-- the change of an own insertion or deletion that isn't refused is itself
abbrev pub OwnChanges : Type 0
OwnChanges = (s : Seen) (edit : Edit) → IsSane s → IsEdit edit → edit_fault_over s edit ≡ None → changes_over s (made_over s edit) ≡ own_changes edit

-- the changes are those of each history that the replica stands for
abbrev pub ChangesAlike : Type 0
ChangesAlike = (s : Seen) (t : State) (o : Op) → StandsFor s t → IsTrue (keeps s o.epoch) → changes_over s o ≡ changes_in t.history o

-- telling changes nothing else: each message leads to the same replica, and the same is counted, step by step
abbrev pub TellsBeside : Type 0
TellsBeside = (limit : Limit) (s : Seen) (m : Message) → IsAlike (λ (t : Told Seen Change) (u : Seen). t.state ≡ u) (told_within limit s m) (taken_within limit s m)

-- the offsets of what is inserted are in range
abbrev pub AreInRange : List Op → Type 0
AreInRange os = (o : Op) → IsIn o os → IsInRange o.body

-- the changes of a message, or of some of its steps, lead from the text before to the text after
abbrev pub TakenPlayed : Type 0
TakenPlayed = (limit : Limit) (s : Seen) (m : Message) → IsSane s → IsMessage (members s) m → AreInRange m.ops →
    played (told_within limit s m).state.told (text_over s) ≡ text_over (taken_within limit s m).state

-- both are those of each history that the replica stands for
abbrev pub TakenAlike : Type 0
TakenAlike = (limit : Limit) (s : Seen) (t : State) (m : Message) → IsSane s → StandsFor s t → IsMessage (members s) m → AreInRange m.ops →
    (told_within limit s m).state.told ≡ (told_in limit t m).state.told

-- and so are those of releases until none is ready
abbrev pub ReleasedAlike : Type 0
ReleasedAlike = (s : Seen) (t : State) → IsSane s → StandsFor s t → all_released_changes s ≡ all_released_changes_in t

-- ---- of calls

-- the changes that were added lead from the one text to the other
pub record Lead (old new : List Change) (before after : List ℕ) : Type 0 where
  pub fresh : List Change
  pub added : new ≡ old ++ fresh
  pub leads : played fresh before ≡ after
