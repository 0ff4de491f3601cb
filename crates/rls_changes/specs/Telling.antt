-- Receiving, releasing, acknowledging and editing, with what changes in the text meanwhile.
use Rattle.std.specs.Prelude.{ℕ, zero, suc, List, [], ◌++◌, length, Option, Some, None}
use Rattle.rls_ops.specs.declared.op.Op.{Op}
use Rattle.rls_ops.specs.declared.message.Message.{Message}
use Rattle.rls_model.specs.Editing.{made}
use Rattle.rls_model.specs.Fitting.{refusal}
use Rattle.rls_model.specs.Machine.{Limit, Machine, Stage, started, acknowledge_on, take_on}
use Rattle.rls_model.specs.Receiving.{State, receive, release_after}
use Rattle.rls_model.specs.Receiving as model
use Rattle.rls_model.specs.Taking.{by_history}
use Rattle.rls_seen.specs.Seen.{Seen}
use Rattle.rls_replica.specs.Watching.{if_applied, if_fits, received_told, ready_told, released_told, times_told, Told, told_at, telling, watched}
use Rattle.rls_changes.specs.declared.change.Change.{Change}
use Rattle.rls_changes.specs.Changes.{changes_over, changes_in}

-- ---- what a step changes

-- if an operation arrives, and if the first ready one is released
abbrev pub received_changes : Seen → Op → List Change
received_changes s o = received_told changes_over s o

abbrev pub ready_changes : Seen → Option Op → List Change
ready_changes s o = ready_told changes_over s o

abbrev pub released_changes : Seen → List Change
released_changes s = released_told changes_over s

-- the same over a history and what waits beside it
abbrev pub received_changes_in : State → Op → List Change
received_changes_in t o = if_applied (receive t o) (changes_in t.history o)

abbrev pub ready_changes_in : State → Option Op → List Change
ready_changes_in t None = []
ready_changes_in t (Some w) = if_fits (refusal t.history w) (changes_in t.history w)

abbrev pub released_changes_in : State → List Change
released_changes_in t = ready_changes_in t (model.first_ready t)

-- ---- machines that tell them

abbrev pub tells_parts : Machine (Told Seen Change)
tells_parts = watched changes_over

abbrev pub tells_history : Machine (Told State Change)
tells_history = telling by_history received_changes_in released_changes_in (λ t edit. changes_in t.history (made t.history edit))

-- ---- messages, and what is ready

-- the message is taken in at most this many steps
unfoldable pub told_within : Limit → Seen → Message → Stage (Told Seen Change)
told_within limit s m = acknowledge_on tells_parts (take_on tells_parts (started limit (told_at s)) m.ops) m.from m.vector

unfoldable pub told_in : Limit → State → Message → Stage (Told State Change)
told_in limit t m = acknowledge_on tells_history (take_on tells_history (started limit (told_at t)) m.ops) m.from m.vector

-- what a message changes
abbrev pub taken_changes : Seen → Message → List Change
taken_changes s m = (told_within None s m).state.told

abbrev pub taken_changes_in : State → Message → List Change
taken_changes_in t m = (told_in None t m).state.told

-- what n releases change, and releases until none is ready
abbrev pub times_changes : ℕ → Seen → List Change
times_changes n s = times_told changes_over n s

unfoldable pub all_released_changes : Seen → List Change
all_released_changes s = times_changes (length s.waiting) s

abbrev pub times_changes_in : ℕ → State → List Change
times_changes_in zero t = []
times_changes_in (suc n) t = released_changes_in t ++ times_changes_in n (release_after t)

unfoldable pub all_released_changes_in : State → List Change
all_released_changes_in t = times_changes_in (length t.waiting) t
