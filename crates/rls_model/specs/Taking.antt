-- Messages, and what comes of taking one, step by step.
use Rattle.std.specs.Prelude.{◌≡◌, ℕ, List, Option, None, Some, if◌then◌else◌}
use Rattle.rls_ops.specs.declared.op.Op.{Op}
use Rattle.rls_ops.specs.declared.message.Message.{Message}
pub use Rattle.rls_ops.specs.Sizes.{front_within}
pub use Rattle.rls_ops.specs.Rows.{missing_for}
use Rattle.rls_model.specs.declared.receipt.Taken.{Taken}
use Rattle.rls_model.specs.Answers.{Released}
use Rattle.rls_ident.specs.Vectors.{join}
use Rattle.rls_model.specs.History.{Acknowledged, History, Then, count, row}
use Rattle.rls_model.specs.Stability.{is_counted}
use Rattle.rls_model.specs.Receiving.{State, accept, receive, receive_after, release, release_after}
use Rattle.rls_model.specs.View.{plain_of}
use Rattle.rls_model.specs.Rules as rules
use Rattle.rls_model.specs.Editing.{made, edit_fault}
pub use Rattle.rls_model.specs.Machine.{Limit, has_room, one_less, started, moved, with_answer, with_refusal}
use Rattle.rls_model.specs.Machine.{Machine, Stage, with_release_on, receive_on, release_on, releases_on, release_all_on, acknowledge_on, take_on}

-- ---- the message for a member

-- the unstable operations that the member's row doesn't cover, as many as a message holds
unfoldable pub message_for : History → ℕ → Message
message_for H to = rules.message_for (plain_of H) (row H to)

-- what the member has by its row and by these counts, which it told, or made itself
abbrev pub told_row : History → ℕ → List ℕ → List ℕ
told_row H to told = join (row H to) (rules.told_of (count H) to told)

-- the message for a member that told these counts, of which no one need be noted: the unstable operations of others that neither its row nor
-- these counts cover, as many as a message holds
unfoldable pub message_told : History → ℕ → List ℕ → Message
message_told H to told = rules.message_for (plain_of H) (told_row H to told)

-- ---- a replica by its history

-- an acknowledgement is noted where it is counted
abbrev pub acknowledge : State → ℕ → List ℕ → State
acknowledge s a v =
    if is_counted s.history a v then record { history = Then s.history (Acknowledged a v); waiting = s.waiting } else s

-- the machine whose states are histories and what waits
abbrev pub by_history : Machine State
by_history = record {
  answer = receive;
  after_receive = receive_after;
  waiting = λ s. s.waiting;
  next_release = release;
  after_release = release_after;
  after_acknowledge = acknowledge;
  edit_fault = λ s edit. edit_fault s.history edit;
  after_edit = λ s edit. accept s (made s.history edit);
}

-- a history on the way
abbrev pub Progress : Type 0
Progress = Stage State

-- ---- its steps

abbrev pub receive_step : Progress → Op → Progress
receive_step p o = receive_on by_history p o

abbrev pub with_release : Progress → Option Released → Progress
with_release p r = with_release_on by_history p r

abbrev pub release_step : Progress → Progress
release_step p = release_on by_history p

abbrev pub release_steps : ℕ → Progress → Progress
release_steps n p = releases_on by_history n p

abbrev pub with_releases : Progress → Progress
with_releases p = release_all_on by_history p

abbrev pub acknowledge_step : Progress → ℕ → List ℕ → Progress
acknowledge_step p a v = acknowledge_on by_history p a v

abbrev pub take_ops : Progress → List Op → Progress
take_ops p os = take_on by_history p os

-- the message is taken in at most this many steps
unfoldable pub take_within : Limit → State → Message → Progress
take_within limit s m = acknowledge_step (take_ops (started limit s) m.ops) m.from m.vector

-- the message is taken
abbrev pub take_message : State → Message → Progress
take_message s m = take_within None s m

-- the state is one after some number of the steps of taking the message, as want of memory leaves it
abbrev pub IsPartTaken : State → Message → State → Type 0
IsPartTaken s m t = (n : ℕ) × ((take_within (Some n) s m).state ≡ t)

-- what is answered then
abbrev pub taken : Progress → Taken
taken p = p.counts
