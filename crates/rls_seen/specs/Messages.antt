-- The message for a member, and what comes of taking one, read over what a replica consists of.
use Rattle.std.specs.Prelude.{◌≡◌, ℕ, ◌<◌, false, List, Option, Some, None}
use Rattle.rls_ident.specs.declared.limits.TheConstants.{INPUT_BYTES}
use Rattle.rls_ident.specs.Vectors.{join}
use Rattle.rls_ops.specs.declared.op.Op.{Op}
use Rattle.rls_ops.specs.declared.message.Message.{Message}
use Rattle.rls_ops.specs.Rows.{row_of, missing_for}
use Rattle.rls_ops.specs.Sizes.{head_size}
use Rattle.rls_model.specs.declared.edit.Edit.{Edit}
use Rattle.rls_model.specs.declared.receipt.Taken.{Taken}
use Rattle.rls_model.specs.Answers.{Released}
use Rattle.rls_model.specs.Rules.{told_of}
use Rattle.rls_model.specs.Taking.{front_within}
pub use Rattle.rls_model.specs.Machine.{Limit, has_room, one_less, started, moved, with_answer, with_refusal}
use Rattle.rls_model.specs.Machine.{Machine, Stage, with_release_on, receive_on, release_on, releases_on, release_all_on, acknowledge_on, edit_on, take_on}
use Rattle.rls_model.specs.WellFormed.{IsVector, AreOps}
use Rattle.rls_seen.specs.Seen.{Seen, vector, members, stable_over}
use Rattle.rls_seen.specs.Over.{answer_over, received, release_over, released, acknowledged}
use Rattle.rls_seen.specs.Edits.{edit_fault_over, edited}

-- ---- the message for a member

-- the kept operations that these counts don't cover, as many as a message holds
unfoldable pub message_beyond : Seen → List ℕ → Message
message_beyond s known = record {
  group = s.group;
  members = members s;
  from = s.acks.me;
  vector = vector s;
  ops = front_within (head_size (members s)) INPUT_BYTES (missing_for known s.log);
}

-- what is stable, and what the member's row covers
abbrev pub known_over : Seen → ℕ → List ℕ
known_over s to = join (row_of s.acks to) (stable_over s)

-- the unstable operations that the member's row doesn't cover, as many as a message holds
abbrev pub message_over : Seen → ℕ → Message
message_over s to = message_beyond s (known_over s to)

-- what is stable, and what the member has by its row and by these counts, which it told, or made itself
abbrev pub told_over : Seen → ℕ → List ℕ → List ℕ
told_over s to told = join (join (row_of s.acks to) (told_of (vector s) to told)) (stable_over s)

-- the message for a member that told these counts
abbrev pub message_told_over : Seen → ℕ → List ℕ → Message
message_told_over s to told = message_beyond s (told_over s to told)

-- ---- a replica by what it consists of

-- the machine whose states are what replicas consist of
abbrev pub by_parts : Machine Seen
by_parts = record {
  answer = answer_over false;
  after_receive = received;
  waiting = λ s. s.waiting;
  next_release = release_over;
  after_release = released;
  after_acknowledge = acknowledged;
  edit_fault = edit_fault_over;
  after_edit = edited;
}

-- a replica on the way
abbrev pub Course : Type 0
Course = Stage Seen

-- ---- its steps

abbrev pub receive_step : Course → Op → Course
receive_step c o = receive_on by_parts c o

abbrev pub with_release : Course → Option Released → Course
with_release c r = with_release_on by_parts c r

abbrev pub release_step : Course → Course
release_step c = release_on by_parts c

abbrev pub release_steps : ℕ → Course → Course
release_steps n c = releases_on by_parts n c

abbrev pub with_releases : Course → Course
with_releases c = release_all_on by_parts c

abbrev pub acknowledge_step : Course → ℕ → List ℕ → Course
acknowledge_step c a v = acknowledge_on by_parts c a v

abbrev pub take_ops : Course → List Op → Course
take_ops c os = take_on by_parts c os

abbrev pub edit_step : Course → Edit → Course
edit_step c edit = edit_on by_parts c edit

-- the message is taken in at most this many steps
unfoldable pub taken_within : Limit → Seen → Message → Course
taken_within limit s m = acknowledge_step (take_ops (started limit s) m.ops) m.from m.vector

-- the message is taken
abbrev pub taken_over : Seen → Message → Course
taken_over s m = taken_within None s m

-- what is answered then
abbrev pub taken_of : Course → Taken
taken_of c = c.counts

-- ---- what a message may hold

-- the sender is a member, its vector has a count for each, and the operations are well formed
pub record IsMessage (n : ℕ) (m : Message) : Type 0 where
  pub from : m.from < n
  pub vector : IsVector n m.vector
  pub ops : AreOps m.ops

-- ---- cut short

-- after some of the steps of taking the message
abbrev pub IsPartTaken : Seen → Message → Seen → Type 0
IsPartTaken old m new = (n : ℕ) × (new ≡ (taken_within (Some n) old m).state)
