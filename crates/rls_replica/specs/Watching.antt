-- What is told while operations are received, released and taken, by a watcher that is shown each operation right before it is accepted.
use Rattle.std.specs.Prelude.{◌≡◌, ℕ, zero, suc, List, [], ◌∷◌, ◌++◌, false, length, Option, Some, None}
use Rattle.rls_ops.specs.declared.op.Op.{Op}
use Rattle.rls_ops.specs.declared.message.Message.{Message}
use Rattle.rls_model.specs.declared.edit.Edit.{Edit}
use Rattle.rls_model.specs.declared.receipt.Taken.{Taken}
use Rattle.rls_model.specs.Answers.{Reason, Answer, Applies}
use Rattle.rls_model.specs.Machine.{Limit, Machine, Stage, started, acknowledge_on, take_on}
use Rattle.rls_model.specs.WellFormed.{IsOp}
use Rattle.rls_seen.specs.Edits.{made_over}
use Rattle.rls_seen.specs.Messages.{by_parts}
use Rattle.rls_seen.specs.Over.{answer_over, refusal_over, first_ready, received, released, acknowledged}
use Rattle.rls_seen.specs.Sane.{IsSane}
use Rattle.rls_seen.specs.Seen.{Seen}

-- ---- what is told of a step

-- of an operation that was answered so
abbrev pub if_applied : {T : Type 0} → Answer → List T → List T
if_applied Applies ts = ts
if_applied _ ts = []

-- of one that waited, with the reason to refuse it, if there is one
abbrev pub if_fits : {T : Type 0} → Option Reason → List T → List T
if_fits None ts = ts
if_fits (Some r) ts = []

-- if an operation arrives, where `tells` is what is told of one that is accepted
abbrev pub received_told : {T : Type 0} → (Seen → Op → List T) → Seen → Op → List T
received_told tells s o = if_applied (answer_over false s o) (tells s o)

-- if the first ready one is released
abbrev pub ready_told : {T : Type 0} → (Seen → Op → List T) → Seen → Option Op → List T
ready_told tells s None = []
ready_told tells s (Some w) = if_fits (refusal_over s w) (tells s w)

abbrev pub released_told : {T : Type 0} → (Seen → Op → List T) → Seen → List T
released_told tells s = ready_told tells s (first_ready s)

-- if n of them are released, and if all are until none is ready
abbrev pub times_told : {T : Type 0} → (Seen → Op → List T) → ℕ → Seen → List T
times_told tells zero s = []
times_told tells (suc n) s = released_told tells s ++ times_told tells n (released s)

unfoldable pub all_released_told : {T : Type 0} → (Seen → Op → List T) → Seen → List T
all_released_told tells s = times_told tells (length s.waiting) s

-- ---- a machine that tells

-- a state, and what was told on the way to it
pub record Told (X T : Type 0) : Type 0 where
  pub state : X
  pub told : List T

-- nothing was told yet
abbrev pub told_at : {X T : Type 0} → X → Told X T
told_at s = record { state = s; told = [] }

-- the next state, with what was told on the way
abbrev pub told_on : {X T : Type 0} → Told X T → X → List T → Told X T
told_on t s ts = record { state = s; told = t.told ++ ts }

-- the machine whose states have beside them what was told
abbrev pub telling : {X T : Type 0} → Machine X → (X → Op → List T) → (X → List T) → (X → Edit → List T) → Machine (Told X T)
telling M receives releases edits = record {
  answer = λ t o. M.answer t.state o;
  after_receive = λ t o. told_on t (M.after_receive t.state o) (receives t.state o);
  waiting = λ t. M.waiting t.state;
  next_release = λ t. M.next_release t.state;
  after_release = λ t. told_on t (M.after_release t.state) (releases t.state);
  after_acknowledge = λ t a v. record { state = M.after_acknowledge t.state a v; told = t.told };
  edit_fault = λ t edit. M.edit_fault t.state edit;
  after_edit = λ t edit. told_on t (M.after_edit t.state edit) (edits t.state edit);
}

abbrev pub watched : {T : Type 0} → (Seen → Op → List T) → Machine (Told Seen T)
watched tells = telling by_parts (received_told tells) (released_told tells) (λ s edit. tells s (made_over s edit))

-- ---- messages

-- a replica on the way, with what was counted and what was told so far
abbrev pub told_course : {T : Type 0} → Seen → Taken → List T → Stage (Told Seen T)
told_course s t ts = record { state = record { state = s; told = ts }; limit = None; counts = t }

-- the message is taken in at most this many steps
unfoldable pub watched_within : {T : Type 0} → (Seen → Op → List T) → Limit → Seen → Message → Stage (Told Seen T)
watched_within tells limit s m = acknowledge_on (watched tells) (take_on (watched tells) (started limit (told_at s)) m.ops) m.from m.vector

-- what is told of a message
abbrev pub taken_told : {T : Type 0} → (Seen → Op → List T) → Seen → Message → List T
taken_told tells s m = (watched_within tells None s m).state.told

-- ---- the steps that were made

-- an operation was received, the first ready one released, or noted how much a member has accepted
pub data Step : Type 0 where
  Receives : (op : Op) → Step
  Releases : Step
  Notes : (from : ℕ) → (vector : List ℕ) → Step

abbrev pub after_step : Seen → Step → Seen
after_step s (Receives o) = received s o
after_step s Releases = released s
after_step s (Notes a v) = acknowledged s a v

abbrev pub step_told : {T : Type 0} → (Seen → Op → List T) → Seen → Step → List T
step_told tells s (Receives o) = received_told tells s o
step_told tells s Releases = released_told tells s
step_told tells s (Notes a v) = []

-- an operation that is received is well formed
abbrev pub IsStep : Step → Type 0
IsStep (Receives o) = IsOp o
IsStep Releases = Unit {0}
IsStep (Notes a v) = Unit {0}

-- these steps lead from one replica, which is sane before each of them, to another, and this is told on the way
abbrev pub Leads : {T : Type 0} → (Seen → Op → List T) → List Step → Seen → Seen → List T → Type 0
Leads {T} tells [] s u ts = (u ≡ s) × (ts ≡ [])
Leads {T} tells (x ∷ xs) s u ts = IsSane s × IsStep x × (rest : List T) × (ts ≡ step_told tells s x ++ rest) × Leads tells xs (after_step s x) u rest

-- what was told after the rest is what such a watcher tells of the steps that lead from one replica to another
pub record IsTold {T : Type 0} (tells : Seen → Op → List T) (old new : Seen) (before after : List T) : Type 0 where
  pub steps : List Step
  pub fresh : List T
  pub added : after ≡ before ++ fresh
  pub led : Leads tells steps old new fresh
