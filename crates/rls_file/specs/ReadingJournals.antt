-- Reading a journal entry by entry into a replica, which decides whether the next one keeps its rule.
use Rattle.std.specs.Prelude.{◌≡◌, ◌-◌, ◌∷◌, ◌++◌, ℕ, true, false, Bool, List, [], length, slice_get, nat_lt, Option, Result, Ok, Err}
use Rattle.std.specs.Int.{w32, w64}
use Rattle.rls_ops.specs.declared.op.Op.{Op}
use Rattle.rls_codec.specs.declared.fault.ReadError.{ReadError}
use Rattle.rls_codec.specs.Gives.{Fails}
use Rattle.rls_codec.specs.Reading.{Read, ◌>>=◌, with_rule, number_at, counted_at, vector_at, op_at, is_member_count}
use Rattle.rls_model.specs.Answers.{Answer, Waits}
use Rattle.rls_model.specs.History.{Entry, Acknowledged, History, Then, me_of, members_of}
use Rattle.rls_model.specs.History.{count as count_in}
use Rattle.rls_model.specs.Receiving.{State}
use Rattle.rls_parts.specs.Rules.{may_wait}
use Rattle.rls_file.specs.Files.{Content}
use Rattle.rls_file.specs.ReadingFiles.{content_at, steps_at, entry_at}
use Rattle.rls_file.specs.Journals.{seen_after}
use Rattle.rls_seen.specs.Seen.{Seen}
use Rattle.rls_seen.specs.Stands.{StandsFor}

-- the replica is the one to which the history has happened, where nothing waits, and stands for it
pub record IsAfter (H : History) (s : Seen) : Type 0 where
  pub is : s ≡ seen_after H
  pub stands : StandsFor s (record { history = H; waiting = [] })

-- reading gives something of which this holds, and what is left; or the fault; unless memory ran out
abbrev pub Brings : {X A : Type 0} → (X → List ℕ) → (A → Type 0) → Result X ReadError → Read A → Type 0
Brings {A = A} rest P (Ok x) read = (a : A) × (read ≡ Ok (a, rest x)) × P a
Brings rest P (Err e) read = Fails e read

-- a member and its vector
abbrev pub acknowledgement_at : ℕ → List ℕ → Read Entry
acknowledgement_at members bytes = do
  from ← with_rule (λ n. nat_lt n members) (number_at w32) bytes
  counts ← vector_at members from.1
  Ok (Acknowledged from.0 counts.0, counts.1)

-- the answer lets an operation wait
abbrev pub waits : Answer → Bool
waits Waits = true
waits _ = false

-- the history and the entry that was read after it
abbrev pub grown : History → Read Entry → Read History
grown H read = read >>= λ e. Ok (Then H e.0, e.1)

-- the history and one entry more
unfoldable pub next_at : History → List ℕ → Read History
next_at H bytes = grown H (entry_at H bytes)

-- the last of these operations, if there is one
abbrev pub last_of : List Op → Option Op
last_of W = slice_get W (length W - 1)

-- an operation that may wait after the last one
abbrev pub waiting_at : History → Option Op → List ℕ → Read Op
waiting_at H before bytes = with_rule (may_wait (members_of H) (me_of H) (count_in H) before) (op_at (members_of H)) bytes

-- the waiting operations and one more
abbrev pub more_waiting_at : State → List ℕ → Read (List Op)
more_waiting_at t bytes = waiting_at t.history (last_of t.waiting) bytes >>= λ o. Ok (t.waiting ++ o.0 ∷ [], o.1)

-- after a history a number of entries, and these, and then a number of waiting operations, and these
unfoldable pub filled_at : History → List ℕ → Read State
filled_at H bytes = do
  count ← number_at w32 bytes
  history ← steps_at entry_at Then H count.0 count.1
  waiting ← counted_at (waiting_at history.0) history.1
  Ok (record { history = history.0; waiting = waiting.0 }, waiting.1)

-- what follows the form of a journal
unfoldable pub after_form_at : List ℕ → Read Content
after_form_at bytes = do
  group ← number_at w64 bytes
  members ← with_rule is_member_count (number_at w32) group.1
  me ← with_rule (λ n. nat_lt n members.0) (number_at w32) members.1
  content_at 1 group.0 members.0 me.0 true me.1
