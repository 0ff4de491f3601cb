-- A session of a member over its file in memory.
use Rattle.std.specs.Prelude.{◌≡◌, ◌++◌, ℕ, true, List, length, map, take, Option, Some, None}
use Rattle.rls_ident.specs.Lists.{IsIn}
use Rattle.rls_codec.specs.CodecLaws.{IsBytes}
use Rattle.rls_io.specs.Device.{Appends}
use Rattle.rls_groups.specs.Events.{Action, AreWritten, Event}
use Rattle.rls_groups.specs.Lives.{Life}
use Rattle.rls_groups.specs.Runs.{IsFileAfter, IsWrittenBy, actions_of, actions_over, answered_in, input_of}
use Rattle.rls_members.specs.Members.{Converge, IsLedBy, MembersSeen, group_of, life_of}

-- ---- the events that it is

-- a member did these, one after another, and all are done
abbrev pub sat : ℕ → List Action → List Event
sat i actions = map (λ action. record { member = i; action = action; done = true }) actions

-- ---- what it may be given

-- where the input is known, it consists of bytes, and each message that the session takes was sent
abbrev pub IsSessionFor : MembersSeen → Option (List ℕ) → Type 0
IsSessionFor m None = ⊥
IsSessionFor m (Some input) = IsBytes input × ((action : Action) → IsIn action (actions_over input) → AreWritten (group_of m) (input_of action))

-- ---- what it leaves

-- By a life in which the member has the file from before, whatever happens in it: a session over this input with the status n left this file, and wrote
-- to an output that told this. With status 0 each of its stores is done, and all that is answered is written. Whatever the status, some of the first
-- stores are done, and what is written is told of these.
pub record IsLeftBy (l : Life) (i : ℕ) (input : List ℕ) (n : ℕ) (now : List ℕ) (old new : Option (List ℕ)) : Type 0 where
  pub all : n ≡ 0 → IsFileAfter l i (actions_over input) (Some now) × ((es : List Event) → actions_of i es ≡ actions_over input → Appends old new (answered_in i l es))
  pub done : ℕ
  pub file : IsFileAfter l i (take done (actions_over input)) (Some now)
  pub written : IsWrittenBy l i (actions_over input) done n old new

-- A session of a member: whatever events led there, some of the first that it does are events more, or all with status 0, and lead to the members
-- afterwards; and what is written is told of these. At each moment of them the law of groups holds: each reply to a message says that nothing was
-- refused, and `t` answers what members with equal counts show.
pub record LeadsOn (m : MembersSeen) (i : ℕ) (input : List ℕ) (n : ℕ) (new : MembersSeen) (old_told new_told : Option (List ℕ)) (es : List Event) : Type 0 where
  pub all : n ≡ 0 → IsLedBy new (es ++ sat i (actions_over input)) × Appends old_told new_told (answered_in i (life_of m es) (sat i (actions_over input)))
  pub done : ℕ
  pub led : IsLedBy new (es ++ sat i (take done (actions_over input)))
  pub written : IsWrittenBy (life_of m es) i (actions_over input) done n old_told new_told
  pub clean : (before after : List Event) → before ++ after ≡ es ++ sat i (actions_over input) → Converge m.group (length m.files) before
