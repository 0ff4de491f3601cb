-- Two members who send each other messages in turn, each by the counts that the other told last: whatever a message holds, each message brings
-- something, until nothing is missing.
use Rattle.std.specs.Prelude.{◌≡◌, ◌≤◌, ◌⊎◌, ◌+◌, ℕ, zero, suc, List, [], ◌∷◌, ◌++◌, length, slice_get, slice_index, slice_set, Option, Some, None, IsFalse}
use Rattle.rls_ident.specs.Lists.{IsIn}
use Rattle.rls_ops.specs.declared.message.Message.{Message}
use Rattle.rls_ops.specs.declared.op.Op.{Op}
use Rattle.rls_ops.specs.Sizes.{head_size, op_size}
use Rattle.rls_model.specs.History.{History, count, has_left, members_of, ops}
use Rattle.rls_model.specs.Laws.{IsAfter, IsAt}
use Rattle.rls_model.specs.Receiving.{State}
use Rattle.rls_model.specs.Rules as rules
use Rattle.rls_model.specs.Taking.{message_told, take_message, told_row}
use Rattle.rls_model.specs.View.{plain_of}
use Rattle.rls_model.specs.Worlds.{World, Happening, run, AreWhole}

-- the message for a member that told these counts, if a message has at most this many bytes
abbrev pub told_within : ℕ → History → ℕ → List ℕ → Message
told_within limit H to told = rules.message_within limit (plain_of H) (told_row H to told)

-- The counts are what the member with this number has accepted of the others: it told them, and has taken nothing since. It may have made
-- operations since.
abbrev pub AreTold : List ℕ → ℕ → History → Type 0
AreTold told j H = (length told ≡ length (count H)) × ((a : ℕ) → (a ≡ j → ⊥) → slice_index told a ≡ slice_index (count H) a)

-- each operation of the history has room in a message of so many bytes, beside its head
abbrev pub HaveRoom : ℕ → History → Type 0
HaveRoom limit H = (o : Op) → IsIn o (ops H) → head_size (members_of H) + op_size o ≤ limit

-- what the one has the other has
abbrev pub HasAll : History → History → Type 0
HasAll H K = (o : Op) → IsIn o (ops H) → IsIn o (ops K)

-- between these states of a member, it was brought an operation that the sender has
abbrev pub IsBrought : History → History → History → Type 0
IsBrought H K L = (o : Op) × IsIn o (ops H) × (IsIn o (ops K) → ⊥) × IsIn o (ops L)

-- So the message of a member for another one, which it doesn't know to have left, brings something, or nothing is missing.
abbrev pub Brings : ℕ → World → Type 0
Brings limit w = (i j : ℕ) (s t : State) (told : List ℕ) → IsAt w i s → IsAt w j t → IsFalse (has_left s.history j) → AreTold told j t.history → HaveRoom limit s.history →
    HasAll s.history t.history ⊎ IsBrought s.history t.history ((take_message t (told_within limit s.history j told)).state).history

-- ---- in turn

-- the world after the one with this state has sent such a message to member j, which has taken it
abbrev pub exchange_at : ℕ → World → ℕ → Option State → Option State → World
exchange_at limit w j (Some s) (Some t) =
    let m = told_within limit s.history j (count t.history) in
    record { states = slice_set w.states j (take_message t m).state; sent = w.sent ++ m ∷ [] }
exchange_at limit w j _ _ = w

-- by the counts that member j told when it sent its last message: it has taken nothing since
abbrev pub exchanged : ℕ → World → ℕ → ℕ → World
exchanged limit w i j = exchange_at limit w j (slice_get w.states i) (slice_get w.states j)

-- after n exchanges, of which the first one is from i to j, and the next one from j to i
abbrev pub in_turn : ℕ → ℕ → World → ℕ → ℕ → World
in_turn limit zero w i j = w
in_turn limit (suc n) w i j = in_turn limit n (exchanged limit w i j) j i

-- whatever happened before, and however often they exchanged since: the next message brings something, or nothing is missing
abbrev pub TurnsBring : Type 0
TurnsBring = (limit n i j : ℕ) (w : World) (hs : List Happening) → IsAfter w hs → AreWhole hs → Brings limit (in_turn limit n w i j)
