-- The members of a group, each with its file in memory, and which events of the group led there.
use Rattle.std.specs.Prelude.{◌≡◌, ℕ, List, [], ◌∷◌, ◌++◌, length, Option, Some, None}
use Rattle.rls_ident.specs.Lists.{IsIn}
use Rattle.rls_top.specs.Groups.{AllTaken, EqualCountsShowSame, Group, NoneRefused, NoneReleased, WaitingMade, fresh_group}
use Rattle.rls_groups.specs.Events.{Event}
use Rattle.rls_groups.specs.Groups.{DesksUsable, EachMeant, InOneOrder, SessionsClean}
use Rattle.rls_groups.specs.Lives.{Life}
use Rattle.rls_groups.specs.Rounds.{AreEvents, after}

-- the number of the group, the file of each member by its number, and the messages that members sent
pub record MembersSeen : Type 0 where
  pub group : ℕ
  pub files : List (List ℕ)
  pub sent : List (List ℕ)

-- a group in which these messages may be handed on
abbrev pub group_of : MembersSeen → Group
group_of m = record { files = m.files; written = m.sent }

-- the file of a keeper that has one
abbrev pub file_in : Option (List ℕ) → List ℕ
file_in None = []
file_in (Some bytes) = bytes

-- with the files that `new` stores
abbrev pub fresh_members : ℕ → ℕ → MembersSeen
fresh_members group members = record { group = group; files = (fresh_group group members).files; sent = [] }

abbrev pub with_files : MembersSeen → List (List ℕ) → MembersSeen
with_files m files = record { group = m.group; files = files; sent = m.sent }

-- ---- what has happened

-- These events of a group of n members, from the files that `new` stores on, led to these files; and each of these messages may be handed on. Where
-- the output failed after a store of a session, or in the middle of what `send` prints, more may be handed on than members sent.
pub record IsLed (group n : ℕ) (files sent : List (List ℕ)) (es : List Event) : Type 0 where
  pub events : AreEvents group n es
  pub files_are : files ≡ ((after group n es).group).files
  pub sent_are : (message : List ℕ) → IsIn message sent → IsIn message ((after group n es).group).written

abbrev pub IsLedBy : MembersSeen → List Event → Type 0
IsLedBy m es = IsLed m.group (length m.files) m.files m.sent es

-- some events led there
abbrev pub IsLived : MembersSeen → Type 0
IsLived m = (es : List Event) × IsLedBy m es

-- the members after these events
abbrev pub life_of : MembersSeen → List Event → Life
life_of m es = after m.group (length m.files) es

-- whatever led to the members before, it leads to them afterwards with these events more
abbrev pub GoOn : MembersSeen → List Event → MembersSeen → Type 0
GoOn old more new = (es : List Event) → IsLedBy old es → IsLedBy new (es ++ more)

-- with one message more
abbrev pub with_message : MembersSeen → List ℕ → MembersSeen
with_message m message = record { group = m.group; files = m.files; sent = m.sent ++ message ∷ [] }

-- ---- what holds of members, whatever led there

-- what the law of groups says of these events
abbrev pub Converge : ℕ → ℕ → List Event → Type 0
Converge group members es = let l = after group members es in
    NoneRefused l.group × NoneReleased l.group × WaitingMade l.group × AllTaken l.group × EqualCountsShowSame l.group × SessionsClean l.group × DesksUsable l × EachMeant group members es × InOneOrder group members es l
