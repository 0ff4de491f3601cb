-- A group: members that each keep a file of their own, and the messages that they write to each other.
use Rattle.std.specs.Prelude.{◌≡◌, ◌<◌, ◌≤◌, ◌⊎◌, ℕ, List, [], ◌∷◌, ◌++◌, map, length, slice_get, slice_set, encode_utf8_all, Option, Some, None, IsSomeAnd}
use Rattle.rls_ident.specs.declared.limits.TheConstants.{MEMBERS, FILE_BYTES}
use Rattle.rls_ident.specs.Lists.{IsIn}
use Rattle.rls_ops.specs.declared.message.Message.{Message}
use Rattle.rls_ops.specs.declared.op.Op.{Op}
use Rattle.rls_codec.specs.CodecLaws.{IsMessage}
use Rattle.rls_model.specs.Answers.{Reason}
use Rattle.rls_model.specs.Document.{Character, chars, live, text}
use Rattle.rls_model.specs.History.{History, count, group_of, me_of, members_of, ops}
use Rattle.rls_model.specs.Laws.{IsFront, IsPartOf, IsTotalOrder, Shows, precedes}
use Rattle.rls_model.specs.Legal.{IsLegal}
use Rattle.rls_model.specs.Parts.{parts}
use Rattle.rls_model.specs.Receiving.{State}
use Rattle.rls_model.specs.Taking.{take_message}
use Rattle.rls_model.specs.WellFormed.{IsLarge}
use Rattle.rls_passages.specs.Lasting.{IsDeletedIn, StandBetween}
use Rattle.rls_passages.specs.Passages.{Apart}
use Rattle.rls_file.specs.Files.{file_bytes}
use Rattle.rls_seen.specs.Seen.{Seen}
use Rattle.rls_world.specs.Seen.{fresh_replicas}
use Rattle.rls_report.specs.declared.failures.CommandError.TheVariants.{TooLarge}
use Rattle.rls_report.specs.Reports.{new_text, edit_text}
use Rattle.rls_stages.specs.KeptFile.{StandsIn, bytes_over}
use Rattle.rls_top.specs.declared.words.Command.{Command}
use Rattle.rls_top.specs.declared.words.Command.TheVariants.{New, OnFile}
use Rattle.rls_top.specs.declared.words.FileCommand.TheVariants.{Edit, Text, Ids, Send, Take, Leave}
use Rattle.rls_top.specs.Due.{Due, NoCommand, Makes, Stops, due, shows}
use Rattle.rls_top.specs.Words.{command_of}

-- the kept file of each member, by its number, and each message that a send wrote
pub record Group : Type 0 where
  pub files : List (List ℕ)
  pub written : List (List ℕ)

-- a command of a member: its words, over its own kept file and this input
pub record MemberCommand : Type 0 where
  pub member : ℕ
  pub words : List (List ℕ)
  pub input : List ℕ

-- ---- what a command calls for

-- what these words call for over the member's file and this input
abbrev pub due_of : Group → ℕ → List (List ℕ) → List ℕ → Option Due
due_of g i words input = due words (Some (slice_get g.files i)) (Some input)

abbrev pub due_in : Group → MemberCommand → Option Due
due_in g c = due_of g c.member c.words c.input

-- the replica whose file is stored, if one is
abbrev pub stored_in : Due → Option Seen
stored_in NoCommand = None
stored_in (Makes stored report refused) = stored
stored_in (Stops e) = None

-- the refused operations that are told
abbrev pub refused_in : Due → List (ℕ × ℕ × Reason)
refused_in NoCommand = []
refused_in (Makes stored report refused) = refused
refused_in (Stops e) = []

-- the report of a send is a message for others
abbrev pub messages_of : Option Command → List ℕ → List (List ℕ)
messages_of (Some (OnFile (Send to))) report = report ∷ []
messages_of _ report = []

abbrev pub messages_in : Option Command → Due → List (List ℕ)
messages_in c NoCommand = []
messages_in c (Makes stored report refused) = messages_of c report
messages_in c (Stops e) = []

-- ---- the group after a command

-- the files, of which this replica's is the member's now, if there is one
abbrev pub files_with : List (List ℕ) → ℕ → Option Seen → List (List ℕ)
files_with files i None = files
files_with files i (Some s) = slice_set files i (bytes_over s)

abbrev pub after_due : Group → MemberCommand → Option Due → Group
after_due g c None = g
after_due g c (Some d) = record { files = files_with g.files c.member (stored_in d); written = g.written ++ messages_in (command_of c.words) d }

-- the group after a command, if no device failed and memory didn't run out
abbrev pub after_command : Group → MemberCommand → Group
after_command g c = after_due g c (due_in g c)

abbrev pub after_commands : Group → List MemberCommand → Group
after_commands g [] = g
after_commands g (c ∷ cs) = after_commands (after_command g c) cs

-- ---- which commands there are

-- the command is a member's, and a take is given what some send wrote: for whomever it was, and whether or not it was taken before
pub record IsOfGroup (g : Group) (c : MemberCommand) : Type 0 where
  pub member : c.member < length g.files
  pub given : command_of c.words ≡ Some (OnFile Take) → IsIn c.input g.written

-- such commands, one after another
abbrev pub AreOfGroup : Group → List MemberCommand → Type 0
AreOfGroup g [] = Unit {0}
AreOfGroup g (c ∷ cs) = IsOfGroup g c × AreOfGroup (after_command g c) cs

-- ---- the group at first

-- each member keeps the file of a replica to which nothing has happened
abbrev pub fresh_group : ℕ → ℕ → Group
fresh_group group members = record { files = map bytes_over (fresh_replicas group members members); written = [] }

-- ---- what holds of a group

-- the words are `text` or `ids`
abbrev pub IsReading : List (List ℕ) → Type 0
IsReading words = (command_of words ≡ Some (OnFile Text)) ⊎ (command_of words ≡ Some (OnFile Ids))

-- the words are `edit` or `leave`
abbrev pub IsEditing : List (List ℕ) → Type 0
IsEditing words = (command_of words ≡ Some (OnFile Edit)) ⊎ (command_of words ≡ Some (OnFile Leave))

-- the member's file stands for this history and what waits beside it
abbrev pub IsFileOf : Group → ℕ → State → Type 0
IsFileOf g i t = StandsIn (Some (slice_get g.files i)) t

-- some edits are reported, and nothing that was released or refused; or the command ends early
abbrev pub IsOfEditsAlone : Due → Type 0
IsOfEditsAlone NoCommand = ⊥
IsOfEditsAlone (Makes stored report refused) = (edits : ℕ) × (report ≡ edit_text edits 0 0)
IsOfEditsAlone (Stops e) = Unit {0}

-- with the message that the input is, the member's file is too long, whatever history it stands for
abbrev pub IsTakenTooLong : Group → MemberCommand → Type 0
IsTakenTooLong g c = (t : State) (m : Message) → IsFileOf g c.member t → IsMessage c.input m → FILE_BYTES < length (file_bytes (parts (take_message t m).state))

-- something is made, unless something is too long, which is told so
abbrev pub IsMadeOrLong : Type 0 → Due → Type 0
IsMadeOrLong too_long NoCommand = ⊥
IsMadeOrLong too_long (Makes stored report refused) = Unit {0}
IsMadeOrLong too_long (Stops e) = (e ≡ TooLarge) × too_long

-- and the history is the member's, of this group of so many members, and its text is what `text` calls for
pub record IsOfMember (group members : ℕ) (g : Group) (i : ℕ) (t : State) : Type 0 where
  pub file : IsFileOf g i t
  pub group_is : group_of t.history ≡ group
  pub members_are : members_of t.history ≡ members
  pub me_is : me_of t.history ≡ i
  pub text_is : (words : List (List ℕ)) (input : List ℕ) → command_of words ≡ Some (OnFile Text) → due_of g i words input ≡ Some (shows (encode_utf8_all (text t.history)))

-- M has the operations of H, and H shows exactly one list of characters in the order of M
abbrev pub IsOrderedBy : History → History → Type 0
IsOrderedBy M H = IsPartOf H M × ((cs : List Character) × Shows (precedes M) H cs × ((ds : List Character) → Shows (precedes M) H ds → ds ≡ cs))

-- ---- the statement

-- the files at first are those that `new` stores
abbrev pub BeginsWithNew : ℕ → ℕ → Type 0
BeginsWithNew group members = (i : ℕ) (words : List (List ℕ)) (input : List ℕ) → i < members → command_of words ≡ Some (New group i members) →
    (s : Seen) × (due words (Some None) (Some input) ≡ Some (Makes (Some s) (new_text group i members) [])) × (slice_get (fresh_group group members).files i ≡ Some (bytes_over s))

-- no command calls for a refused operation
abbrev pub NoneRefused : Group → Type 0
NoneRefused g = (c : MemberCommand) → IsOfGroup g c → IsSomeAnd (due_in g c) (λ d. refused_in d ≡ [])

-- nothing that waits is released by edits
abbrev pub NoneReleased : Group → Type 0
NoneReleased g = (c : MemberCommand) → IsOfGroup g c → IsEditing c.words → IsSomeAnd (due_in g c) IsOfEditsAlone

-- each operation that waits beside a member's history was made by its author: it stands in a history that the author's file stands for
abbrev pub WaitingMade : Group → Type 0
WaitingMade g = (i : ℕ) (s : State) (o : Op) → IsFileOf g i s → IsIn o s.waiting → (t : State) × IsFileOf g o.author t × IsIn o (ops t.history)

-- a take makes something, unless the file to be stored is too long: what was written isn't too long, malformed or of another group, and no
-- file is missing or damaged
abbrev pub AllTaken : Group → Type 0
AllTaken g = (c : MemberCommand) → IsOfGroup g c → command_of c.words ≡ Some (OnFile Take) → IsSomeAnd (due_in g c) (IsMadeOrLong (IsTakenTooLong g c))

-- at members whose counts are equal `text` calls for the same, and `ids` does
abbrev pub EqualCountsShowSame : Group → Type 0
EqualCountsShowSame g = (i j : ℕ) (s t : State) (words : List (List ℕ)) (input : List ℕ) → IsFileOf g i s → IsFileOf g j t → count s.history ≡ count t.history → IsReading words → due_of g i words input ≡ due_of g j words input

-- the member's file stands for a history that goes on from this one
abbrev pub IsOnFile : Group → ℕ → History → Type 0
IsOnFile g i H = (t : State) × IsFileOf g i t × IsFront H t.history

-- The member's file stands for a history of that member, which shows its characters in the order of M, and so does each one that it goes on from.
-- What was inserted there stands between what was shown before that place and behind it, and it is shown wherever it is known, unless a deletion is
-- known there too, by which somebody that was shown it took it out.
pub record IsInOrder (group members : ℕ) (now end : Group) (M : History) (i : ℕ) : Type 0 where
  pub state : State
  pub member : IsOfMember group members now i state
  pub ordered : (H : History) → IsFront H state.history → IsOrderedBy M H
  pub between : StandBetween M (λ j H. IsFront H state.history)
  pub lasting : (H : History) (c : Character) → IsFront H state.history → IsIn c (chars H) → IsIn c (live H) ⊎ IsDeletedIn M (IsOnFile end) H c

-- one total order of all characters, in which passages that were written apart stand apart, and in which each member's file is after any of the
-- commands
abbrev pub InOneOrder : ℕ → ℕ → List MemberCommand → Type 0
InOneOrder group members cs = (M : History) × IsLegal M × IsTotalOrder (precedes M) (λ c. IsIn c (chars M)) × Apart M
    × ((before after : List MemberCommand) (i : ℕ) → before ++ after ≡ cs → i < members → IsInOrder group members (after_commands (fresh_group group members) before) (after_commands (fresh_group group members) cs) M i)

-- Whatever commands the members of a group give, each over its own file, and however the messages that they write are passed on: no
-- command calls for a refused operation, edits release nothing, what waits was made by its author, each written message is taken unless the
-- file to be stored is too long, members whose counts are equal show the same, and one order orders the texts of all files at all times.
abbrev pub GroupsClean : Type 0
GroupsClean = (group members : ℕ) (cs : List MemberCommand) → IsLarge group → 0 < members → members ≤ MEMBERS → AreOfGroup (fresh_group group members) cs → let g = after_commands (fresh_group group members) cs in
    BeginsWithNew group members × NoneRefused g × NoneReleased g × WaitingMade g × AllTaken g × EqualCountsShowSame g × InOneOrder group members cs
