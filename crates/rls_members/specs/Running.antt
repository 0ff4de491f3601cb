-- A command of a member over its file in memory.
use Rattle.std.specs.Prelude.{◌≡◌, ◌≢◌, ◌⊎◌, ℕ, Bool, List, [], ◌∷◌, ◌==◌, ◌||◌, codes, Option, Some, None, Ok, IfSome}
use Rattle.std.specs.Fmt.{decimal}
use Rattle.rls_ident.specs.Lists.{IsIn}
use Rattle.rls_io.specs.Device.{Appends}
use Rattle.rls_seen.specs.Seen.{Seen, vector}
use Rattle.rls_report.specs.Reports.{edit_text, take_text}
use Rattle.rls_stages.specs.Endings.{IsFault}
use Rattle.rls_top.specs.declared.words.Command.TheVariants.{OnFile}
use Rattle.rls_top.specs.declared.words.FileCommand.TheVariants.{Take}
use Rattle.rls_top.specs.Due.{Due, due_status, shows}
use Rattle.rls_top.specs.Endings.{IsDone, IsPartWritten, IsStored, IsWritten}
use Rattle.rls_top.specs.Groups.{IsEditing, IsReading, due_of}
use Rattle.rls_top.specs.Words.{command_of}
use Rattle.rls_groups.specs.Events.{Commands, Event, Performs, after_run, replica_at}
use Rattle.rls_members.specs.Members.{MembersSeen, group_of, with_files}

-- ---- the event that it is

-- what is to be stored is stored
abbrev pub is_stored : ℕ → Bool
is_stored n = (n == 0) || ((n == 5) || (n == 9))

-- a member performed this command, which ended with the status n. It is done if what it was to store is stored.
abbrev pub performed : ℕ → List (List ℕ) → List ℕ → ℕ → Event
performed i words input n = record { member = i; action = Performs words input; done = is_stored n }

-- the members after it: the file of this one is the one that is called for, or as before
abbrev pub after_command : MembersSeen → ℕ → List (List ℕ) → List ℕ → ℕ → MembersSeen
after_command m i words input n = with_files m (after_run (is_stored n) (group_of m) i (Commands words input)).files

-- ---- what it may be given

-- where the input is known, a `take` is given what was sent
abbrev pub IsGivenTo : MembersSeen → List (List ℕ) → Option (List ℕ) → Type 0
IsGivenTo m words None = ⊥
IsGivenTo m words (Some input) = command_of words ≡ Some (OnFile Take) → IsIn input m.sent

-- ---- how it ends

-- by what is called for: the status, and what is printed
pub record EndsAs (d : Option Due) (n : ℕ) (old new : Option (List ℕ)) : Type 0 where
  pub status : IfSome d (λ d. (n ≡ due_status d) ⊎ IsFault n)
  pub report : IsDone n → IfSome d (λ d. IsWritten d old new)
  pub partly : n ≡ 9 → IfSome d (λ d. IsPartWritten d old new)
  pub nothing : (IsStored n → ⊥) → new ≡ old

-- the files of both members say as many operations of each member
pub record HaveEqualCounts (m : MembersSeen) (i j : ℕ) : Type 0 where
  pub first : Seen
  pub first_is : replica_at (group_of m) i ≡ Ok first
  pub second : Seen
  pub second_is : replica_at (group_of m) j ≡ Ok second
  pub equal : vector first ≡ vector second

-- what was sent is taken, unless the file to be stored is too long, a device failed, or memory ran out; and of its operations none is refused
pub record TakesAll (n : ℕ) (old new : Option (List ℕ)) : Type 0 where
  pub status : (n ≡ 0) ⊎ IsFault n ⊎ (n ≡ 11)
  pub report : n ≡ 0 → (applied released repeated held : ℕ) × Appends old new (take_text applied released repeated held 0)

-- A command in a group: no operation is refused, each message is taken, edits release nothing that waits, and what `text` and `ids` print is what
-- they print at each member with equal counts.
pub record IsClean (m : MembersSeen) (i : ℕ) (words : List (List ℕ)) (input : List ℕ) (n : ℕ) (old new : Option (List ℕ)) : Type 0 where
  pub unrefused : n ≢ 5
  pub takes : command_of words ≡ Some (OnFile Take) → TakesAll n old new
  pub edits : IsEditing words → n ≡ 0 → (edits : ℕ) × Appends old new (edit_text edits 0 0)
  pub shows_same : IsReading words → n ≡ 0 → (j : ℕ) → HaveEqualCounts m i j → (report : List ℕ) × (due_of (group_of m) j words input ≡ Some (shows report)) × Appends old new report

-- ---- the words of commands

abbrev pub words_of_new : ℕ → ℕ → ℕ → List (List ℕ)
words_of_new group me members = codes "new" ∷ decimal group ∷ decimal me ∷ decimal members ∷ []

abbrev pub words_of_send : ℕ → List (List ℕ)
words_of_send to = codes "send" ∷ decimal to ∷ []

abbrev pub words_of_take : List (List ℕ)
words_of_take = codes "take" ∷ []
