-- What a run of the program leaves of its member's file, and what it prints, by the clauses of `run` and `serve`: it is an event of the group.
use Rattle.std.specs.Prelude.{◌≡◌, ◌≢◌, ◌⊎◌, ◌<◌, ◌≤◌, ◌++◌, ◌==◌, ◌&&◌, ℕ, suc, Bool, List, [], ◌∷◌, length, take, slice_get, Option, Some, IfOk, IsFalse, if◌then◌else◌}
use Rattle.rls_ident.specs.Lists.{IsIn}
use Rattle.rls_codec.specs.CodecLaws.{IsBytes}
use Rattle.rls_model.specs.Receiving.{State}
use Rattle.rls_io.specs.Device.{Appends, IsCutShort}
use Rattle.rls_journal.specs.Areas.{Areas, kept}
use Rattle.rls_journal.specs.Disk.{LeavesOnly}
use Rattle.rls_top.specs.declared.words.Command.TheVariants.{OnFile}
use Rattle.rls_top.specs.declared.words.FileCommand.TheVariants.{Send}
use Rattle.rls_top.specs.Calls as commands
use Rattle.rls_top.specs.Due.{due}
use Rattle.rls_top.specs.Endings.{IsDone, IsStored}
use Rattle.rls_top.specs.Groups.{Group, IsFileOf}
use Rattle.rls_top.specs.Running.{CommandEnds}
use Rattle.rls_top.specs.Words.{command_of}
use Rattle.rls_session.specs.Devices.{Devices}
use Rattle.rls_session.specs.Due as session
use Rattle.rls_session.specs.Replies.{saved_text}
use Rattle.rls_session.specs.Serving.{SessionEnds}
use Rattle.rls_session.specs.Courses.{Stretch, stretches}
use Rattle.rls_session.specs.Sessions.{by_parts}
use Rattle.rls_groups.specs.Stops.{LeavesOldOrDue, LeavesOldOrStores}
use Rattle.rls_groups.specs.Events.{Action, AreWritten, Begins, Commands, Deed, Event, IsOfGroup, Performs, Resumes, Sits, empty_desk, replica_at, session_at, session_due, unanswered}
use Rattle.rls_groups.specs.Lives.{Life, deed_in, lived, lived_all}

-- the member's file, as the group has it
abbrev pub file_at : Group → ℕ → Option (List ℕ)
file_at g i = slice_get g.files i

-- ---- among the events of a group

-- what the member does in these events that are done
abbrev pub actions_of : ℕ → List Event → List Action
actions_of i [] = []
actions_of i (e ∷ es) = if (e.member == i) && e.done then e.action ∷ actions_of i es else actions_of i es

-- the group is so after any events in which the member does this, whatever the others do before, between and after
abbrev pub HoldsAfter : Life → ℕ → List Action → (Group → Type 0) → Type 0
HoldsAfter l i actions P = (es : List Event) → actions_of i es ≡ actions → P (lived_all l es).group

-- this is the member's file then
abbrev pub IsFileAfter : Life → ℕ → List Action → Option (List ℕ) → Type 0
IsFileAfter l i actions now = HoldsAfter l i actions (λ g. now ≡ file_at g i)

-- or this is done too
abbrev pub IsLeft : Life → ℕ → List Action → Action → Option (List ℕ) → Type 0
IsLeft l i actions action now = IsFileAfter l i actions now ⊎ IsFileAfter l i (actions ++ action ∷ []) now

-- ---- commands

-- Of any command, by the clause `ends` of `run`: with a status with which it stores, the file that is kept is that of a run that is done; with any other one it is the
-- one from before, if the keeper tells it. And what a `send` prints with status 0 may be handed on.
abbrev pub CommandsLeave : {K S W : Type 0} → (K → Option (Option (List ℕ))) → (K → ℕ) → (K → Bool → K → Type 0) → (K → List ℕ → Bool → K → Type 0) → (S → Option (List ℕ)) → (S → ℕ) → (W → Option (List ℕ)) → (W → ℕ) → Type 0
CommandsLeave {K} {S} {W} file_of keeper_faults load store left_of input_faults told_of output_faults = (l : Life) (i : ℕ) (words : List (List ℕ)) (input : List ℕ) (n : ℕ) (keeper_old keeper_new : K) (input_old input_new : S) (output_old output_new : W) → i < length (l.group).files → let done = Performs words input ∷ [] in
    CommandEnds file_of keeper_faults load store left_of input_faults told_of output_faults words n keeper_old keeper_new input_old input_new output_old output_new → file_of keeper_old ≡ Some (file_at l.group i) → left_of input_old ≡ Some input →
    ((now : Option (List ℕ)) → file_of keeper_new ≡ Some now → (IsStored n → IsFileAfter l i done now) × ((IsStored n → ⊥) → IsFileAfter l i [] now))
    × ((to : ℕ) (old new : List ℕ) → IsDone n → command_of words ≡ Some (OnFile (Send to)) → told_of output_old ≡ Some old → told_of output_new ≡ Some new →
    (message : List ℕ) × (new ≡ old ++ message) × HoldsAfter l i done (λ g. IsIn message g.written))

-- ---- sessions

-- over the member's file this input has no order to store, so that a session stores at its end alone
abbrev pub StoresAtEnd : Group → ℕ → List ℕ → Type 0
StoresAtEnd g i input = IfOk (replica_at g i) (λ s. IsFalse (session_at by_parts s empty_desk input).stores)

-- Of a session that stores at its end alone, by the clause `ends` of `serve`: with status 0 the file that is kept is that of a session that is done, and all replies were written; with a 9 it is that or
-- the one from before; and with any other status it is the one from before, if the keeper tells it.
abbrev pub SessionsLeave : {K : Type 0} → (S W : Type 0) → (K → Bool → K → Type 0) → (K → List ℕ → Bool → K → Type 0) → Type 0
SessionsLeave {K} S W load store = (l : Life) (i : ℕ) (input : List ℕ) (n : ℕ) (now : Option (List ℕ)) (keeper_old keeper_new : K) (input_old input_new : S) (output_old output_new : W) (old new : Devices) → i < length (l.group).files → StoresAtEnd l.group i input →
    SessionEnds load store ((input_new ≡ input_old) × (output_new ≡ output_old)) n keeper_old keeper_new old new → old.file ≡ Some (file_at l.group i) → old.left ≡ Some input → new.file ≡ Some now →
    (n ≡ 0 → IsFileAfter l i (Begins input ∷ []) now × Appends old.told new.told ((session_due l.group i empty_desk input).replies ++ saved_text))
    × (n ≡ 9 → IsLeft l i [] (Begins input) now)
    × (n ≢ 0 → n ≢ 9 → IsFileAfter l i [] now)

-- what a session does over an input: it begins, and goes on after each store over what is left then
abbrev pub goes_on_over : List (Stretch (Unit {0})) → List Action
goes_on_over [] = []
goes_on_over (a ∷ others) = Resumes a.input ∷ goes_on_over others

abbrev pub begins_over : List (Stretch (Unit {0})) → List Action
begins_over [] = []
begins_over (a ∷ others) = Begins a.input ∷ goes_on_over others

abbrev pub actions_over : List ℕ → List Action
actions_over input = begins_over (stretches unanswered (λ u. u) tt input)

-- the input of an action
abbrev pub input_of : Action → List ℕ
input_of (Performs words input) = input
input_of (Begins input) = input
input_of (Resumes input) = input

-- Each action of a session over bytes may be an event of the group, as soon as the messages that it takes, up to its store, may be handed on.
abbrev pub SessionsAreOfGroup : Type 0
SessionsAreOfGroup = (g : Group) (i : ℕ) (input : List ℕ) (action : Action) → i < length g.files → IsBytes input → IsIn action (actions_over input) → AreWritten g (input_of action) → IsOfGroup g i action

-- what a session answers in a run that stores, with the `saved` after it
abbrev pub answered_by : Group → ℕ → Deed → List ℕ
answered_by g i (Commands words input) = []
answered_by g i (Sits desk input) = (session_due g i desk input).replies ++ saved_text

-- what the member is answered in these events, one after another
abbrev pub answered_in : ℕ → Life → List Event → List ℕ
answered_in i l [] = []
answered_in i l (e ∷ es) = (if (e.member == i) && e.done then answered_by l.group e.member (deed_in l e) else []) ++ answered_in i (lived l e) es

-- What a session wrote that ended with the status n, where the first k of these actions are done: all that is answered in some of these k, each
-- with its `saved`, and then some bytes. With another status than 0 at least one byte is missing of what is answered in one action more. So
-- each `saved` that is written, and what was answered before it, is of an action that is done.
pub record IsWrittenBy (l : Life) (i : ℕ) (actions : List Action) (k n : ℕ) (old new : Option (List ℕ)) : Type 0 where
  pub whole : ℕ
  pub few : whole ≤ k
  pub more : List ℕ
  pub answered : (es : List Event) → actions_of i es ≡ take whole actions → Appends old new (answered_in i l es ++ more)
  pub cut_short : n ≢ 0 → (es : List Event) → actions_of i es ≡ take (suc whole) actions → IsCutShort old new (answered_in i l es)

-- Of any session over a member's file that stands for a history, by the clause `ends` of `serve`: it is one event for each of its stores. With
-- status 0 all of them are done, and all that is answered in them is written. Whatever the status, the file that is kept is the one after some
-- of the first, done; and what is written is told of these.
abbrev pub StoresLeave : {K : Type 0} → (S W : Type 0) → (K → Bool → K → Type 0) → (K → List ℕ → Bool → K → Type 0) → Type 0
StoresLeave {K} S W load store = (l : Life) (i : ℕ) (input : List ℕ) (n : ℕ) (now : Option (List ℕ)) (t : State) (keeper_old keeper_new : K) (input_old input_new : S) (output_old output_new : W) (old new : Devices) → IsFileOf l.group i t → IsBytes input →
    SessionEnds load store ((input_new ≡ input_old) × (output_new ≡ output_old)) n keeper_old keeper_new old new → old.file ≡ Some (file_at l.group i) → old.left ≡ Some input → new.file ≡ Some now → let actions = actions_over input in
    (n ≡ 0 → IsFileAfter l i actions now × ((es : List Event) → actions_of i es ≡ actions → Appends old.told new.told (answered_in i l es)))
    × ((k : ℕ) × IsFileAfter l i (take k actions) now × IsWrittenBy l i actions k n old.told new.told)

-- ---- over the keeper with two slots

-- A stop at any moment leaves the member's file as a run leaves it that is done, or that isn't: by the clause `any_moment` of `run_on_disk`, and
-- of `serve_on_disk` for a session that stores at its end alone.
abbrev pub StopsLeave : {D : Type 0} → (D → ℕ) → (D → ℕ → Areas → Type 0) → (List ℕ → Bool → D → D → Type 0) → Type 0
StopsLeave {D} moment left_since stores_so = (l : Life) (i : ℕ) (input : List ℕ) (old new : D) → i < length (l.group).files → let file = file_at l.group i in
    ((words : List (List ℕ)) (stores : Bool) → LeavesOldOrDue moment left_since stores (commands.IsDueOf (due words (Some file) (Some input))) file old new →
    LeavesOnly moment left_since old new (λ c. IsLeft l i [] (Performs words input) (kept c)))
    × (StoresAtEnd l.group i input → LeavesOldOrStores moment left_since stores_so (session.due (Some file) (Some input)) file old new → LeavesOnly moment left_since old new (λ c. IsLeft l i [] (Begins input) (kept c)))

-- A stop at any moment since old leaves the member's file after what is done, and then after these actions, one after another: while one is at
-- work, the file as it was before it or as it is after it; and after the last, that one. It needn't have come to all of them.
abbrev pub LeavesActions : {D : Type 0} → (D → ℕ) → (D → ℕ → Areas → Type 0) → Life → ℕ → List Action → List Action → D → D → Type 0
LeavesActions moment left_since l i done [] old new = LeavesOnly moment left_since old new (λ c. IsFileAfter l i done (kept c))
LeavesActions {D} moment left_since l i done (action ∷ actions) old new =
    LeavesOnly moment left_since old new (λ c. IsLeft l i done action (kept c))
    ⊎ ((mid : D) × LeavesOnly moment left_since old mid (λ c. IsLeft l i done action (kept c)) × LeavesActions moment left_since l i (done ++ action ∷ []) actions mid new)

-- Of any session over a member's file that stands for a history: a stop leaves the file of one of its stores, in turn, each of which is an event.
abbrev pub StoppedStores : {D : Type 0} → (D → ℕ) → (D → ℕ → Areas → Type 0) → (List ℕ → Bool → D → D → Type 0) → Type 0
StoppedStores {D} moment left_since stores_so = (l : Life) (i : ℕ) (input : List ℕ) (t : State) (old new : D) → IsFileOf l.group i t → IsBytes input →
    LeavesOldOrStores moment left_since stores_so (session.due (Some (file_at l.group i)) (Some input)) (file_at l.group i) old new → LeavesActions moment left_since l i [] (actions_over input) old new
