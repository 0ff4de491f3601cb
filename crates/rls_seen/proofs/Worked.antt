-- Worked examples of what a replica consists of, by computation.
use Rattle.std.specs.Prelude.{◌≡◌, ℕ, pos, negsuc, false, List, [], ◌∷◌, refl, Some, None, codes}
use Rattle.rls_ident.specs.declared.tuple.Tuple.{Tuple}
use Rattle.rls_ident.specs.declared.tuple.Tuple.TheVariants.{At}
use Rattle.rls_ident.specs.declared.epoch_name.EpochName.TheVariants.{Origin, Of}
use Rattle.rls_runs.specs.Runs.{runs_of}
use Rattle.rls_ops.specs.declared.op.Op.{Op}
use Rattle.rls_ops.specs.declared.op.Body.TheVariants as body
use Rattle.rls_ops.specs.declared.op.Shape.TheVariants as shape
use Rattle.rls_ops.specs.declared.message.Message.{Message}
use Rattle.rls_model.specs.declared.edit.Edit.TheVariants.{Insert, Delete, Rename, Leave}
use Rattle.rls_model.specs.declared.edit.EditError.TheVariants as edit_errors
use Rattle.rls_model.specs.Answers.{Repeats, Waits, Refuses, Misshapen, Own, Forked, Left, Backward, WrongEpoch, WrongStem, UnknownTarget}
use Rattle.rls_seen.specs.Seen.{Seen, fresh, text_over, idents_over}
use Rattle.rls_seen.specs.Over.{answer_over, received, replayed, release_over, released_all, acknowledged}
use Rattle.rls_seen.specs.Edits.{made_over, edit_fault_over, edited}
use Rattle.rls_seen.specs.Messages.{message_over, taken_over, taken_of}
use Rattle.rls_seen.specs.Kept.{dropped, counts_over, kept_operations, kept_epochs, kept_former}
use Rattle.rls_seen.specs.Computing.{computing}

-- the middle position
abbrev mid : ℕ
mid = 2147483647

abbrev runs : Seen → List (List Tuple × ℕ)
runs s = runs_of (idents_over s)

-- the first of two members
abbrev first : Seen
first = fresh 7 0 2

-- the second
abbrev second : Seen
second = fresh 7 1 2

-- ---- editing

abbrev hello : Seen
hello = edited first (Insert 0 (codes "hello"))

hello_text : text_over hello ≡ codes "hello"
unfolding computing
hello_text = refl

hello_runs : runs hello ≡ (At mid 0 1 (pos 0) ∷ [], 5) ∷ []
unfolding computing
hello_runs = refl

-- at the end the run goes on
appended : runs (edited hello (Insert 5 (codes "!"))) ≡ (At mid 0 1 (pos 0) ∷ [], 6) ∷ []
unfolding computing
appended = refl

-- and before it
prepended : runs (edited hello (Insert 0 (codes "oh "))) ≡ (At mid 0 1 (negsuc 2) ∷ [], 8) ∷ []
unfolding computing
prepended = refl

deleted : text_over (edited hello (Delete 1 3)) ≡ codes "ho"
unfolding computing
deleted = refl

-- an end past the text, a rename without text, and an edit of one who has left
refused : (edit_fault_over hello (Delete 3 3) ≡ Some (edit_errors.Range 3 5)) × (edit_fault_over first Rename ≡ Some edit_errors.EmptyDocument)
    × (edit_fault_over (edited first Leave) (Insert 0 (codes "x")) ≡ Some edit_errors.Left)
unfolding computing
refused = (refl, refl, refl)

-- ---- receiving

abbrev typed : Op
typed = made_over first (Insert 0 (codes "hello"))

abbrev more : Op
more = made_over hello (Insert 5 (codes "!"))

taken_in_order : text_over (received (received second typed) more) ≡ codes "hello!"
unfolding computing
taken_in_order = refl

-- what comes too early waits, and is ready once its causes are there
waits : answer_over false second more ≡ Waits
unfolding computing
waits = refl

waited : Seen
waited = received (received second more) typed

then_ready : release_over waited ≡ Some (record { author = 0; seq = 2; refusal = None })
unfolding computing waited
then_ready = refl

all_released : text_over (released_all waited) ≡ codes "hello!"
unfolding computing waited
all_released = refl

again : answer_over false (received second typed) typed ≡ Repeats
unfolding computing
again = refl

own : answer_over false first typed ≡ Refuses (Own 1)
unfolding computing
own = refl

-- one's own is taken where it is replayed
own_again : text_over (replayed first typed) ≡ codes "hello"
unfolding computing
own_again = refl

abbrev other_more : Op
other_more = record more { body = body.Leave }

forked : answer_over false (received second more) other_more ≡ Refuses (Forked more)
unfolding computing
forked = refl

misshapen : answer_over false second (record typed { author = 2 }) ≡ Refuses (Misshapen shape.Author)
unfolding computing
misshapen = refl

wrong_stem : answer_over false second (record typed { body = body.Insert (At mid 0 1 (pos 3) ∷ []) (codes "hello") }) ≡ Refuses (WrongStem (Some 0))
unfolding computing
wrong_stem = refl

unknown : answer_over false second (record typed { body = body.Delete ((At mid 0 1 (pos 0) ∷ []) ∷ []) }) ≡ Refuses (UnknownTarget (At mid 0 1 (pos 0) ∷ []))
unfolding computing
unknown = refl

wrong_epoch : answer_over false second (record typed { epoch = Of 1 1 }) ≡ Refuses (WrongEpoch Origin)
unfolding computing
wrong_epoch = refl

backward : answer_over false (acknowledged (edited second (Insert 0 (codes "a"))) 0 (0 ∷ 1 ∷ [])) typed ≡ Refuses (Backward (0 ∷ 1 ∷ []))
unfolding computing
backward = refl

left_before : answer_over false (received second (made_over first Leave)) (record typed { seq = 2; context = 1 ∷ 0 ∷ [] }) ≡ Refuses (Left 1)
unfolding computing
left_before = refl

-- ---- renaming, messages, dropping

abbrev renamed : Seen
renamed = edited (edited hello (Insert 2 (codes "y"))) Rename

one_run : runs renamed ≡ (At mid 0 3 (pos 0) ∷ [], 6) ∷ []
unfolding computing
one_run = refl

abbrev sent : Message
sent = message_over renamed 1

abbrev got : Seen
got = (taken_over second sent).state

same_runs : runs got ≡ runs renamed
unfolding computing
same_runs = refl

three_applied : taken_of (taken_over second sent) ≡ record { applied = 3; released = 0; repeated = 0; held = 0; refused = [] }
unfolding computing
three_applied = refl

-- an operation of the epoch before is taken along
late : text_over (received renamed (record { author = 1; seq = 1; context = 1 ∷ 0 ∷ []; epoch = Origin; body = body.Insert (At mid 1 1 (pos 0) ∷ []) (codes "?") })) ≡ codes "heyllo?"
unfolding computing
late = refl

-- what both have is dropped
abbrev known : Seen
known = acknowledged renamed 1 (3 ∷ 0 ∷ [])

kept_before : (kept_operations known ≡ 3) × (kept_epochs known ≡ 2) × (kept_former known ≡ 6)
unfolding computing
kept_before = (refl, refl, refl)

kept_after : (kept_operations (dropped known) ≡ 0) × (kept_epochs (dropped known) ≡ 1) × (kept_former (dropped known) ≡ 0)
unfolding computing
kept_after = (refl, refl, refl)

still_numbers : counts_over (dropped known) ≡ counts_over known
unfolding computing
still_numbers = refl
