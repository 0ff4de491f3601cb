-- Worked examples of histories, operations that arrive, and worlds, by computation.
use Rattle.std.specs.Prelude.{◌≡◌, ℕ, pos, negsuc, List, [], ◌∷◌, refl, Some, None, Option, codes}
use Rattle.rls_ident.specs.declared.tuple.Tuple.{Tuple}
use Rattle.rls_ident.specs.declared.tuple.Tuple.TheVariants.{At}
use Rattle.rls_ident.specs.declared.epoch_name.EpochName.{EpochName}
use Rattle.rls_ident.specs.declared.epoch_name.EpochName.TheVariants.{Origin, Of}
use Rattle.rls_runs.specs.Runs.{runs_of}
use Rattle.rls_ops.specs.declared.op.Op.{Op}
use Rattle.rls_ops.specs.declared.op.Body.{Body}
use Rattle.rls_ops.specs.declared.op.Body.TheVariants as body
use Rattle.rls_ops.specs.declared.message.Message.{Message}
use Rattle.rls_model.specs.declared.edit.Edit.{Edit}
use Rattle.rls_model.specs.declared.edit.Edit.TheVariants.{Insert, Delete, Rename, Leave}
use Rattle.rls_model.specs.declared.edit.EditError.{EditError}
use Rattle.rls_model.specs.declared.edit.EditError.TheVariants as edit_errors
use Rattle.rls_model.specs.declared.receipt.Taken.{Taken}
use Rattle.rls_model.specs.History.{History, Fresh, Then, Accepted, Acknowledged, count}
use Rattle.rls_model.specs.Stems.{stem_of, stems}
use Rattle.rls_model.specs.Epochs.{greatest}
use Rattle.rls_model.specs.Document.{text, idents}
use Rattle.rls_model.specs.Answers.{Forked, UnknownTarget, Backward, WrongStem, WrongEpoch, Left, Applies, Refuses}
use Rattle.rls_model.specs.Receiving.{State, receive}
use Rattle.rls_model.specs.Editing.{made, edit_fault}
use Rattle.rls_model.specs.Retained.{counts}
use Rattle.rls_model.specs.Parts.{parts}
use Rattle.rls_model.specs.Taking.{take_message, take_within, taken}
use Rattle.rls_model.specs.EditRun.{Run, Done, Stopped, run_edits}
use Rattle.rls_model.specs.Computing.{computing}

-- the middle position
abbrev pub mid : ℕ
mid = 2147483647

-- ---- one member

abbrev edit : History → Edit → History
edit H e = Then H (Accepted (made H e))

abbrev fresh : History
fresh = Fresh 7 0 2

abbrev pub runs : History → List (List Tuple × ℕ)
runs H = runs_of (idents H)

abbrev hello : History
hello = edit fresh (Insert 0 (codes "hello"))

hello_shows : (text hello ≡ codes "hello")
    × (runs hello ≡ (At mid 0 1 (pos 0) ∷ [], 5) ∷ [])
    × (greatest hello ≡ Origin)
    × (count hello ≡ 1 ∷ 0 ∷ [])
    × (counts (record { history = hello; waiting = [] }) ≡ record { total = 5; runs = 1; held = 0; unstable = 1; epochs = 1; former = 0 })
unfolding computing
hello_shows = (refl, refl, refl, refl, refl)

-- what a list of edits counts where none is refused
abbrev counted : Run State EditError → Option Taken
counted (Done p) = Some (taken p)
counted (Stopped line fault) = None

hello_done : counted (run_edits (record { history = fresh; waiting = [] }) (Insert 0 (codes "hello") ∷ [])) ≡ Some (record { applied = 0; released = 0; repeated = 0; held = 0; refused = [] })
unfolding computing
hello_done = refl

-- at the end the run goes on
appended : runs (edit hello (Insert 5 (codes "!"))) ≡ (At mid 0 1 (pos 0) ∷ [], 6) ∷ []
unfolding computing
appended = refl

-- and in front
prepended_shows : (runs (edit hello (Insert 0 (codes "A"))) ≡ (At mid 0 1 (negsuc 0) ∷ [], 6) ∷ [])
    × (stems (edit hello (Insert 0 (codes "A"))) ≡ record { author = 0; s0 = 1; low = negsuc 0; next = 5 } ∷ [])
unfolding computing
prepended_shows = (refl, refl)

-- inside, a new stem begins
abbrev heXYllo : History
heXYllo = edit hello (Insert 2 (codes "XY"))

inserted_shows : (text heXYllo ≡ codes "heXYllo") × (runs heXYllo ≡ (At mid 0 1 (pos 0) ∷ [], 2) ∷ (At mid 0 1 (pos 1) ∷ At mid 0 2 (pos 0) ∷ [], 2) ∷ (At mid 0 1 (pos 2) ∷ [], 3) ∷ [])
unfolding computing
inserted_shows = (refl, refl)

-- a deletion leaves two runs, and an offset that was used is not used again
deleted_shows : (text (edit hello (Delete 1 3)) ≡ codes "ho") × (runs (edit hello (Delete 1 3)) ≡ (At mid 0 1 (pos 0) ∷ [], 1) ∷ (At mid 0 1 (pos 4) ∷ [], 1) ∷ [])
unfolding computing
deleted_shows = (refl, refl)

emptied_shows : (text (edit (edit hello (Delete 1 3)) (Delete 0 2)) ≡ []) × (runs (edit (edit hello (Delete 1 3)) (Delete 0 2)) ≡ [])
unfolding computing
emptied_shows = (refl, refl)

empty_edit : edit_fault hello (Delete 9 0) ≡ Some edit_errors.EmptyEdit
unfolding computing
empty_edit = refl

no_text : edit_fault (edit (edit hello (Delete 1 3)) (Delete 0 2)) Rename ≡ Some edit_errors.EmptyDocument
unfolding computing
no_text = refl

abbrev end_replaced : History
end_replaced = edit (edit hello (Delete 4 1)) (Insert 4 (codes "X"))

end_replaced_shows : (text end_replaced ≡ codes "hellX") × (runs end_replaced ≡ (At mid 0 1 (pos 0) ∷ [], 4) ∷ (At 3221225471 0 3 (pos 0) ∷ [], 1) ∷ [])
unfolding computing
end_replaced_shows = (refl, refl)

-- the same in front: the right neighbour's offset isn't the stem's low
front_replaced_shows : (runs (edit (edit (edit hello (Insert 0 (codes "A"))) (Delete 0 1)) (Insert 0 (codes "B"))) ≡ (At 1073741823 0 4 (pos 0) ∷ [], 1) ∷ (At mid 0 1 (pos 0) ∷ [], 5) ∷ [])
    × (stem_of (stems (edit (edit hello (Insert 0 (codes "A"))) (Delete 0 1))) 0 1 ≡ Some (record { author = 0; s0 = 1; low = negsuc 0; next = 5 }))
unfolding computing
front_replaced_shows = (refl, refl)

-- a rename makes one run, which goes on at both ends
abbrev renamed : History
renamed = edit heXYllo Rename

renamed_shows : (runs renamed ≡ (At mid 0 3 (pos 0) ∷ [], 7) ∷ [])
    × (greatest renamed ≡ Of 0 3)
    × (runs (edit renamed (Insert 7 (codes "!"))) ≡ (At mid 0 3 (pos 0) ∷ [], 8) ∷ [])
    × (runs (edit renamed (Insert 0 (codes "AB"))) ≡ (At mid 0 3 (negsuc 1) ∷ [], 9) ∷ [])
unfolding computing
renamed_shows = (refl, refl, refl, refl)

-- a list of edits ends at the first that is refused
refused_line : run_edits (record { history = hello; waiting = [] }) (Insert 0 (codes "A") ∷ Insert 9 (codes "x") ∷ []) ≡ Stopped 2 (edit_errors.Range 9 6)
unfolding computing
refused_line = refl

-- after a leave the member edits no more, and still receives
abbrev gone : History
gone = edit hello Leave

gone_fault : edit_fault gone (Insert 0 (codes "x")) ≡ Some edit_errors.Left
unfolding computing
gone_fault = refl

gone_receives : receive (record { history = gone; waiting = [] }) (made (Fresh 7 1 2) (Insert 0 (codes "y"))) ≡ Applies
unfolding computing
gone_receives = refl

gone_left : (parts (record { history = gone; waiting = [] })).left ≡ 0 ∷ []
unfolding computing
gone_left = refl

-- ---- operations that arrive

abbrev at_fresh : State
at_fresh = record { history = fresh; waiting = [] }

-- member 1's first operation
abbrev by_1 : EpochName → Body → Op
by_1 e b = record { author = 1; seq = 1; context = 0 ∷ 0 ∷ []; epoch = e; body = b }

unknown_targets : (receive at_fresh (by_1 Origin (body.Delete ((At 5 1 1 (pos 0) ∷ []) ∷ []))) ≡ Refuses (UnknownTarget (At 5 1 1 (pos 0) ∷ [])))
    × (taken (take_message at_fresh (record { group = 7; members = 2; from = 1; vector = 0 ∷ 0 ∷ []; ops = by_1 Origin (body.Delete ((At 5 1 1 (pos 0) ∷ []) ∷ [])) ∷ [] })) ≡ record { applied = 0; released = 0; repeated = 0; held = 0; refused = (1, 1, UnknownTarget (At 5 1 1 (pos 0) ∷ [])) ∷ [] })
unfolding computing
unknown_targets = (refl, refl)

wrong_stems : (receive at_fresh (by_1 Origin (body.Insert (At 9 1 1 (pos 3) ∷ []) (codes "a"))) ≡ Refuses (WrongStem (Some 0)))
    × (receive at_fresh (by_1 (Of 0 1) (body.Insert (At 9 1 1 (pos 3) ∷ []) (codes "a"))) ≡ Refuses (WrongEpoch Origin))
unfolding computing
wrong_stems = (refl, refl)

backward : receive (record { history = Then hello (Acknowledged 1 (1 ∷ 0 ∷ [])); waiting = [] }) (by_1 Origin (body.Insert (At 9 1 1 (pos 0) ∷ []) (codes "a"))) ≡ Refuses (Backward (1 ∷ 0 ∷ []))
unfolding computing
backward = refl

-- member 1's second operation, after its first one was accepted
abbrev then_by_1 : Body → Op
then_by_1 b = record { author = 1; seq = 2; context = 0 ∷ 1 ∷ []; epoch = Origin; body = b }

abbrev hello_of_1 : State
hello_of_1 = record { history = Then fresh (Accepted (by_1 Origin (body.Insert (At mid 1 1 (pos 0) ∷ []) (codes "hello")))); waiting = [] }

-- two characters from offset -1 on don't end right before the low, which is 0
wrong_at_the_front : (receive hello_of_1 (then_by_1 (body.Insert (At mid 1 1 (negsuc 0) ∷ []) (codes "ab"))) ≡ Refuses (WrongStem (Some 5)))
    × (receive hello_of_1 (then_by_1 (body.Insert (At mid 1 1 (negsuc 1) ∷ []) (codes "ab"))) ≡ Applies)
unfolding computing
wrong_at_the_front = (refl, refl)

has_left : receive (record { history = Then fresh (Accepted (by_1 Origin body.Leave)); waiting = [] }) (then_by_1 (body.Insert (At mid 1 2 (pos 0) ∷ []) (codes "a"))) ≡ Refuses (Left 1)
unfolding computing
has_left = refl

-- an operation that comes before its cause waits, and is released by it
abbrev first_op : Op
first_op = made fresh (Insert 0 (codes "hello"))

abbrev second_op : Op
second_op = made hello (Insert 5 (codes "!"))

abbrev message_of : Op → Message
message_of o = record { group = 7; members = 2; from = 0; vector = 0 ∷ 0 ∷ []; ops = o ∷ [] }

abbrev at_member_1 : State
at_member_1 = record { history = Fresh 7 1 2; waiting = [] }

abbrev waits : State
waits = (take_message at_member_1 (message_of second_op)).state

second_taken : (taken (take_message at_member_1 (message_of second_op)) ≡ record { applied = 0; released = 0; repeated = 0; held = 1; refused = [] })
    × (taken (take_message waits (message_of first_op)) ≡ record { applied = 1; released = 1; repeated = 0; held = 0; refused = [] })
unfolding computing
second_taken = (refl, refl)

both_there : text (take_message waits (message_of first_op)).state.history ≡ codes "hello!"
unfolding computing
both_there = refl

again_repeated : taken (take_message (take_message waits (message_of first_op)).state (message_of first_op)) ≡ record { applied = 0; released = 0; repeated = 1; held = 0; refused = [] }
unfolding computing
again_repeated = refl

-- cut short after one step, the second still waits
cut_short : text (take_within (Some 1) waits (message_of first_op)).state.history ≡ codes "hello"
unfolding computing
cut_short = refl

forked : receive waits (record second_op { epoch = Of 0 1 }) ≡ Refuses (Forked second_op)
unfolding computing
forked = refl

-- ---- parts

-- of a replica whose member deleted the rename's third character before all have answered
row_parts : (parts (record { history = edit renamed (Delete 2 1); waiting = [] })).epochs ≡ record { name = Origin; parent = None; former = [] } ∷ record { name = Of 0 3; parent = Some 0; former = idents heXYllo } ∷ []
unfolding computing
row_parts = refl

row_text : (parts (record { history = edit renamed (Delete 2 1); waiting = [] })).text
    ≡ record { run = (At mid 0 3 (pos 0) ∷ [], 2); text = codes "he" }
    ∷ record { run = (At mid 0 3 (pos 3) ∷ [], 4); text = codes "Yllo" } ∷ []
unfolding computing
row_text = refl
