-- Worlds that are worked out, event by event.
use Rattle.std.specs.Prelude.{◌≡◌, ℕ, pos, List, [], ◌∷◌, ◌++◌, refl, Some, Option, codes, slice_get, option_map}
use Rattle.rls_ident.specs.declared.tuple.Tuple.{Tuple}
use Rattle.rls_ident.specs.declared.tuple.Tuple.TheVariants.{At, High}
use Rattle.rls_ident.specs.declared.epoch_name.EpochName.{EpochName}
use Rattle.rls_ident.specs.declared.epoch_name.EpochName.TheVariants.{Origin, Of}
use Rattle.rls_model.specs.declared.edit.Edit.{Edit}
use Rattle.rls_model.specs.declared.edit.Edit.TheVariants.{Insert, Delete, Rename, Leave}
use Rattle.rls_model.specs.declared.edit.EditError.TheVariants as edit_errors
use Rattle.rls_model.specs.declared.event.StepError.TheVariants as step_errors
use Rattle.rls_model.specs.declared.event.Event.TheVariants as events
use Rattle.rls_model.specs.declared.event.Outcome.{Outcome}
use Rattle.rls_model.specs.declared.event.Outcome.TheVariants as outcomes
use Rattle.rls_model.specs.declared.counts.Counts.{Counts}
use Rattle.rls_model.specs.History.{count}
use Rattle.rls_model.specs.Epochs.{greatest, translate}
use Rattle.rls_model.specs.Document.{text}
use Rattle.rls_model.specs.Answers.{Reason}
use Rattle.rls_model.specs.Retained.{counts}
use Rattle.rls_model.specs.Worlds.{World, Happening, whole, run, empty_world, fault_of, outcome_of}
use Rattle.rls_model.specs.Computing.{computing}
use Rattle.rls_model.proofs.Worked.{mid, runs}

abbrev pub edits : ℕ → Edit → Happening
edits i e = whole (events.Edit i e)

abbrev pub sends : ℕ → ℕ → Happening
sends from to = whole (events.Send from to)

abbrev pub comes : ℕ → ℕ → Happening
comes k to = whole (events.Deliver k to)

abbrev drops : ℕ → Happening
drops i = whole (events.Drop i)

abbrev of_two : List Happening → World
of_two hs = run (empty_world 7 2) hs

-- both members have one text
abbrev pub shared : List Happening
shared = edits 0 (Insert 0 (codes "hello")) ∷ sends 0 1 ∷ comes 0 1 ∷ []

abbrev text_at : World → ℕ → Option (List ℕ)
text_at w i = option_map (λ s. text s.history) (slice_get w.states i)

abbrev runs_at : World → ℕ → Option (List (List Tuple × ℕ))
runs_at w i = option_map (λ s. runs s.history) (slice_get w.states i)

abbrev greatest_at : World → ℕ → Option EpochName
greatest_at w i = option_map (λ s. greatest s.history) (slice_get w.states i)

abbrev count_at : World → ℕ → Option (List ℕ)
count_at w i = option_map (λ s. count s.history) (slice_get w.states i)

abbrev counts_at : World → ℕ → Option Counts
counts_at w i = option_map (λ s. counts s) (slice_get w.states i)

-- both of two members show this text and these runs, in this greatest epoch
abbrev BothShow : World → List ℕ → List (List Tuple × ℕ) → EpochName → Type 0
BothShow w x xs g = (text_at w 0 ≡ Some x)
    × (text_at w 1 ≡ Some x)
    × (runs_at w 0 ≡ Some xs)
    × (runs_at w 1 ≡ Some xs)
    × (greatest_at w 0 ≡ Some g)
    × (greatest_at w 1 ≡ Some g)

-- a rename at one member and an insertion at the other
abbrev rename_and_insert : World
rename_and_insert = of_two (shared ++ edits 0 Rename ∷ edits 1 (Insert 2 (codes "x")) ∷ sends 0 1 ∷ sends 1 0 ∷ comes 1 1 ∷ comes 2 0 ∷ [])

rename_and_insert_shows : BothShow rename_and_insert (codes "hexllo") ((At mid 0 2 (pos 0) ∷ [], 2) ∷ (At mid 0 2 (pos 1) ∷ At mid 0 1 (pos 1) ∷ At mid 1 1 (pos 0) ∷ [], 1) ∷ (At mid 0 2 (pos 2) ∷ [], 3) ∷ []) (Of 0 2)
unfolding computing
rename_and_insert_shows = (refl, refl, refl, refl, refl, refl)

-- each message delivered twice, and what is stable dropped between
abbrev delivered_twice : World
delivered_twice = of_two (shared ++ edits 0 Rename ∷ edits 1 (Insert 2 (codes "x")) ∷ sends 0 1 ∷ sends 1 0 ∷ comes 1 1 ∷ drops 1 ∷ comes 1 1 ∷ comes 2 0 ∷ drops 0 ∷ comes 2 0 ∷ [])

delivered_twice_shows : (runs_at delivered_twice 0 ≡ runs_at rename_and_insert 0)
    × (runs_at delivered_twice 1 ≡ runs_at rename_and_insert 0)
    × (text_at delivered_twice 0 ≡ Some (codes "hexllo"))
    × (text_at delivered_twice 1 ≡ Some (codes "hexllo"))
unfolding computing
delivered_twice_shows = (refl, refl, refl, refl)

-- two renames at once, and an insertion after each
abbrev two_renames : World
two_renames = of_two (shared ++ edits 0 Rename ∷ edits 1 Rename ∷ edits 0 (Insert 2 (codes "A")) ∷ edits 1 (Insert 2 (codes "B")) ∷ sends 0 1 ∷ sends 1 0 ∷ comes 1 1 ∷ comes 2 0 ∷ [])

two_renames_shows : BothShow two_renames (codes "heABllo") ((At mid 1 1 (pos 0) ∷ [], 2) ∷ (At mid 1 1 (pos 1) ∷ At mid 0 3 (pos 0) ∷ [], 1) ∷ (At mid 1 1 (pos 1) ∷ At mid 1 2 (pos 0) ∷ [], 1) ∷ (At mid 1 1 (pos 2) ∷ [], 3) ∷ []) (Of 1 1)
unfolding computing
two_renames_shows = (refl, refl, refl, refl, refl, refl)

-- taken in the other order
abbrev two_renames_turned : World
two_renames_turned = of_two (shared ++ edits 1 Rename ∷ edits 0 Rename ∷ edits 1 (Insert 2 (codes "B")) ∷ edits 0 (Insert 2 (codes "A")) ∷ sends 1 0 ∷ sends 0 1 ∷ comes 1 0 ∷ comes 2 1 ∷ [])

two_renames_turned_shows : (runs_at two_renames_turned 0 ≡ runs_at two_renames 0) × (runs_at two_renames_turned 1 ≡ runs_at two_renames 0) × (text_at two_renames_turned 0 ≡ Some (codes "heABllo"))
unfolding computing
two_renames_turned_shows = (refl, refl, refl)

-- A's identifier at the origin
two_renames_origin : option_map (λ s. translate s.history (Of 0 2) Origin (At mid 0 2 (pos 1) ∷ At mid 0 3 (pos 0) ∷ [])) (slice_get two_renames.states 0) ≡ Some (At mid 0 1 (pos 1) ∷ High ∷ At mid 0 3 (pos 0) ∷ [])
unfolding computing
two_renames_origin = refl

-- both delete the same character
abbrev both_delete : List Happening
both_delete = shared ++ edits 0 (Delete 0 1) ∷ edits 1 (Delete 0 1) ∷ sends 0 1 ∷ sends 1 0 ∷ comes 1 1 ∷ []

both_delete_shows : (text_at (of_two (both_delete ++ comes 2 0 ∷ [])) 0 ≡ Some (codes "ello"))
    × (text_at (of_two (both_delete ++ comes 2 0 ∷ [])) 1 ≡ Some (codes "ello"))
    × (outcome_of (of_two both_delete) (events.Deliver 2 0) ≡ outcomes.Took (record { applied = 1; released = 0; repeated = 0; held = 0; refused = [] }))
    × (outcome_of (of_two (shared ++ edits 0 (Delete 0 1) ∷ edits 1 (Delete 0 1) ∷ sends 0 1 ∷ sends 1 0 ∷ [])) (events.Deliver 1 1) ≡ outcomes.Took (record { applied = 1; released = 0; repeated = 1; held = 0; refused = [] }))
unfolding computing
both_delete_shows = (refl, refl, refl, refl)

-- faults
no_message : fault_of (of_two shared) (events.Deliver 9 0) ≡ Some (step_errors.NoMessage 9)
unfolding computing
no_message = refl

no_member : fault_of (of_two shared) (events.Edit 2 Rename) ≡ Some (step_errors.NoMember 2)
unfolding computing
no_member = refl

-- three members rename and insert at once, and take all messages twice, the last one first
abbrev all_at_once : List Happening
all_at_once = edits 0 (Insert 0 (codes "hello")) ∷ sends 0 1 ∷ sends 0 2 ∷ comes 0 1 ∷ comes 1 2
    ∷ edits 0 Rename ∷ edits 1 Rename ∷ edits 2 Rename ∷ edits 0 (Insert 2 (codes "A")) ∷ edits 1 (Insert 2 (codes "B")) ∷ edits 2 (Insert 2 (codes "C"))
    ∷ sends 0 1 ∷ sends 0 2 ∷ sends 1 0 ∷ sends 1 2 ∷ sends 2 0 ∷ sends 2 1 ∷ []

abbrev refused_at : Outcome → List (ℕ × ℕ × Reason)
refused_at (outcomes.Took t) = t.refused
refused_at _ = []

-- what member i refuses of these messages, one after another
abbrev refused_by : ℕ → World → List ℕ → List (ℕ × ℕ × Reason)
refused_by i w [] = []
refused_by i w (k ∷ ks) = refused_at (outcome_of w (events.Deliver k i)) ++ refused_by i (run w (comes k i ∷ [])) ks

abbrev after_all : World
after_all = run (empty_world 7 3) all_at_once

abbrev reversed : List ℕ
reversed = 7 ∷ 6 ∷ 5 ∷ 4 ∷ 3 ∷ 2 ∷ 7 ∷ 6 ∷ 5 ∷ 4 ∷ 3 ∷ 2 ∷ []

none_refused : (refused_by 0 after_all reversed ≡ []) × (refused_by 1 after_all reversed ≡ []) × (refused_by 2 after_all reversed ≡ [])
unfolding computing
none_refused = (refl, refl, refl)

-- the former identifiers stay until all members have answered
abbrev of_three : List Happening → World
of_three hs = run (empty_world 7 3) (edits 0 (Insert 0 (codes "hello")) ∷ edits 0 (Insert 2 (codes "XY")) ∷ edits 0 Rename ∷ hs)

abbrev answered : List Happening
answered = sends 0 1 ∷ sends 0 2 ∷ comes 0 1 ∷ comes 1 2 ∷ sends 1 0 ∷ sends 2 0 ∷ []

none_answered : counts_at (of_three []) 0 ≡ Some (record { total = 7; runs = 1; held = 0; unstable = 3; epochs = 2; former = 7 })
unfolding computing
none_answered = refl

one_answered : counts_at (of_three (answered ++ comes 2 0 ∷ [])) 0 ≡ Some (record { total = 7; runs = 1; held = 0; unstable = 3; epochs = 2; former = 7 })
unfolding computing
one_answered = refl

all_answered : counts_at (of_three (answered ++ comes 2 0 ∷ comes 3 0 ∷ [])) 0 ≡ Some (record { total = 7; runs = 1; held = 0; unstable = 0; epochs = 1; former = 0 })
unfolding computing
all_answered = refl

-- a member that took nothing leaves
abbrev one_leaves : List Happening
one_leaves = sends 0 1 ∷ comes 0 1 ∷ sends 1 0 ∷ comes 1 0 ∷ edits 2 Leave ∷ sends 2 0 ∷ sends 2 1 ∷ comes 2 0 ∷ []

one_leaves_shows : (count_at (of_three one_leaves) 0 ≡ Some (3 ∷ 0 ∷ 1 ∷ []))
    × (counts_at (of_three one_leaves) 0 ≡ Some (record { total = 7; runs = 1; held = 0; unstable = 1; epochs = 2; former = 7 }))
unfolding computing
one_leaves_shows = (refl, refl)

leave_answered : counts_at (of_three (one_leaves ++ comes 3 1 ∷ sends 1 0 ∷ comes 4 0 ∷ [])) 0 ≡ Some (record { total = 7; runs = 1; held = 0; unstable = 0; epochs = 1; former = 0 })
unfolding computing
leave_answered = refl

leaves_twice : fault_of (of_three one_leaves) (events.Edit 2 Leave) ≡ Some (step_errors.Edit edit_errors.Left)
unfolding computing
leaves_twice = refl
