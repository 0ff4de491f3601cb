-- Worked examples of parts: those of histories break no rule, each rule is broken once, and parts go through the replica that has them, by computation.
use Rattle.std.specs.Prelude.{◌≡◌, ℕ, ◌^◌, pos, negsuc, true, false, List, reverse, [], ◌∷◌, ◌++◌, refl, Some, None, Option, option_map, map, codes, slice_get}
use Rattle.rls_ident.specs.declared.tuple.Tuple.{Tuple}
use Rattle.rls_ident.specs.declared.tuple.Tuple.TheVariants.{At}
use Rattle.rls_ident.specs.declared.epoch_name.EpochName.{EpochName}
use Rattle.rls_ident.specs.declared.epoch_name.EpochName.TheVariants.{Origin, Of}
use Rattle.rls_ops.specs.declared.op.Op.{Op}
use Rattle.rls_ops.specs.declared.op.Body.TheVariants as body
use Rattle.rls_model.specs.declared.edit.Edit.{Edit}
use Rattle.rls_model.specs.declared.edit.Edit.TheVariants.{Insert, Delete, Rename, Leave}
use Rattle.rls_model.specs.declared.event.Event.TheVariants as events
use Rattle.rls_model.specs.declared.parts.Stem.{Stem}
use Rattle.rls_model.specs.declared.parts.EpochPart.{EpochPart}
use Rattle.rls_model.specs.declared.parts.Parts.{Parts}
use Rattle.rls_model.specs.History.{History, Fresh, Then, Accepted}
use Rattle.rls_model.specs.Editing.{made}
use Rattle.rls_model.specs.Receiving.{State}
use Rattle.rls_model.specs.Parts.{parts}
use Rattle.rls_model.specs.Worlds.{World, Happening, whole, run, empty_world}
use Rattle.rls_model.proofs.WorkedWorlds.{edits, sends, comes, shared}
use Rattle.rls_runs.specs.Runs.{is_increasing}
use Rattle.rls_seen.specs.Kept.{parts_over}
use Rattle.rls_seen.specs.Seen as seen
use Rattle.rls_parts.specs.Restored.{seen_of}
use Rattle.rls_parts.specs.Rules.{Broken, broken}
use Rattle.rls_parts.specs.Computing.{computing}

-- the middle position
abbrev mid : ℕ
mid = 2147483647

-- ---- parts of histories

abbrev edit : History → Edit → History
edit H e = Then H (Accepted (made H e))

abbrev fresh : History
fresh = Fresh 7 0 2

abbrev parts_of : History → Parts
parts_of H = parts (record { history = H; waiting = [] })

abbrev hello : History
hello = edit fresh (Insert 0 (codes "hello"))

abbrev renamed : History
renamed = edit (edit hello (Insert 2 (codes "XY"))) Rename

fresh_fine : broken (parts_of fresh) ≡ None
unfolding computing
fresh_fine = refl

hello_fine : broken (parts_of hello) ≡ None
unfolding computing
hello_fine = refl

-- characters in front, and one deleted
prepended_fine : broken (parts_of (edit (edit hello (Insert 0 (codes "A"))) (Delete 2 1))) ≡ None
unfolding computing
prepended_fine = refl

renamed_fine : broken (parts_of (edit (edit renamed (Insert 0 (codes "A"))) (Delete 3 2))) ≡ None
unfolding computing
renamed_fine = refl

left_fine : broken (parts_of (edit hello Leave)) ≡ None
unfolding computing
left_fine = refl

-- ---- parts in worlds

abbrev broken_at : World → ℕ → Option (Option Broken)
broken_at w i = option_map (λ s. broken (parts s)) (slice_get w.states i)

-- two renames side by side
abbrev two_renames : World
two_renames = run (empty_world 7 2)
    (shared ++ edits 0 Rename ∷ edits 1 Rename ∷ edits 0 (Insert 2 (codes "A")) ∷ edits 1 (Insert 2 (codes "B")) ∷ sends 0 1 ∷ sends 1 0 ∷ comes 1 1 ∷ comes 2 0 ∷ [])

two_renames_fine : broken_at two_renames 0 ≡ Some None
unfolding computing
two_renames_fine = refl

two_renames_fine_1 : broken_at two_renames 1 ≡ Some None
unfolding computing
two_renames_fine_1 = refl

-- a member leaves that took nothing; what was stable at first is dropped at the end
abbrev one_leaves : List Happening
one_leaves = edits 0 (Insert 0 (codes "hello")) ∷ edits 0 Rename ∷ sends 0 1 ∷ comes 0 1 ∷ sends 1 0 ∷ comes 1 0 ∷ edits 2 Leave ∷ sends 2 0 ∷ sends 2 1 ∷ comes 2 0 ∷ []

one_leaves_fine : broken_at (run (empty_world 7 3) one_leaves) 0 ≡ Some None
unfolding computing
one_leaves_fine = refl

leave_answered_fine : broken_at (run (empty_world 7 3) (one_leaves ++ comes 3 1 ∷ sends 1 0 ∷ comes 4 0 ∷ [])) 0 ≡ Some None
unfolding computing
leave_answered_fine = refl

-- an operation waits for another, which doesn't come
abbrev second_op : Op
second_op = made hello (Insert 5 (codes "!"))

abbrev waits : State
waits = record { history = Fresh 7 1 2; waiting = second_op ∷ [] }

waiting_fine : broken (parts waits) ≡ None
unfolding computing
waiting_fine = refl

-- ---- each rule, broken

-- the parts of a history of one member's insertion, written out
abbrev good : Parts
good = record {
  group = 7;
  members = 2;
  me = 0;
  vector = 1 ∷ 0 ∷ [];
  rows = (0 ∷ 0 ∷ []) ∷ [];
  stems = record { author = 0; s0 = 1; low = pos 0; next = 5 } ∷ [];
  epochs = record { name = Origin; parent = None; former = [] } ∷ [];
  text = record { run = (At mid 0 1 (pos 0) ∷ [], 5); text = codes "hello" } ∷ [];
  log = made fresh (Insert 0 (codes "hello")) ∷ [];
  held = [];
  left = [];
}

good_is : parts_of hello ≡ good
unfolding computing
good_is = refl

abbrev breaks : ℕ → ℕ → Option Broken
breaks rule index = Some (record { rule = rule; index = index })

-- member 1's row counts an operation of its own that was not accepted
row_counts_more : broken (record good { rows = (0 ∷ 1 ∷ []) ∷ [] }) ≡ breaks 1 0
unfolding computing
row_counts_more = refl

abbrev with_stems : List Stem → Parts
with_stems ss = record good { stems = ss }

abbrev stem : ℕ → ℕ → Stem
stem s0 next = record { author = 0; s0 = s0; low = pos 0; next = next }

nothing_used : broken (with_stems (stem 1 0 ∷ [])) ≡ breaks 2 0
unfolding computing
nothing_used = refl

stem_twice : broken (with_stems (stem 1 5 ∷ stem 1 5 ∷ [])) ≡ breaks 2 1
unfolding computing
stem_twice = refl

low_above : broken (with_stems (record (stem 1 5) { low = pos 1 } ∷ [])) ≡ breaks 2 0
unfolding computing
low_above = refl

low_too_low : broken (with_stems (record (stem 1 5) { low = negsuc 1073741824 } ∷ [])) ≡ breaks 2 0
unfolding computing
low_too_low = refl

not_accepted : broken (with_stems (stem 1 5 ∷ stem 2 1 ∷ [])) ≡ breaks 2 1
unfolding computing
not_accepted = refl

-- an epoch that no accepted operation opened
epoch_unknown : broken (record good { epochs = record { name = Of 1 1; parent = None; former = [] } ∷ [] }) ≡ breaks 3 0
unfolding computing
epoch_unknown = refl

abbrev two_epochs : EpochName → Option ℕ → List (List Tuple) → List EpochPart
two_epochs e k xs = record { name = Origin; parent = None; former = [] } ∷ record { name = e; parent = k; former = xs } ∷ []

origin_twice : broken (record good { epochs = two_epochs Origin (Some 0) ((At mid 0 1 (pos 0) ∷ []) ∷ []) }) ≡ breaks 3 1
unfolding computing
origin_twice = refl

parent_behind : broken (record good { epochs = two_epochs (Of 0 1) (Some 1) ((At mid 0 1 (pos 0) ∷ []) ∷ []) }) ≡ breaks 3 1
unfolding computing
parent_behind = refl

nothing_renamed : broken (record good { epochs = two_epochs (Of 0 1) (Some 0) [] }) ≡ breaks 3 1
unfolding computing
nothing_renamed = refl

-- a former list that is longer than what its stem has used
offsets_unused : broken (record (with_stems (stem 1 1 ∷ [])) { epochs = two_epochs (Of 0 1) (Some 0) ((At mid 0 1 (pos 0) ∷ []) ∷ (At mid 0 1 (pos 1) ∷ []) ∷ []) }) ≡ breaks 3 1
unfolding computing
offsets_unused = refl

-- two epochs side by side in the wrong order, and one epoch twice
abbrev unwrapped : Parts → Option Parts → Parts
unwrapped q None = q
unwrapped q (Some p) = p

abbrev of_two : Parts
of_two = unwrapped good (option_map (λ s. parts s) (slice_get two_renames.states 0))

abbrev after_first : (EpochPart → EpochPart → List EpochPart) → List EpochPart → List EpochPart
after_first two (e ∷ f ∷ g ∷ es) = e ∷ two f g ++ es
after_first two es = es

abbrev with_two : (EpochPart → EpochPart → List EpochPart) → Parts
with_two two = record of_two { epochs = after_first two of_two.epochs }

epochs_swapped_and_repeated : map broken (with_two (λ f g. g ∷ f ∷ []) ∷ with_two (λ f g. f ∷ f ∷ []) ∷ []) ≡ breaks 3 2 ∷ breaks 3 2 ∷ []
unfolding computing
epochs_swapped_and_repeated = refl

-- the last character's offset wasn't used
offset_unused : broken (with_stems (stem 1 4 ∷ [])) ≡ breaks 4 0
unfolding computing
offset_unused = refl

-- an operation twice, one with a wrong shape, one of an epoch that isn't kept, and a leave of a member that isn't said to have left
abbrev with_log : List Op → Parts
with_log os = record good { log = os }

op_twice : broken (with_log (made fresh (Insert 0 (codes "hello")) ∷ made fresh (Insert 0 (codes "hello")) ∷ [])) ≡ breaks 5 1
unfolding computing
op_twice = refl

op_misshapen : broken (with_log (record (made fresh (Insert 0 (codes "hello"))) { context = [] } ∷ [])) ≡ breaks 5 0
unfolding computing
op_misshapen = refl

epoch_dropped : broken (with_log (record (made fresh (Insert 0 (codes "hello"))) { epoch = Of 0 1 } ∷ [])) ≡ breaks 5 0
unfolding computing
epoch_dropped = refl

leave_unsaid : broken (with_log (record (made fresh (Insert 0 (codes "hello"))) { body = body.Leave } ∷ [])) ≡ breaks 5 0
unfolding computing
leave_unsaid = refl

-- an accepted operation is missing
op_missing : broken (with_log []) ≡ breaks 6 0
unfolding computing
op_missing = refl

-- an epoch that isn't retained, since all have acknowledged what came after it
abbrev all_there : Parts
all_there = record (parts_of (edit hello Rename)) { rows = (2 ∷ 0 ∷ []) ∷ []; log = [] }

epoch_kept : broken all_there ≡ breaks 7 0
unfolding computing
epoch_kept = refl

-- all operations are unstable, and no epoch of theirs is stable
none_stable : broken (record all_there { rows = (0 ∷ 0 ∷ []) ∷ []; log = map (λ (o : Op). record o { epoch = Of 0 2 }) (parts_of (edit hello Rename)).log; epochs = record { name = Of 0 2; parent = None; former = [] } ∷ [] }) ≡ breaks 7 0
unfolding computing
none_stable = refl

-- a waiting operation of the own member, one whose causes are there, one that was accepted, and two in the wrong order
abbrev with_held : List Op → Parts
with_held os = record (parts waits) { held = os }

own_waits : broken (with_held (record second_op { author = 1; seq = 2; context = 1 ∷ 1 ∷ [] } ∷ [])) ≡ breaks 8 0
unfolding computing
own_waits = refl

ready_waits : broken (with_held (made fresh (Insert 0 (codes "hello")) ∷ [])) ≡ breaks 8 0
unfolding computing
ready_waits = refl

waits_twice : broken (with_held (second_op ∷ second_op ∷ [])) ≡ breaks 8 1
unfolding computing
waits_twice = refl

-- ---- the replica that has the parts

-- that of a fresh history is the fresh one
fresh_restored : seen_of (parts_of fresh) ≡ seen.fresh 7 0 2
unfolding computing
fresh_restored = refl

-- what it has: a row and a mark for each member, and each character with its identifier
good_restored : seen_of good
    ≡ record {
      group = 7;
      acks = record { me = 0; mine = 1 ∷ 0 ∷ []; others = (0 ∷ 0 ∷ []) ∷ (0 ∷ 0 ∷ []) ∷ []; left = false ∷ false ∷ [] };
      stems = good.stems;
      epochs = record { top = Origin; nodes = [] };
      text = (At mid 0 1 (pos 0) ∷ [], 104) ∷ (At mid 0 1 (pos 1) ∷ [], 101) ∷ (At mid 0 1 (pos 2) ∷ [], 108) ∷ (At mid 0 1 (pos 3) ∷ [], 108) ∷ (At mid 0 1 (pos 4) ∷ [], 111) ∷ [];
      waiting = [];
      log = good.log;
    }
unfolding computing
good_restored = refl

-- and its parts are those
good_back : parts_over (seen_of good) ≡ good
unfolding computing
good_back = refl

waiting_back : parts_over (seen_of (parts waits)) ≡ parts waits
unfolding computing
waiting_back = refl

-- the own row stands between the others, and who has left is marked
abbrev of_three : Parts
of_three = record good { members = 3; me = 1; rows = (5 ∷ 0 ∷ 0 ∷ []) ∷ (0 ∷ 0 ∷ 6 ∷ []) ∷ []; left = 2 ∷ [] }

rows_in_place : (seen_of of_three).acks.others ≡ (5 ∷ 0 ∷ 0 ∷ []) ∷ (0 ∷ 0 ∷ 0 ∷ []) ∷ (0 ∷ 0 ∷ 6 ∷ []) ∷ []
unfolding computing
rows_in_place = refl

left_marked : (seen_of of_three).acks.left ≡ false ∷ false ∷ true ∷ []
unfolding computing
left_marked = refl

-- ---- what the rules alone don't tell

-- a former list that falls breaks none
abbrev backward : List EpochPart → List EpochPart
backward (e ∷ f ∷ es) = e ∷ record f { former = reverse f.former } ∷ es
backward es = es

abbrev falling : Parts
falling = let p = parts_of (edit hello Rename) in record p { epochs = backward p.epochs }

falling_fine : broken falling ≡ None
unfolding computing
falling_fine = refl

falling_falls : map (λ e. is_increasing e.former) falling.epochs ≡ true ∷ false ∷ []
unfolding computing
falling_falls = refl

-- nor do a group and a count that are too large
too_large_fine : broken (record good { group = 2 ^ 64; members = 1; vector = 2 ^ 32 ∷ []; rows = []; log = []; stems = stem 1 5 ∷ [] }) ≡ None
unfolding computing
too_large_fine = refl

-- an unstable insertion of what isn't a character
no_character_fine : broken (with_log (record (made fresh (Insert 0 (codes "hello"))) { body = body.Insert (At mid 0 1 (pos 0) ∷ []) (55296 ∷ []) } ∷ [])) ≡ None
unfolding computing
no_character_fine = refl

-- and a waiting one whose first offset is below the least one
too_low_fine : broken (with_held (record second_op { body = body.Insert (At mid 0 1 (negsuc 1073741824) ∷ []) (codes "!") } ∷ [])) ≡ None
unfolding computing
too_low_fine = refl
