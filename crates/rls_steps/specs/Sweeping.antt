-- Names that no step needs, which go.
use Rattle.std.specs.Prelude.{◌≡◌, ℕ, ◌/◌, ◌&&◌, ◌||◌, ◌==◌, ◌++◌, Bool, false, List, [], ◌∷◌, length, take, filter, reverse, is_ok, nat_le, Option, Some, None, if◌then◌else◌}
use Rattle.std.specs.List.{list_any}
use Rattle.rls_ident.specs.declared.tuple.Tuple.{Tuple}
use Rattle.rls_ident.specs.Identifiers.{ident_eq}
use Rattle.rls_runs.specs.Runs.{place_of}
use Rattle.rls_seen.specs.Seen.{Seen, idents_over, greatest_over}
use Rattle.rls_steps.specs.declared.piece.Step.{Step}
use Rattle.rls_steps.specs.Marks.{Piece, Put, Cut}
use Rattle.rls_steps.specs.Labelled.{Names}
use Rattle.rls_steps.specs.Tables.{given_labels}
use Rattle.rls_steps.specs.Index.{AreApart}
use Rattle.rls_steps.specs.Courses.{ident_of, Copies, Shows}
use Rattle.rls_steps.specs.Forgetting.{lightened, without_overfull}
use Rattle.rls_steps.specs.Recorded.{Recorded, settled, steps_over}

-- the labels that a piece names: those of its characters, and those of both neighbours
abbrev pub piece_labels : Piece → List ℕ
piece_labels (Put labels) = labels
piece_labels (Cut labels cs left right) = labels ++ (given_labels (left ∷ []) ++ given_labels (right ∷ []))

-- and those that steps name
abbrev pub step_labels : List Step → List ℕ
step_labels [] = []
step_labels (x ∷ xs) = piece_labels x.piece ++ step_labels xs

-- the label is one of these
abbrev pub is_needed : List ℕ → ℕ → Bool
is_needed labels l = list_any (λ k. k == l) labels

abbrev pub is_that : Option (List Tuple) → List Tuple → Bool
is_that None x = false
is_that (Some y) x = ident_eq y x

-- of names of which the newest comes first: the label has no newer one
abbrev pub is_newest : Names → List Tuple × ℕ → Bool
is_newest ns n = is_that (ident_of ns n.1) n.0

-- in a text of these identifiers a name is kept if its label is one of these, and it is the label's newest name or its character is in the text
abbrev pub is_kept : List (List Tuple) → List ℕ → Names → List Tuple × ℕ → Bool
is_kept xs labels ns n = is_needed labels n.1 && (is_newest ns n || is_ok (place_of n.0 xs))

-- those of these names that are kept, the oldest first
abbrev pub kept_names : List (List Tuple) → List ℕ → Names → Names
kept_names xs labels names = filter (is_kept xs labels (reverse names)) names

-- only names that steps need are left, in a text of these identifiers
abbrev pub swept : List (List Tuple) → Recorded → Recorded
swept xs r =
    let names = kept_names xs (step_labels r.past ++ step_labels r.future) r.names in
    record { epoch = r.epoch; next = r.next; names = names; past = r.past; future = r.future; group = r.group; overfull = r.overfull; after_sweep = length names }

-- once there are more than twice as many names as there were after the last sweep, the oldest groups are forgotten, down to so many steps and
-- characters, and then the names that no step needs: in a text of these identifiers, where w is the same in the greatest epoch. What is
-- recorded of an overfull group is forgotten at once
abbrev pub kept_in : List (List Tuple) → Recorded → ℕ → ℕ → Recorded → Recorded
kept_in xs w steps chars r = if nat_le (length r.names / 2) r.after_sweep then without_overfull r else swept xs (lightened steps chars w)

-- at a replica
abbrev pub kept_within : Seen → ℕ → ℕ → Recorded → Recorded
kept_within s steps chars r = kept_in (idents_over s) (settled s r) steps chars r

-- the editor that keeps a copy of each text has forgotten all but so many of the texts before
abbrev pub with_newest : ℕ → Copies → Copies
with_newest k c = record { now = c.now; before = take k c.before; after = c.after }

-- the names that are left lead to the same texts
abbrev pub SweepingShows : Type 0
SweepingShows = (s : Seen) (r : Recorded) (c : Copies) → r.epoch ≡ greatest_over s → AreApart (reverse r.names) → Shows (steps_over s r) c → Shows (steps_over s (swept (idents_over s) r)) c
