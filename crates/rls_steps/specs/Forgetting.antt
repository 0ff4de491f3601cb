-- The oldest steps, which are forgotten.
-- Why: docs/DECISIONS.md, 243.
use Rattle.std.specs.Prelude.{ℕ, zero, suc, ◌+◌, ◌-◌, ◌≤◌, ◌||◌, List, [], ◌∷◌, length, take, drop, reverse, nat_le, if◌then◌else◌}
use Rattle.rls_seen.specs.Seen.{Seen}
use Rattle.rls_steps.specs.declared.piece.Step.{Step}
use Rattle.rls_steps.specs.Marks.{Piece, Put, Cut}
use Rattle.rls_steps.specs.Courses.{Copies, Shows}
use Rattle.rls_steps.specs.Groups.{in_front, goes_on, group_before}
use Rattle.rls_steps.specs.Recorded.{Recorded, steps_over}

-- how many characters a piece names
abbrev pub piece_size : Piece → ℕ
piece_size (Put labels) = length labels
piece_size (Cut labels cs left right) = length cs

-- of steps of which the last comes first: how many of the first are at most so many, of at most so many characters
abbrev pub fitting : ℕ → ℕ → List Step → ℕ
fitting zero chars xs = 0
fitting (suc k) chars [] = 0
fitting (suc k) chars (x ∷ xs) = if nat_le (piece_size x.piece) chars then suc (fitting k (chars - piece_size x.piece) xs) else 0

-- how many steps after the first belong to its group
abbrev pub more_of_group : List Step → ℕ
more_of_group [] = 0
more_of_group (x ∷ xs) = in_front x.group xs

-- how many steps from this place on belong to the group of the one before it
abbrev pub rest_of_group : ℕ → List Step → ℕ
rest_of_group zero xs = 0
rest_of_group (suc k) xs = more_of_group (drop k xs)

-- how many of the oldest steps are forgotten: what is left are whole groups
abbrev pub forgotten : ℕ → ℕ → List Step → ℕ
forgotten steps chars xs = let over = length xs - fitting steps chars (reverse xs) in over + rest_of_group over xs

-- without the first k steps that can be undone
abbrev pub without_first : ℕ → Recorded → Recorded
without_first k r = record { epoch = r.epoch; next = r.next; names = r.names; past = drop k r.past; future = r.future; group = r.group; overfull = r.overfull; after_sweep = r.after_sweep }

-- how many of the oldest steps go: all, if the open group is overfull
abbrev pub leaving : ℕ → ℕ → Recorded → ℕ
leaving steps chars r = if r.overfull then length r.past else forgotten steps chars r.past

-- without them. If the open group is among those that go, it is overfull
abbrev pub lightened : ℕ → ℕ → Recorded → Recorded
lightened steps chars r =
    let k = leaving steps chars r in
    record { epoch = r.epoch; next = r.next; names = r.names; past = drop k r.past; future = r.future; group = r.group; overfull = r.overfull || goes_on (group_before r.past k) r.group; after_sweep = r.after_sweep }

-- without what is recorded of the open group, if that is overfull: nothing else is left then
abbrev pub without_overfull : Recorded → Recorded
without_overfull r = if r.overfull then without_first (length r.past) r else r

-- the text stays that of an editor that keeps a copy of each text, and forgot the oldest
abbrev pub ForgettingShows : Type 0
ForgettingShows = (s : Seen) (r : Recorded) (c : Copies) (k : ℕ) → k ≤ length r.past → Shows (steps_over s r) c →
    Shows (steps_over s (without_first k r)) (record { now = c.now; before = take (length r.past - k) c.before; after = c.after })
