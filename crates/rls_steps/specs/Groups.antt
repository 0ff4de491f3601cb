-- Groups of steps.
use Rattle.std.specs.Prelude.{◌≡◌, ℕ, zero, suc, ◌+◌, ◌-◌, ◌^◌, ◌<◌, nat_lt, ◌==◌, Bool, false, List, [], ◌∷◌, length, take, replicate, reverse, slice_get, Option, Some, None, if◌then◌else◌}
use Rattle.rls_model.specs.declared.edit.EditError.{EditError}
use Rattle.rls_seen.specs.Edits.{IsFault}
use Rattle.rls_steps.specs.declared.piece.Step.{Step}
use Rattle.rls_steps.specs.Labelled.{Labelled}
use Rattle.rls_steps.specs.Courses.{Steps, Back, course, MayRun}
use Rattle.rls_steps.specs.Recorded.{pieces_of}
use Rattle.rls_steps.specs.Returning.{back_fault, IsPartBack}

-- the number of the group after this one, where there is another number
abbrev pub next_group : ℕ → ℕ
next_group g = if nat_lt (g + 1) (2 ^ 64) then g + 1 else g

-- how many of the first steps belong to this group
abbrev pub in_front : ℕ → List Step → ℕ
in_front g [] = 0
in_front g (x ∷ xs) = if x.group == g then suc (in_front g xs) else 0

-- of steps of which the last comes first: how many the first group has
abbrev pub front_size : List Step → ℕ
front_size [] = 0
front_size (x ∷ xs) = in_front x.group (x ∷ xs)

-- how many steps the last group has
abbrev pub group_size : List Step → ℕ
group_size xs = front_size (reverse xs)

-- the step goes on with the group before it
abbrev pub goes_on : Option ℕ → ℕ → Bool
goes_on None g = false
goes_on (Some before) g = before == g

abbrev pub group_in : Option Step → Option ℕ
group_in None = None
group_in (Some x) = Some x.group

-- the group of the step before a place
abbrev pub group_before : List Step → ℕ → Option ℕ
group_before xs zero = None
group_before xs (suc k) = group_in (slice_get xs k)

-- how many groups there are after this one
abbrev pub groups_after : Option ℕ → List Step → ℕ
groups_after before [] = 0
groups_after before (x ∷ xs) = if goes_on before x.group then groups_after (Some x.group) xs else suc (groups_after (Some x.group) xs)

-- how many groups there are
abbrev pub group_count : List Step → ℕ
group_count xs = groups_after None xs

-- what has labels, the steps that are taken back, and those that this leaves, the oldest of both first
abbrev pub stacked : Labelled → List Step → List Step → Steps
stacked h from to = record { held = h; past = pieces_of from; future = pieces_of to }

-- the same with the stacks exchanged
abbrev pub turned : Steps → Steps
turned st = record { held = st.held; past = st.future; future = st.past }

-- after this error: some of the last steps were taken back, and of the next one a part, up to the edit that is refused; the error is the first
-- fault of taking that back
pub record IsStopped (e : EditError) (h : Labelled) (from to : List Step) (new : Labelled) (new_from new_to : List Step) : Type 0 where
  pub done : ℕ
  pub fewer : done < group_size from
  pub fit : MayRun (stacked h from to) (replicate done Back)
  pub left : new_from ≡ take (length from - done) from
  -- the steps that these left
  pub between : List Step
  pub held : Labelled
  pub after : stacked held new_from between ≡ course (stacked h from to) (replicate done Back)
  -- the next one
  pub step : Step
  pub next : slice_get (reverse new_from) 0 ≡ Some step
  pub fault : IsFault e (back_fault held step.piece)
  pub part : IsPartBack e held step.piece new step.group between new_to
