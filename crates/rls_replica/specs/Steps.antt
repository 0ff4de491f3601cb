-- Steps that are counted while a message is taken.
use Rattle.std.specs.Prelude.{◌≡◌, ℕ, ◌+◌, ◌≤◌, List, Some, None, sum}
use Rattle.rls_ops.specs.declared.op.Op.{Op}
use Rattle.rls_model.specs.declared.receipt.Taken.{Taken}
use Rattle.rls_model.specs.Machine.{Limit}
use Rattle.rls_seen.specs.Seen.{Seen, vector}
use Rattle.rls_seen.specs.Messages.{Course, started, take_ops}

-- a replica on the way, with what was counted so far
abbrev pub course : Seen → Taken → Course
course s t = record { state = s; limit = None; counts = t }

-- no more were counted as released than were accepted
abbrev pub CountsReleased : Seen → Taken → Type 0
CountsReleased s t = t.released ≤ sum (vector s)

-- after so many of the steps of taking these operations
abbrev pub IsPartOfOps : Seen → List Op → Seen → Type 0
IsPartOfOps old os new = (n : ℕ) × ((take_ops (started (Some n) old) os).limit ≡ Some 0) × (new ≡ (take_ops (started (Some n) old) os).state)

-- ---- counting

-- at most so many arrived
pub record AreFew (n : ℕ) (t : Taken) : Type 0 where
  pub applied : t.applied ≤ n
  pub repeated : t.repeated ≤ n
  pub held : t.held ≤ n

-- ---- the way through a list of operations

-- k steps more than this limit allows
abbrev pub steps_more : ℕ → Limit → Limit
steps_more k None = None
steps_more k (Some n) = Some (k + n)

-- behind some steps of taking these operations this course is reached, and these are left
abbrev pub IsOnWay : Seen → List Op → Course → List Op → Type 0
IsOnWay s os c rest = (k : ℕ) × ((limit : Limit) → take_ops (started (steps_more k limit) s) os ≡ take_ops (record c { limit = limit }) rest)
