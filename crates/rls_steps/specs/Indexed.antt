-- Runs of names, and what is kept of them.
use Rattle.std.specs.Prelude.{◌≡◌, ℕ, List, length, reverse, Box, Option}
use Rattle.std.specs.declared.alloc.Global.{Global}
use Rattle.rls_steps.specs.declared.bound.Bounds.{Bounds}
use Rattle.rls_steps.specs.declared.interval.Interval.{Interval}
use Rattle.rls_steps.specs.declared.key.Key.{Key}
use Rattle.rls_steps.specs.NameRuns.{Stretch, named, AreKept}
use Rattle.rls_steps.specs.Index.{AreApart}
use Rattle.rls_steps.specs.Bounds.{AreBounded}
use Rattle.rls_steps.specs.Intervals.{AreNoted}
use Rattle.rls_steps.specs.declared.height.Height.{Height}
use Rattle.rls_steps.specs.Heights.{AreUpTo}

-- runs of names, the oldest first, and what is kept of them: where each begins, their first identifiers, the bounds of their labels, between
-- which identifiers the names lie that these had before, how many names there are, and how far they go at most
pub record IsIndexed (rs : List Stretch) (ss : List ℕ) (fs : List (Key × ℕ)) (b : Bounds) (vs : List (Option (Box Interval Global))) (n : ℕ) (h : Height) : Type 0 where
  pub kept : AreKept rs ss fs
  pub apart : AreApart (reverse (named rs))
  pub bounded : AreBounded rs b
  pub noted : AreNoted rs vs
  pub count : n ≡ length (named rs)
  pub far : AreUpTo h (named rs)
