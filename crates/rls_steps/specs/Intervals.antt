-- Between which identifiers the names lie that labels had before.
use Rattle.std.specs.Prelude.{◌≡◌, ℕ, ◌<◌, ◌≤◌, List, length, slice_get, Box, Option, Some, None, false}
use Rattle.std.specs.declared.alloc.Global.{Global}
use Rattle.rls_ident.specs.declared.tuple.Tuple.{Tuple}
use Rattle.rls_ident.specs.Identifiers.{ident_lt}
use Rattle.rls_ident.specs.Lists.{IsIn}
use Rattle.rls_steps.specs.declared.interval.Interval.{Interval}
use Rattle.rls_steps.specs.NameRuns.{Stretch, names_of}
use Rattle.rls_steps.specs.Bounds.{HasLabel}

-- the identifier isn't below the low one nor above the high one
abbrev pub IsBetween : Interval → List Tuple → Type 0
IsBetween v x = (ident_lt x v.low ≡ false) × (ident_lt v.high x ≡ false)

-- it lies in the interval that is noted, if one is
abbrev pub LiesIn : Option (Box Interval Global) → List Tuple → Type 0
LiesIn None x = Unit {0}
LiesIn (Some b) x = IsBetween b.value x

-- so does each name that a label from one to another has in the first runs, so many
abbrev pub AreBetween : List Stretch → ℕ → ℕ → ℕ → Option (Box Interval Global) → Type 0
AreBetween rs count low high o = (j : ℕ) (s : Stretch) (n : List Tuple × ℕ) → j < count → slice_get rs j ≡ Some s → IsIn n (names_of s) → low ≤ n.1 → n.1 ≤ high → LiesIn o n.0

-- each name that a run's labels have in a run before lies in what is noted for the run
pub record AreNoted (rs : List Stretch) (vs : List (Option (Box Interval Global))) : Type 0 where
  pub all : length rs ≤ length vs
  pub each : (i j : ℕ) (o : Option (Box Interval Global)) (s : Stretch) (n : List Tuple × ℕ) → slice_get vs i ≡ Some o → HasLabel rs i n.1 → j < i → slice_get rs j ≡ Some s → IsIn n (names_of s) → LiesIn o n.0
