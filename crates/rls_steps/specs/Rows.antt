-- Labels that follow one another, whose names are identifiers of one run.
use Rattle.std.specs.Prelude.{◌≡◌, ℕ, ◌+◌, ◌<◌, pos, List, [], Option, Some, None, ◌⊎◌}
use Rattle.rls_ident.specs.declared.tuple.Tuple.{Tuple}
use Rattle.rls_ident.specs.Identifiers.{shifted}
use Rattle.rls_ident.specs.Lists.{IsIn}
use Rattle.rls_steps.specs.declared.interval.Interval.{Interval}
use Rattle.rls_steps.specs.declared.name_row.NameRow.{NameRow}
use Rattle.rls_steps.specs.Labelled.{Names}
use Rattle.rls_steps.specs.Intervals.{IsBetween}
use Rattle.rls_steps.specs.Marks.{numbers_from}

-- there is an interval, and the identifier lies in it
abbrev pub LiesBefore : Option Interval → List Tuple → Type 0
LiesBefore None x = ⊥
LiesBefore (Some v) x = IsBetween v x

-- the labels from this one on are those of the run's identifiers, and each other name that one of them has lies in the interval
pub record IsRow (ns : Names) (l : ℕ) (r : NameRow) : Type 0 where
  pub there : (k : ℕ) → k < r.run.1 → IsIn (shifted (pos k) r.run.0, l + k) ns
  pub others : (k : ℕ) (m : List Tuple × ℕ) → k < r.run.1 → IsIn m ns → m.1 ≡ l + k → (m.0 ≡ shifted (pos k) r.run.0) ⊎ LiesBefore r.before m.0

-- so many places from one on, or none
abbrev pub row_places : Option ℕ → ℕ → List ℕ
row_places None n = []
row_places (Some at) n = numbers_from at n
