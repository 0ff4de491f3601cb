-- Long identifiers on their way: their first tuples change, and the others stay.
use Rattle.std.specs.Prelude.{◌≡◌, ℕ, pos, List, drop}
use Rattle.rls_ident.specs.declared.tuple.Tuple.{Tuple}
use Rattle.rls_ident.specs.Identifiers.{shifted}
use Rattle.rls_epoch.specs.declared.placed.Placed.{Placed}
use Rattle.rls_epoch.specs.declared.ways.Step.{Step}
use Rattle.rls_epoch.specs.Ways.{step_map, led}

-- the step takes the identifiers from x on, with one base and consecutive offsets, to those from y on
abbrev pub Moves : List Placed → Step → List Tuple → List Tuple → Type 0
Moves ps step x y = (k : ℕ) → step_map ps step (shifted (pos k) x) ≡ shifted (pos k) y

-- after n of the steps the identifiers from x on are those from y on
abbrev pub IsAhead : List Placed → List Step → List Tuple → ℕ → List Tuple → Type 0
IsAhead ps steps x n y = (k : ℕ) → led ps (drop n steps) (shifted (pos k) y) ≡ led ps steps (shifted (pos k) x)
