-- A run of identifiers of one epoch, and where these are in the greatest one.
use Rattle.std.specs.Prelude.{◌≡◌, ◌+◌, ◌≤◌, ℕ, List, map, pos, Option, Some, None}
use Rattle.rls_ident.specs.declared.tuple.Tuple.{Tuple}
use Rattle.rls_ident.specs.Identifiers.{shifted}
use Rattle.rls_runs.specs.Runs.{run_idents}
use Rattle.rls_seen.specs.Seen.{Seen}
use Rattle.rls_seen.specs.Over.{placed_over}
use Rattle.rls_undo.specs.declared.translating.Translation.{Translation}

-- that is where they are
abbrev pub IsRight : Seen → Translation → Type 0
IsRight s t = t.there ≡ map (placed_over s t.epoch) (run_idents t.run.0 t.run.1)

-- so it is, if there is one
abbrev pub IsKnown : Seen → Option Translation → Type 0
IsKnown s None = Unit {0}
IsKnown s (Some t) = IsRight s t

-- these n identifiers, from x on, are those of the run from a place on
pub record LiesAt (r : List Tuple × ℕ) (x : List Tuple) (n place : ℕ) : Type 0 where
  pub first : x ≡ shifted (pos place) r.0
  pub within : place + n ≤ r.1
