-- The characters of a text, whichever way they stand.
use Rattle.std.specs.Prelude.{ℕ, List, [], ◌∷◌}
use Rattle.rls_runs.specs.declared.text.Characters.{Characters}
use Rattle.rls_runs.specs.declared.text.Characters.TheVariants as standing

abbrev pub characters_of : Characters → List ℕ
characters_of (standing.One c) = c ∷ []
characters_of (standing.List list) = list.items
characters_of (standing.Ring ring) = ring.items
