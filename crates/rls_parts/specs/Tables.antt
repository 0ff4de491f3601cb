-- The stems of all authors, from those of each.
use Rattle.std.specs.Prelude.{◌≡◌, ℕ, suc, ◌<◌, List, [], ◌∷◌, ◌++◌, length, map}
use Rattle.rls_ident.specs.Lists.{IsIn}
use Rattle.rls_model.specs.declared.parts.Stem.{Stem}
use Rattle.rls_parts.specs.Lines.{LineSeen}
use Rattle.rls_parts.specs.Reaches.{stem_at}
use Rattle.rls_parts.specs.Seen.{StemsSeen}

-- the stems of these authors, the first of whom has this number
abbrev pub stems_from : ℕ → List LineSeen → List Stem
stems_from a [] = []
stems_from a (l ∷ ls) = map (stem_at a) l.reaches ++ stems_from (suc a) ls

-- what they are seen as
abbrev pub seen_of : List LineSeen → StemsSeen
seen_of ls = record { stems = stems_from 0 ls; members = length ls; spare = map (λ l. l.spare) ls }

-- each stem of the author has a number below s
abbrev pub IsNewest : List Stem → ℕ → ℕ → Type 0
IsNewest ss a s = (t : Stem) → IsIn t ss → t.author ≡ a → t.s0 < s
