-- What the stems of one author are seen as.
use Rattle.std.specs.Prelude.{ℕ, List}
use Rattle.rls_parts.specs.declared.line.Reach.{Reach}

-- the stems by number, and how many more may be pushed
pub record LineSeen : Type 0 where
  pub reaches : List Reach
  pub spare : ℕ
