-- What the stems of all authors are seen as.
use Rattle.std.specs.Prelude.{ℕ, List}
use Rattle.rls_model.specs.declared.parts.Stem.{Stem}

-- the stems by author and number, the count of authors, and for each author how many more may be begun
pub record StemsSeen : Type 0 where
  pub stems : List Stem
  pub members : ℕ
  pub spare : List ℕ
