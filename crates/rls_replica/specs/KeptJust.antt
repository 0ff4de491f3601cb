-- What is kept, against what is counted.
use Rattle.std.specs.Prelude.{◌≡◌}
use Rattle.rls_model.specs.declared.counts.Counts.{Counts}
use Rattle.rls_seen.specs.Seen.{Seen}
use Rattle.rls_seen.specs.Kept.{kept_operations, kept_epochs, kept_former}

-- just as many operations, epochs and former identifiers are kept as are counted as unstable and retained
pub record KeepsJust (s : Seen) (c : Counts) : Type 0 where
  pub operations : kept_operations s ≡ c.unstable
  pub epochs : kept_epochs s ≡ c.epochs
  pub former : kept_former s ≡ c.former
