-- What the types of parts promise, entry by entry.
use Rattle.std.specs.Prelude.{List, [], ◌∷◌}
use Rattle.rls_runs.specs.Runs.{AreIdents}
pub use Rattle.rls_log.specs.Fitting.{AreFit}
use Rattle.rls_model.specs.declared.parts.EpochPart.{EpochPart}

-- each former list rises
abbrev pub HaveFormer : List EpochPart → Type 0
HaveFormer [] = Unit {0}
HaveFormer (e ∷ es) = AreIdents e.former × HaveFormer es
