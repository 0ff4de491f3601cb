-- What is made of parts that break no rule.
use Rattle.std.specs.Prelude.{◌≡◌, None}
use Rattle.rls_model.specs.declared.parts.Parts.{Parts}
use Rattle.rls_parts.specs.Reading.{epochs_of}
use Rattle.rls_parts.specs.Restored.{acks_of}
use Rattle.rls_parts.specs.Rules.{broken}
use Rattle.rls_parts.specs.declared.tested.Tested.{Tested}

-- the rows, the stems and the epochs of parts that break no rule
pub record IsMade (p : Parts) (m : Tested) : Type 0 where
  pub unbroken : broken p ≡ None
  pub acks : m.acks ≡ acks_of p
  pub stems : (m.stems).stems ≡ p.stems
  pub members : (m.stems).members ≡ p.members
  pub epochs : (m.epochs).epochs ≡ epochs_of p
