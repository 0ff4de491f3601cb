-- What is known of fields that were written, beside their bytes: the numbers, identifiers and characters of the code's types fit them.
use Rattle.std.specs.Prelude.{◌≡◌, ℕ, List, All, Some}
use Rattle.rls_runs.specs.Runs.{AreIdents}
use Rattle.rls_ops.specs.WellFormed.{IsSmall}
use Rattle.rls_codec.specs.Spelled.{FitRuns, FitsRun, FitsText}
use Rattle.rls_model.specs.declared.parts.EpochPart.{EpochPart}
use Rattle.rls_model.specs.declared.parts.TextRun.{TextRun}

-- the counts of a row
abbrev pub FitsRow : List ℕ → Type 0
FitsRow row = All IsSmall row

-- the former identifiers of an epoch that has a parent; the topmost epoch has none
abbrev pub FitsFormer : EpochPart → Type 0
FitsFormer e = (k : ℕ) → e.parent ≡ Some k → AreIdents e.former → FitRuns e.former

-- a run of the text and its characters
abbrev pub FitsChars : TextRun → Type 0
FitsChars r = FitsRun r.run × FitsText r.text
