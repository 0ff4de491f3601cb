-- The statements of the laws on the replica that has given parts.
use Rattle.std.specs.Prelude.{◌≡◌, None}
use Rattle.rls_model.specs.declared.parts.Parts.{Parts}
use Rattle.rls_model.specs.Legal.{IsLegal}
use Rattle.rls_model.specs.Parts.{parts}
use Rattle.rls_model.specs.Receiving.{State}
use Rattle.rls_seen.specs.Seen.{Seen}
use Rattle.rls_seen.specs.Sane.{IsSane}
use Rattle.rls_seen.specs.Stands.{StandsFor}
use Rattle.rls_seen.specs.Kept.{parts_over}
use Rattle.rls_parts.specs.Given.{AreGiven, AreRanged}
use Rattle.rls_parts.specs.Restored.{seen_of}
use Rattle.rls_parts.specs.Rules.{broken, held_fault}

-- where no rule is broken, the replica is sane
abbrev pub RestoredSane : Type 0
RestoredSane = (p : Parts) → AreGiven p → AreRanged p → broken p ≡ None → IsSane (seen_of p)

-- and it has exactly these parts
abbrev pub PartsBack : Type 0
PartsBack = (p : Parts) → AreGiven p → broken p ≡ None → parts_over (seen_of p) ≡ p

-- the replica with the parts of a history and what waits, which break no rule, stands for them, as the one did that had the parts
abbrev pub StandsAgain : Type 0
StandsAgain = (s : Seen) (t : State) → StandsFor s t → broken (parts t) ≡ None → StandsFor (seen_of (parts t)) t

-- the replica with the parts of a legal history and what waits, which break no rule, stands for them
abbrev pub PartsStand : Type 0
PartsStand = (t : State) → IsLegal t.history → AreRanged (parts t) → broken (parts t) ≡ None → StandsFor (seen_of (parts t)) t

-- the parts of a sane replica, whose waiting operations may wait, break no rule
abbrev pub SanePasses : Type 0
SanePasses = (s : Seen) → IsSane s → held_fault (parts_over s) None 0 s.waiting ≡ None → broken (parts_over s) ≡ None
