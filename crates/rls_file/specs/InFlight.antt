-- Operations that some member that hasn't left may not have, and what a file keeps for them.
use Rattle.std.specs.Prelude.{◌≡◌, ◌<◌, ◌+◌, ℕ, [], ◌∷◌, length, sum, IsTrue, IsFalse}
use Rattle.rls_ident.specs.Vectors.{at_most}
use Rattle.rls_ops.specs.Rows.{left, row_of}
use Rattle.rls_model.specs.Parts.{top_part}
use Rattle.rls_seen.specs.Kept.{parts_over}
use Rattle.rls_seen.specs.Sane.{IsSane}
use Rattle.rls_seen.specs.Seen.{Seen, greatest_over, members, stable_over, vector}

-- each member that hasn't left has told that it has all that the replica has accepted
abbrev pub AllAcknowledged : Seen → Type 0
AllAcknowledged s = (a : ℕ) → a < members s → IsFalse (left s.acks a) → IsTrue (at_most (vector s) (row_of s.acks a))

-- A file keeps as many operations as the counts of what was accepted exceed those of what is stable. If all is acknowledged it keeps no
-- operation, and of the epochs just the greatest, by its name alone: no former list.
abbrev pub InFlight : Type 0
InFlight = (s : Seen) → IsSane s → let p = parts_over s in
    (length p.log + sum (stable_over s) ≡ sum (vector s)) × (AllAcknowledged s → (p.log ≡ []) × (p.epochs ≡ top_part (greatest_over s) ∷ []))
