-- How many operations a vector leaves uncovered, told by the greatest number of each author.
use Rattle.std.specs.Prelude.{◌≡◌, ℕ, ◌+◌, ◌-◌, ◌≤◌, true, List, [], ◌∷◌, length}
use Rattle.rls_ops.specs.declared.op.Op.{Op}
use Rattle.rls_ops.specs.Rows.{missing_for}
use Rattle.rls_log.specs.declared.entry.Entry.{Entry}
use Rattle.rls_log.specs.declared.latest.Latest.{Latest}
use Rattle.rls_log.specs.declared.large.LargeDeletion.{LargeDeletion}
use Rattle.rls_log.specs.Encoded.{AreEntries, ops_in}
use Rattle.rls_log.specs.Large.{AreLarge}

-- how far these counts are below the numbers, in sum
abbrev pub excess : List ℕ → List ℕ → ℕ
excess [] v = 0
excess (n ∷ ns) [] = n + excess ns []
excess (n ∷ ns) (c ∷ v) = (n - c) + excess ns v

-- each vector leaves at most as many operations uncovered as it is below these numbers
abbrev pub AreAbove : List ℕ → List Op → Type 0
AreAbove ns os = (v : List ℕ) → length (missing_for v os) ≤ excess ns v

-- the numbers do, where they are told
abbrev pub Bounds : Latest → List Op → Type 0
Bounds latest os = latest.is_rising ≡ true → AreAbove latest.counts.items os

-- the entries read from the bytes are operations, of which the greatest numbers tell, and the values are operations of the bytes
pub record IsLog (bytes : List ℕ) (es : List Entry) (vs : List LargeDeletion) (l : Latest) : Type 0 where
  pub entries : AreEntries bytes es
  pub values : AreLarge bytes vs
  pub latest : Bounds l (ops_in bytes es)
