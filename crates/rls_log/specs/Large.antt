-- Large deletions, kept as values beside their bytes.
use Rattle.std.specs.Prelude.{◌≡◌, ℕ, ◌+◌, ◌≤◌, List, [], ◌∷◌, ◌++◌, Option, Some, None, All}
use Rattle.rls_ops.specs.declared.op.Op.{Op}
use Rattle.rls_log.specs.declared.entry.Entry.{Entry}
use Rattle.rls_log.specs.declared.large.LargeDeletion.{LargeDeletion}
use Rattle.rls_log.specs.Encoded.{IsEntry, op_in}

-- the values, and that of an entry after them, if there is one
abbrev pub with_value : List LargeDeletion → Entry → Option Op → List LargeDeletion
with_value vs e None = vs
with_value vs e (Some o) = vs ++ record { entry = e; op = o } ∷ []

-- the value is the operation that the bytes of its entry spell
pub record IsLarge (bytes : List ℕ) (v : LargeDeletion) : Type 0 where
  pub entry : IsEntry bytes v.entry
  pub op : v.op ≡ op_in bytes v.entry

-- each is
abbrev pub AreLarge : List ℕ → List LargeDeletion → Type 0
AreLarge bytes vs = All (IsLarge bytes) vs

-- it is, and its bytes end at this place or before
abbrev pub IsLargeWithin : List ℕ → ℕ → LargeDeletion → Type 0
IsLargeWithin bytes n v = IsLarge bytes v × (v.entry.start + v.entry.len ≤ n)

-- each is
abbrev pub AreLargeWithin : List ℕ → ℕ → List LargeDeletion → Type 0
AreLargeWithin bytes n vs = All (IsLargeWithin bytes n) vs
