-- Which numbers and lists an operation may have.
use Rattle.std.specs.Prelude.{◌≡◌, ℕ, ◌^◌, ◌<◌, ◌≤ℤ◌, List, [], ◌∷◌, length, All, IsTrue}
use Rattle.std.specs.Char.{IsScalar}
use Rattle.rls_ident.specs.declared.epoch_name.EpochName.{EpochName}
use Rattle.rls_ident.specs.declared.epoch_name.EpochName.TheVariants.{Origin, Of}
use Rattle.rls_ident.specs.Identifiers.{is_ident, last_of, least_offset}
use Rattle.rls_ident.specs.Tuples.{offset_of}
use Rattle.rls_runs.specs.Runs.{AreIdents}
use Rattle.rls_ops.specs.declared.op.Op.{Op}
use Rattle.rls_ops.specs.declared.op.Body.{Body}
use Rattle.rls_ops.specs.declared.op.Body.TheVariants.{Insert, Delete, Rename, Leave}

-- a u32, which a format holds in four bytes
abbrev pub IsSmall : ℕ → Type 0
IsSmall n = n < 2 ^ 32

-- a u64, which a format holds in eight bytes
abbrev pub IsLarge : ℕ → Type 0
IsLarge n = n < 2 ^ 64

-- a count for each member
abbrev pub IsVector : ℕ → List ℕ → Type 0
IsVector members v = (length v ≡ members) × All IsSmall v

-- the numbers of an epoch's name
abbrev pub IsName : EpochName → Type 0
IsName Origin = Unit {0}
IsName (Of r s) = IsSmall r × IsSmall s

-- Unicode scalar values
abbrev pub IsText : List ℕ → Type 0
IsText cs = All IsScalar cs

-- an identifier and a text, or a strictly increasing list of identifiers
abbrev pub IsBody : Body → Type 0
IsBody (Insert first text) = IsTrue (is_ident first) × IsText text
IsBody (Delete targets) = AreIdents targets
IsBody (Rename former) = AreIdents former
IsBody Leave = Unit {0}

-- a well formed operation
pub record IsOp (o : Op) : Type 0 where
  pub author : IsSmall o.author
  pub seq : IsSmall o.seq
  pub context : All IsSmall o.context
  pub epoch : IsName o.epoch
  pub body : IsBody o.body

-- well formed operations
abbrev pub AreOps : List Op → Type 0
AreOps [] = Unit {0}
AreOps (o ∷ os) = IsOp o × AreOps os

-- the first offset of an insertion is in the range of the program
abbrev pub IsInRange : Body → Type 0
IsInRange (Insert first text) = least_offset ≤ℤ offset_of (last_of first)
IsInRange b = Unit {0}
