-- Which values have a spelling: those that keep the rules of the format.
use Rattle.std.specs.Prelude.{◌≡◌, ℕ, ◌<◌, ◌≤◌, ℤ, List, [], ◌∷◌, length, encode_utf8_all, All, Option, Some, None, IsTrue}
use Rattle.std.specs.Str.{all_scalars}
use Rattle.rls_ident.specs.declared.limits.TheConstants.{OPERATION_BYTES}
use Rattle.rls_ident.specs.declared.tuple.Tuple.{Tuple}
use Rattle.rls_ident.specs.declared.tuple.Tuple.TheVariants.{Low, At, High}
use Rattle.rls_ident.specs.declared.epoch_name.EpochName.{EpochName}
use Rattle.rls_ident.specs.declared.epoch_name.EpochName.TheVariants.{Origin, Of}
use Rattle.rls_ident.specs.Identifiers.{least_offset, least_inner}
use Rattle.rls_runs.specs.Runs.{runs_of, is_apart, idents_of}
use Rattle.rls_ops.specs.declared.op.Op.{Op}
use Rattle.rls_ops.specs.declared.op.Body.{Body}
use Rattle.rls_ops.specs.declared.op.Body.TheVariants.{Insert, Delete, Rename, Leave}
use Rattle.rls_ops.specs.declared.message.Message.{Message}
use Rattle.rls_ops.specs.Spelling.{op_bytes}
use Rattle.rls_ops.specs.Sizes.{op_size}
use Rattle.rls_ops.specs.WellFormed.{IsSmall, IsLarge, IsBody}
use Rattle.rls_codec.specs.Reading.{is_offset, is_run_len, is_member_count}

-- each part fits after the one before
abbrev pub Chained : {A : Type 0} → (Option A → A → Type 0) → Option A → List A → Type 0
Chained F before [] = Unit {0}
Chained F before (x ∷ xs) = F before x × Chained F (Some x) xs

-- the numbers of a tuple fit four bytes
abbrev pub IsSmallTuple : Tuple → Type 0
IsSmallTuple (At p r s o) = IsSmall p × IsSmall r × IsSmall s
IsSmallTuple Low = Unit {0}
IsSmallTuple High = Unit {0}

-- an `At` with an offset from this one on
abbrev pub FitsAt : ℤ → Tuple → Type 0
FitsAt least (At p r s o) = IsSmall p × IsSmall r × IsSmall s × IsTrue (is_offset least o)
FitsAt least Low = ⊥
FitsAt least High = ⊥

-- a tuple before another
abbrev pub FitsInner : Tuple → Type 0
FitsInner (At p r s o) = FitsAt least_inner (At p r s o)
FitsInner Low = Unit {0}
FitsInner High = Unit {0}

-- the last tuple is an `At`
abbrev pub FitTuples : List Tuple → Type 0
FitTuples [] = ⊥
FitTuples (t ∷ []) = FitsAt least_offset t
FitTuples (t ∷ (u ∷ ts)) = FitsInner t × FitTuples (u ∷ ts)

abbrev pub FitsIdent : List Tuple → Type 0
FitsIdent x = IsSmall (length x) × FitTuples x

abbrev pub FitsRun : List Tuple × ℕ → Type 0
FitsRun r = FitsIdent r.0 × IsSmall r.1 × IsTrue (is_run_len r.0 r.1)

-- a run after the run before
abbrev pub FitsBehind : Option (List Tuple × ℕ) → List Tuple × ℕ → Type 0
FitsBehind before r = FitsRun r × IsTrue (is_apart before r)

-- the identifiers of runs that fit one after the other
abbrev pub FitRuns : List (List Tuple) → Type 0
FitRuns xs = IsSmall (length (runs_of xs)) × Chained FitsBehind None (runs_of xs) × (idents_of (runs_of xs) ≡ xs)

abbrev pub FitsName : EpochName → Type 0
FitsName Origin = Unit {0}
FitsName (Of r s) = IsSmall r × IsSmall s

abbrev pub FitsText : List ℕ → Type 0
FitsText cs = IsTrue (all_scalars cs) × IsSmall (length (encode_utf8_all cs))

abbrev pub FitsBody : Body → Type 0
FitsBody (Insert first text) = FitsIdent first × FitsText text
FitsBody (Delete targets) = FitRuns targets
FitsBody (Rename former) = FitRuns former
FitsBody Leave = Unit {0}

abbrev pub FitsVector : ℕ → List ℕ → Type 0
FitsVector members v = (length v ≡ members) × Chained (λ before. IsSmall) None v

-- the fields of an operation among so many members have a spelling
abbrev pub FieldsFit : ℕ → Op → Type 0
FieldsFit members o = IsSmall o.author × IsSmall o.seq × FitsVector members o.context × FitsName o.epoch × FitsBody o.body

-- an operation among so many members that has a spelling
pub record IsSpelled (members : ℕ) (o : Op) : Type 0 where
  pub author : IsSmall o.author
  pub seq : IsSmall o.seq
  pub context : FitsVector members o.context
  pub epoch : FitsName o.epoch
  pub body : FitsBody o.body
  pub limit : length (op_bytes o) ≤ OPERATION_BYTES

-- a message that has a spelling
pub record IsSpelledMessage (m : Message) : Type 0 where
  pub group : IsLarge m.group
  pub members : IsTrue (is_member_count m.members)
  pub from : m.from < m.members
  pub vector : FitsVector m.members m.vector
  pub count : IsSmall (length m.ops)
  pub ops : Chained (λ before. IsSpelled m.members) None m.ops

-- ---- what a value must keep to have a spelling, beside the ranges of the types of the code

-- an operation with a well formed body that keeps the limit has one
abbrev pub IsSpelledIfFit : Op → Type 0
IsSpelledIfFit o = IsBody o.body → op_size o ≤ OPERATION_BYTES → IsSpelled (length o.context) o

-- a message's operation
abbrev pub IsFitAmong : ℕ → Op → Type 0
IsFitAmong members o = IsBody o.body × (op_size o ≤ OPERATION_BYTES) × (length o.context ≡ members)

-- a message
pub record IsFit (m : Message) : Type 0 where
  pub members : IsTrue (is_member_count m.members)
  pub from : m.from < m.members
  pub vector : length m.vector ≡ m.members
  pub ops : All (IsFitAmong m.members) m.ops
