-- What holds of each replica, whether or not it stands for a history.
use Rattle.std.specs.Prelude.{◌≡◌, ℕ, ◌+◌, ◌<◌, ◌≤◌, pos, ◌≤ℤ◌, List, [], ◌∷◌, length, slice_index, All, None, IsTrue, map, ◌*◌, ◌^◌, sum}
use Rattle.std.specs.List.{list_all}
use Rattle.rls_ident.specs.declared.limits.TheConstants.{MEMBERS, IDENTIFIERS, OFFSETS_END}
use Rattle.rls_ident.specs.declared.tuple.Tuple.{Tuple}
use Rattle.rls_ident.specs.declared.epoch_name.EpochName.{EpochName}
use Rattle.rls_ident.specs.declared.epoch_name.EpochName.TheVariants.{Origin, Of}
use Rattle.rls_ident.specs.EpochNames.{is_within}
use Rattle.rls_ident.specs.Identifiers.{last_of, least_offset}
use Rattle.rls_ident.specs.Lists.{IsIn}
use Rattle.rls_ident.specs.Tuples.{replica_of, seq_of, offset_of}
use Rattle.rls_ident.specs.Vectors.{at_most, raise}
use Rattle.rls_runs.specs.Runs.{AreIdents, run_idents}
use Rattle.rls_rename.specs.Tree.{Node, Epochs, AreNodes, AreBelow, is_kept}
use Rattle.rls_ops.specs.declared.op.Op.{Op}
use Rattle.rls_ops.specs.Rows.{AcksSeen, AreRows, row_of, left}
use Rattle.rls_ops.specs.Shapes.{shape_fault}
pub use Rattle.rls_ops.specs.WellFormed.{IsInRange}
use Rattle.rls_model.specs.declared.parts.Stem.{Stem}
use Rattle.rls_model.specs.History.{is_leave}
use Rattle.rls_model.specs.Receiving.{comes_before}
use Rattle.rls_model.specs.Stems.{is_used, stands_before}
use Rattle.rls_model.specs.WellFormed.{IsSmall, IsLarge, IsOp}
use Rattle.rls_seen.specs.Seen.{Seen, vector, members, stable_over, unstable_over, greatest_over, translate_over, idents_over}
use Rattle.rls_seen.specs.Kept.{kept_former}
use Rattle.rls_seen.specs.Over.{refusal_over, placed_over}

-- ---- stems

-- the numbers of a stem are in range, and its number was counted
pub record IsStem (v : List ℕ) (t : Stem) : Type 0 where
  pub author : t.author < length v
  pub begun : 0 < t.s0
  pub counted : t.s0 ≤ slice_index v t.author
  pub bottom : least_offset ≤ℤ t.low
  pub low : t.low ≤ℤ pos 0
  pub some : 0 < t.next
  pub end : t.next ≤ OFFSETS_END

-- such stems, in increasing order of author and number
abbrev pub AreStems : List ℕ → List Stem → Type 0
AreStems v [] = Unit {0}
AreStems v (t ∷ ts) = IsStem v t × IsTrue (list_all (λ u. stands_before u.author u.s0 t) ts) × AreStems v ts

-- the last tuple of the identifier was used
abbrev pub IsUsed : List Stem → List Tuple → Type 0
IsUsed ss x = IsTrue (is_used ss (replica_of (last_of x)) (seq_of (last_of x)) (offset_of (last_of x)))

-- ---- epochs

-- the epoch is the origin, or was opened by an operation that the vector counts
abbrev pub IsCounted : List ℕ → EpochName → Type 0
IsCounted v Origin = Unit {0}
IsCounted v (Of r s) = (r < length v) × (0 < s) × (s ≤ slice_index v r)

-- the new identifiers of the node's renaming were used
abbrev pub IsCovered : List Stem → Node → Type 0
IsCovered ss n = (j : ℕ) → j < length n.renaming.former → IsTrue (is_used ss n.renaming.replica n.renaming.seq (pos j))

-- one tree of counted epochs, whose new identifiers were used
pub record AreEpochs (v : List ℕ) (ss : List Stem) (E : Epochs) : Type 0 where
  pub nodes : AreNodes E.nodes
  pub below : AreBelow E.top E.nodes
  pub counted : (e : EpochName) → IsTrue (is_kept E.top E.nodes e) → IsCounted v e
  pub few : (n : Node) → IsIn n E.nodes → length n.renaming.former ≤ IDENTIFIERS
  pub covered : (n : Node) → IsIn n E.nodes → IsCovered ss n

-- ---- operations

-- well formed operations with numbers above the vector, each before all after it
abbrev pub AreHeld : ℕ → List ℕ → List Op → Type 0
AreHeld n v [] = Unit {0}
AreHeld n v (w ∷ ws) =
    IsOp w × IsInRange w.body × (shape_fault n w ≡ None) × (slice_index v w.author < w.seq) × IsTrue (list_all (comes_before w) ws) × AreHeld n v ws

-- each operation comes next, from one vector up to the other
abbrev pub Follow : ℕ → List ℕ → List Op → List ℕ → Type 0
Follow n from [] to = from ≡ to
Follow n from (o ∷ os) to =
    IsOp o × (shape_fault n o ≡ None) × (o.seq ≡ slice_index from o.author + 1) × IsTrue (at_most o.context from) × Follow n (raise from o.author) os to

-- the log leads from a vector that is at most the stable one up to the own one
pub record IsLogOf (s : Seen) (from : List ℕ) : Type 0 where
  pub stable : IsTrue (at_most from (stable_over s))
  pub follow : Follow (members s) from s.log (vector s)

-- the member left by the operation, its last
pub record IsLast (acks : AcksSeen) (o : Op) : Type 0 where
  pub left : IsTrue (left acks o.author)
  pub last : o.seq ≡ slice_index acks.mine o.author

-- ---- all

pub record IsSane (s : Seen) : Type 0 where
  pub group : IsLarge s.group
  pub few : members s ≤ MEMBERS
  pub small : All IsSmall (vector s)
  pub rows : AreRows s.acks
  -- no row counts more of its own member than was accepted
  pub own : (a : ℕ) → a < members s → slice_index (row_of s.acks a) a ≤ slice_index (vector s) a
  pub stems : AreStems (vector s) s.stems
  pub epochs : AreEpochs (vector s) s.stems s.epochs
  -- some kept epoch is stable
  pub within : (e : EpochName) × IsTrue (is_kept s.epochs.top s.epochs.nodes e) × IsTrue (is_within e (stable_over s))
  pub idents : AreIdents (idents_over s)
  -- the last tuple of each identifier of the text was used, in each kept epoch
  pub used : (x : List Tuple) → IsIn x (idents_over s) → (f : EpochName) → IsTrue (is_kept s.epochs.top s.epochs.nodes f) → IsUsed s.stems (translate_over s (greatest_over s) f x)
  pub waiting : AreHeld (members s) (vector s) s.waiting
  pub log : (from : List ℕ) × IsLogOf s from
  pub unstable : (o : Op) → IsIn o (unstable_over s) → IsTrue (is_kept s.epochs.top s.epochs.nodes o.epoch)
  pub leaves : (o : Op) → IsIn o s.log → IsTrue (is_leave o.body) → IsLast s.acks o
  -- no more characters and former identifiers than parts and operations may bring
  pub total : length s.text ≤ 2 ^ 63 + IDENTIFIERS * sum (vector s)
  pub former : kept_former s ≤ 2 ^ 54 + IDENTIFIERS * sum (vector s)

-- ---- what a step needs

-- the operation is well formed, its causes are there, its number is new, and it fits
pub record MayApply (s : Seen) (o : Op) : Type 0 where
  pub whole : IsOp o
  pub shape : shape_fault (members s) o ≡ None
  pub above : slice_index (vector s) o.author < o.seq
  pub causes : IsTrue (at_most o.context (vector s))
  pub fits : refusal_over s o ≡ None

-- the operation is well formed and its number is new, so that it may wait
pub record MayWait (s : Seen) (o : Op) : Type 0 where
  pub whole : IsOp o
  pub shape : shape_fault (members s) o ≡ None
  pub above : slice_index (vector s) o.author < o.seq

-- what an insertion adds: identifiers that rise, none of which is in the text
pub record IsNewborn (s : Seen) (o : Op) (first : List Tuple) (text : List ℕ) : Type 0 where
  pub idents : AreIdents (map (placed_over s o.epoch) (run_idents first (length text)))
  pub new : (x : List Tuple) → IsIn x (map (placed_over s o.epoch) (run_idents first (length text))) → IsIn x (idents_over s) → ⊥
