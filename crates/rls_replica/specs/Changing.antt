-- What is known where an operation is accepted, and what it adds.
use Rattle.std.specs.Prelude.{◌≡◌, ◌+◌, ℕ, ◌<◌, ◌≤◌, ◌^◌, pos, ◌+ℤ◌, ◌≤ℤ◌, Option, Some, None, List, [], length, map, IsTrue, IsFalse}
use Rattle.rls_ident.specs.declared.limits.TheConstants.{CHARACTERS, IDENTIFIERS}
use Rattle.rls_ident.specs.declared.tuple.Tuple.{Tuple}
use Rattle.rls_ident.specs.declared.epoch_name.EpochName.{EpochName}
use Rattle.rls_ident.specs.declared.epoch_name.EpochName.TheVariants.{Of}
use Rattle.rls_ident.specs.Identifiers.{last_of}
use Rattle.rls_ident.specs.Lists.{IsIn}
use Rattle.rls_ident.specs.Tuples.{offset_of}
use Rattle.rls_runs.specs.Entries.{Entries, idents_in}
use Rattle.rls_runs.specs.Runs.{AreIdents, is_increasing, run_idents, past_offsets}
use Rattle.rls_blocks.specs.Trees.{piece_entries}
use Rattle.rls_blocks.specs.Edits.{inserted}
use Rattle.rls_rename.specs.Renaming.{Renaming, IsFormer, forward}
use Rattle.rls_rename.specs.Tree.{Node, Epochs, AreNodes, is_kept, greatest, translate}
use Rattle.rls_ops.specs.declared.op.Op.{Op}
use Rattle.rls_ops.specs.declared.op.Body.{Body}
use Rattle.rls_ops.specs.declared.op.Body.TheVariants.{Insert, Rename}
use Rattle.rls_ops.specs.Rows.{AcksSeen}
use Rattle.rls_model.specs.declared.parts.Stem.{Stem}
use Rattle.rls_model.specs.Epochs.{renaming_of}
use Rattle.rls_seen.specs.Seen.{Seen}
use Rattle.rls_seen.specs.Over.{text_after}
use Rattle.rls_seen.specs.Sane.{IsSane, MayApply}

-- the renaming of a rename
abbrev pub renaming_in : Op → Body → Option Renaming
renaming_in o (Rename former) = Some (renaming_of o former)
renaming_in o _ = None

-- the former identifiers of a rename
abbrev pub former_in : Body → List (List Tuple)
former_in (Rename former) = former
former_in _ = []

-- a sane replica with these epochs and this text may apply the operation
pub record MayPrepare (E : Epochs) (es : Entries) (o : Op) : Type 0 where
  pub replica : Seen
  pub epochs_are : replica.epochs ≡ E
  pub text_is : replica.text ≡ es
  pub sane : IsSane replica
  pub may : MayApply replica o

-- this is the text of each such replica after this body of the operation
abbrev pub IsTextAfter : Epochs → Entries → Op → Body → Entries → Type 0
IsTextAfter E es o b new = (s : Seen) → s.epochs ≡ E → s.text ≡ es → new ≡ text_after s o b

-- a sane replica with these rows, stems and epochs may apply the operation
pub record MayFinish (acks : AcksSeen) (ss : List Stem) (E : Epochs) (o : Op) : Type 0 where
  pub replica : Seen
  pub acks_are : replica.acks ≡ acks
  pub stems_are : replica.stems ≡ ss
  pub epochs_are : replica.epochs ≡ E
  pub sane : IsSane replica
  pub may : MayApply replica o

-- an identifier of one epoch in the other, and then by the renaming
abbrev pub renamed_from : List Node → EpochName → EpochName → Renaming → List Tuple → List Tuple
renamed_from nodes e f R x = forward R (translate nodes e f x)

-- a text of epoch e may be added: its epoch is kept, its identifiers rise where they are put, and none of them is there
pub record MayInsert (E : Epochs) (es : Entries) (e : EpochName) (first : List Tuple) (text : List ℕ) : Type 0 where
  pub kept : IsTrue (is_kept E.top E.nodes e)
  pub some : 0 < length text
  pub few : length text ≤ CHARACTERS
  pub end : (offset_of (last_of first) +ℤ pos (length text)) ≤ℤ past_offsets
  pub idents : AreIdents (map (translate E.nodes e (greatest E.top E.nodes)) (run_idents first (length text)))
  pub new : (x : List Tuple) → IsIn x (map (translate E.nodes e (greatest E.top E.nodes)) (run_idents first (length text))) → IsIn x (idents_in es) → ⊥
  pub room : length es + length text < 2 ^ 64

-- a text of epoch e goes to this place: e is the greatest epoch, and identifiers still rise where it is put in there
pub record GoesTo (E : Epochs) (es : Entries) (e : EpochName) (first : List Tuple) (text : List ℕ) (place : ℕ) : Type 0 where
  pub epoch : e ≡ greatest E.top E.nodes
  pub within : place ≤ length es
  pub rises : IsTrue (is_increasing (idents_in (inserted place (piece_entries ((first, length text), text)) es)))

-- an insertion of epoch e goes to this place. Of any other body the place says nothing
abbrev pub IsPlaceOf : Epochs → Entries → EpochName → Body → ℕ → Type 0
IsPlaceOf E es e (Insert first text) place = GoesTo E es e first text place
IsPlaceOf E es e _ place = Unit {0}

-- a rename may open its epoch
pub record MayRename (E : Epochs) (o : Op) (former : List (List Tuple)) : Type 0 where
  pub nodes : AreNodes E.nodes
  pub kept : IsTrue (is_kept E.top E.nodes o.epoch)
  pub fresh : IsFalse (is_kept E.top E.nodes (Of o.author o.seq))
  pub body : o.body ≡ Rename former
  pub are_former : IsFormer former
  pub few : length former ≤ IDENTIFIERS
