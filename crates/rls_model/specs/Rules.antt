-- The rules, over a view.
-- Why: docs/DECISIONS.md, 110.
use Rattle.std.specs.Prelude.{ℕ, zero, suc, ◌+◌, Bool, not, List, [], ◌∷◌, ◌++◌, length, take, drop, ◌==◌, slice_get, slice_index, slice_set, Option, Some, None, if◌then◌else◌}
use Rattle.rls_ident.specs.declared.limits.TheConstants.{GREATEST_NUMBER, INPUT_BYTES}
use Rattle.rls_ident.specs.declared.tuple.Tuple.{Tuple}
use Rattle.rls_ident.specs.declared.epoch_name.EpochName.{EpochName}
use Rattle.rls_ident.specs.EpochNames.{name_eq}
use Rattle.rls_ident.specs.Identifiers.{last_of}
use Rattle.rls_ident.specs.Vectors.{at_most}
use Rattle.rls_runs.specs.Entries.{Entries}
use Rattle.rls_runs.specs.Runs.{runs_of}
use Rattle.rls_ops.specs.declared.op.Op.{Op}
use Rattle.rls_ops.specs.declared.op.Body.{Body}
use Rattle.rls_ops.specs.declared.op.Body.TheVariants.{Insert, Delete, Rename, Leave}
use Rattle.rls_ops.specs.declared.message.Message.{Message}
use Rattle.rls_ops.specs.Rows.{missing_for}
use Rattle.rls_ops.specs.Sizes.{op_size, head_size, front_within}
use Rattle.rls_model.specs.declared.counts.Counts.{Counts}
use Rattle.rls_model.specs.declared.parts.EpochPart.{EpochPart}
use Rattle.rls_model.specs.declared.parts.Parts.{Parts}
use Rattle.rls_model.specs.declared.edit.Edit.{Edit}
use Rattle.rls_model.specs.declared.edit.Edit.TheVariants as edits
use Rattle.rls_model.specs.declared.edit.EditError.{EditError}
use Rattle.rls_model.specs.declared.edit.EditError.TheVariants.{NumbersSpent}
use Rattle.rls_model.specs.declared.edit.EditError.TheVariants as errors
use Rattle.rls_model.specs.Answers.{Reason, Left, Backward, WrongEpoch, WrongStem, UnknownTarget, Released}
use Rattle.rls_model.specs.EditParts.{first_between, get_before, range_fault, or_fault, size_fault}
use Rattle.rls_model.specs.PartLists.{text_runs}
use Rattle.rls_model.specs.Stems.{due_offset, may_use}
use Rattle.rls_model.specs.View.{Plain, View}

abbrev pub count_of : Plain → ℕ → ℕ
count_of v a = slice_index v.vector a

abbrev pub own_count : Plain → ℕ
own_count v = slice_index v.vector v.me

-- ---- editing

-- what the edit does, with identifiers of the greatest epoch
abbrev pub made_body : Plain → Edit → Body
made_body v (edits.Insert at text) =
    Insert (first_between v.stems v.me (own_count v + 1) (get_before v.idents at) (slice_get v.idents at) (length text)) text
made_body v (edits.Delete at n) = Delete (take n (drop at v.idents))
made_body v edits.Rename = Rename v.idents
made_body v edits.Leave = Leave

-- the operation that the edit makes
abbrev pub made : Plain → Edit → Op
made v edit = record { author = v.me; seq = own_count v + 1; context = v.vector; epoch = v.greatest; body = made_body v edit }

-- the number or the size of the operation that the edit makes is too great
abbrev pub op_fault_of : Plain → Op → Option EditError
op_fault_of v o = if own_count v == GREATEST_NUMBER then Some NumbersSpent else size_fault (op_size o)

-- the first fault of the edit, which makes this operation
abbrev pub edit_fault_of : Plain → Edit → Op → Option EditError
edit_fault_of v edit o = if v.has_left then Some errors.Left else or_fault (range_fault (length v.idents) edit) (op_fault_of v o)

-- ---- receiving

-- the first of these targets that isn't known
abbrev pub first_unknown : View → EpochName → List (List Tuple) → Option Reason
first_unknown v e [] = None
first_unknown v e (x ∷ xs) = if v.is_known e x then first_unknown v e xs else Some (UnknownTarget x)

-- the reason that lies in the body
abbrev pub body_refusal : View → Op → Body → Option Reason
body_refusal v o (Insert first text) =
    if may_use v.plain.stems o.author o.seq (last_of first) (length text) then None
    else Some (WrongStem (due_offset v.plain.stems o.author o.seq (last_of first)))
body_refusal v o (Delete targets) = first_unknown v o.epoch targets
body_refusal v o (Rename former) = None
body_refusal v o Leave = None

-- the first reason to refuse the operation. It fits where there is none
abbrev pub refusal : View → Op → Option Reason
refusal v o =
    if v.has_left o.author then Some (Left (count_of v.plain o.author))
    else if not (at_most (v.row o.author) o.context) then Some (Backward (v.row o.author))
    else if not (name_eq o.epoch (v.due o.context)) then Some (WrongEpoch (v.due o.context))
    else body_refusal v o o.body

-- ---- releasing

-- what is released, by the reason to refuse an operation, where this operation is the first ready one
abbrev pub release_of : (Op → Option Reason) → Option Op → Option Released
release_of reason None = None
release_of reason (Some w) = Some (record { author = w.author; seq = w.seq; refusal = reason w })

-- ---- sending, and numbers

-- the unstable operations that this row doesn't cover, as many as a message of at most this many bytes holds
abbrev pub message_within : ℕ → Plain → List ℕ → Message
message_within limit v r = record {
  group = v.group;
  members = v.members;
  from = v.me;
  vector = v.vector;
  ops = front_within (head_size v.members) limit (missing_for r v.unstable);
}

-- as many as a message holds
abbrev pub message_for : Plain → List ℕ → Message
message_for v r = message_within INPUT_BYTES v r

-- What a member has by these counts, which it told: what they say of the others, and all of its own operations that are counted here. What they
-- say of its own ones may be old, and a claim beyond what is counted here changes no message, since no operation above it is kept.
abbrev pub told_of : List ℕ → ℕ → List ℕ → List ℕ
told_of vector to told = slice_set told to (slice_index vector to)

-- characters, runs, waiting operations, unstable operations, retained epochs and the former identifiers below the topmost of them
abbrev pub counts : Plain → List Op → Counts
counts v W = record {
  total = length v.idents;
  runs = length (runs_of v.idents);
  held = length W;
  unstable = length v.unstable;
  epochs = length v.retained;
  former = v.former;
}

-- ---- parts

-- the rows of the members below n, without the own one
abbrev pub other_rows : ℕ → (ℕ → List ℕ) → ℕ → List (List ℕ)
other_rows me row zero = []
other_rows me row (suc n) = other_rows me row n ++ (if n == me then [] else row n ∷ [])

-- the members below n that have left
abbrev pub left_below : (ℕ → Bool) → ℕ → List ℕ
left_below left zero = []
left_below left (suc n) = left_below left n ++ (if left n then n ∷ [] else [])

-- the record of all parts, with these rows of the others, epochs, characters and waiting operations, and with who has left
abbrev pub parts : Plain → List (List ℕ) → List EpochPart → Entries → List Op → List ℕ → Parts
parts v rows epochs text W left = record {
  group = v.group;
  members = v.members;
  me = v.me;
  vector = v.vector;
  rows = rows;
  stems = v.stems;
  epochs = epochs;
  text = text_runs text;
  log = v.unstable;
  held = W;
  left = left;
}
