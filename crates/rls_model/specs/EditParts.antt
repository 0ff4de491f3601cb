-- What the rules of editing are made of.
use Rattle.std.specs.Prelude.{ℕ, zero, suc, ◌+◌, pos, ◌+ℤ◌, ◌-ℤ◌, Bool, true, false, ◌&&◌, List, [], length, ◌==◌, nat_lt, slice_get, Option, Some, None, if◌then◌else◌}
use Rattle.std.specs.Int.RustNames.{int_le}
use Rattle.std.specs.Ordering.{int_eq}
use Rattle.rls_ident.specs.declared.limits.TheConstants.{CHARACTERS, IDENTIFIERS, OPERATION_BYTES}
use Rattle.rls_ident.specs.declared.tuple.Tuple.{Tuple}
use Rattle.rls_ident.specs.Tuples.{replica_of, seq_of, offset_of}
use Rattle.rls_ident.specs.Identifiers.{ident_lt, last_of, shifted, least_offset, greatest_offset}
use Rattle.rls_ident.specs.Between.{between}
pub use Rattle.rls_runs.specs.Places.{is_above}
use Rattle.rls_model.specs.declared.edit.Edit.{Edit}
use Rattle.rls_model.specs.declared.edit.Edit.TheVariants as edits
use Rattle.rls_model.specs.declared.edit.EditError.{EditError}
use Rattle.rls_model.specs.declared.edit.EditError.TheVariants.{EmptyEdit, Range, EmptyDocument, TooManyChars, OpTooLarge}
use Rattle.rls_model.specs.declared.parts.Stem.{Stem}
use Rattle.rls_model.specs.Stems.{stem_of}

-- ---- the first identifier of an insertion

-- the member's own stem that the tuple belongs to
abbrev pub own_stem : List Stem → ℕ → Tuple → Option Stem
own_stem ss me t = if replica_of t == me then stem_of ss me (seq_of t) else None

-- x is less than the right neighbour, where there is one
abbrev pub ends_below : List Tuple → Option (List Tuple) → Bool
ends_below x None = true
ends_below x (Some right) = ident_lt x right

-- n characters may follow the left neighbour in this stem: it stands at the stem's end, and they have room up to the right one
abbrev pub may_append : Option Stem → List Tuple → Option (List Tuple) → ℕ → Bool
may_append None left right n = false
may_append (Some stem) left right n =
    int_eq (offset_of (last_of left) +ℤ pos 1) (pos stem.next)
    && int_le (offset_of (last_of left) +ℤ pos n) greatest_offset
    && ends_below (shifted (pos n) left) right

-- n characters may stand before the right neighbour in this stem: it stands at the stem's low, and they have room down to the left one
abbrev pub may_prepend : Option Stem → Option (List Tuple) → List Tuple → ℕ → Bool
may_prepend None left right n = false
may_prepend (Some stem) left right n =
    int_eq (offset_of (last_of right)) stem.low
    && int_le least_offset (offset_of (last_of right) -ℤ pos n)
    && is_above left (shifted (pos 0 -ℤ pos n) right)

-- the identifier, or no tuple where the bound is missing
abbrev pub or_missing : Option (List Tuple) → List Tuple
or_missing None = []
or_missing (Some x) = x

-- where nothing may be appended: before the right neighbour, or between the two
abbrev pub first_before : List Stem → ℕ → ℕ → Option (List Tuple) → Option (List Tuple) → ℕ → List Tuple
first_before ss me seq left None n = between (or_missing left) [] me seq
first_before ss me seq left (Some right) n =
    if may_prepend (own_stem ss me (last_of right)) left right n
    then shifted (pos 0 -ℤ pos n) right
    else between (or_missing left) right me seq

-- the first identifier of an insertion of n characters between these neighbours, by the member's operation of this number
abbrev pub first_between : List Stem → ℕ → ℕ → Option (List Tuple) → Option (List Tuple) → ℕ → List Tuple
first_between ss me seq None right n = first_before ss me seq None right n
first_between ss me seq (Some left) right n =
    if may_append (own_stem ss me (last_of left)) left right n
    then shifted (pos 1) left
    else first_before ss me seq (Some left) right n

-- ---- the operation

-- the identifier before the place, where there is one
abbrev pub get_before : List (List Tuple) → ℕ → Option (List Tuple)
get_before xs zero = None
get_before xs (suc k) = slice_get xs k

-- ---- refused edits

-- the first fault that is seen by the edit and the number of characters
abbrev pub range_fault : ℕ → Edit → Option EditError
range_fault total (edits.Insert at text) =
    if length text == 0 then Some EmptyEdit
    else if nat_lt total at then Some (Range at total)
    else if nat_lt CHARACTERS (length text) then Some (TooManyChars (length text))
    else None
range_fault total (edits.Delete at n) =
    if n == 0 then Some EmptyEdit
    else if nat_lt total (at + n) then Some (Range at total)
    else if nat_lt IDENTIFIERS n then Some (TooManyChars n)
    else None
range_fault total edits.Rename =
    if total == 0 then Some EmptyDocument
    else if nat_lt IDENTIFIERS total then Some (TooManyChars total)
    else None
range_fault total edits.Leave = None

-- the first of two faults
abbrev pub or_fault : Option EditError → Option EditError → Option EditError
or_fault (Some e) f = Some e
or_fault None f = f

-- the operation has too many bytes
abbrev pub size_fault : ℕ → Option EditError
size_fault n = if nat_lt OPERATION_BYTES n then Some (OpTooLarge n) else None
