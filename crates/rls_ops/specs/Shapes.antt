-- The shape of an operation.
use Rattle.std.specs.Prelude.{ℕ, ◌-◌, pos, ◌+ℤ◌, Bool, false, ◌&&◌, not, length, slice_index, ◌==◌, nat_lt, if◌then◌else◌, Option, Some, None}
use Rattle.std.specs.Int.RustNames.{int_lt}
use Rattle.rls_ident.specs.declared.limits.TheConstants.{CHARACTERS, IDENTIFIERS}
use Rattle.rls_ident.specs.declared.tuple.Tuple.{Tuple}
use Rattle.rls_ident.specs.Tuples.{offset_of}
use Rattle.rls_ident.specs.Identifiers.{last_of, greatest_offset}
use Rattle.rls_ops.specs.declared.op.Op.{Op}
use Rattle.rls_ops.specs.declared.op.Body.{Body}
use Rattle.rls_ops.specs.declared.op.Body.TheVariants.{Insert, Delete, Rename, Leave}
use Rattle.rls_ops.specs.declared.op.Shape.{Shape}
use Rattle.rls_ops.specs.declared.op.Shape.TheVariants.{Author, Context, EmptyBody, TooLong, OffsetEnd}

-- the number is at least 1, and the context has a count for each member, of which the author's is one less
abbrev pub is_next_of : Op → ℕ → Bool
is_next_of o members = nat_lt 0 o.seq && (length o.context == members) && (slice_index o.context o.author == o.seq - 1)

-- how many characters or identifiers the body has
abbrev pub body_len : Body → ℕ
body_len (Insert first text) = length text
body_len (Delete targets) = length targets
body_len (Rename former) = length former
body_len Leave = 0

-- the body has no character and no identifier; a leave needs none
abbrev pub is_empty : Body → Bool
is_empty Leave = false
is_empty b = body_len b == 0

-- the most characters or identifiers that a body may have
abbrev pub body_limit : Body → ℕ
body_limit (Insert first text) = CHARACTERS
body_limit (Delete targets) = IDENTIFIERS
body_limit (Rename former) = IDENTIFIERS
body_limit Leave = IDENTIFIERS

-- the last character of an insertion has an offset above the greatest one
abbrev pub passes_end : Body → Bool
passes_end (Insert first text) = int_lt (greatest_offset +ℤ pos 1) (offset_of (last_of first) +ℤ pos (length text))
passes_end (Delete targets) = false
passes_end (Rename former) = false
passes_end Leave = false

-- the first fault of the body, if there is one
abbrev pub body_fault : Body → Option Shape
body_fault b =
    if is_empty b then Some EmptyBody
    else if nat_lt (body_limit b) (body_len b) then Some (TooLong (body_len b))
    else if passes_end b then Some OffsetEnd
    else None

-- the first fault of an insertion of so many characters, whose first identifier has this last tuple
abbrev pub insertion_fault : Tuple → ℕ → Option Shape
insertion_fault last n =
    if n == 0 then Some EmptyBody
    else if nat_lt CHARACTERS n then Some (TooLong n)
    else if int_lt (greatest_offset +ℤ pos 1) (offset_of last +ℤ pos n) then Some OffsetEnd
    else None

-- the first fault of a deletion or rename of so many identifiers
abbrev pub listed_fault : ℕ → Option Shape
listed_fault n = if n == 0 then Some EmptyBody else if nat_lt IDENTIFIERS n then Some (TooLong n) else None

-- the first fault of the shape, if there is one
abbrev pub shape_fault : ℕ → Op → Option Shape
shape_fault members o =
    if not (nat_lt o.author members) then Some Author
    else if not (is_next_of o members) then Some Context
    else body_fault o.body
