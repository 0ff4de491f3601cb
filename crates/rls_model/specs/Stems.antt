-- Stems: the offsets that were used, by author and number.
use Rattle.std.specs.Prelude.{ℕ, ◌+◌, ℤ, pos, ◌+ℤ◌, Bool, false, ◌&&◌, ◌||◌, List, [], ◌∷◌, length, ◌==◌, nat_lt, Option, Some, None, if◌then◌else◌}
use Rattle.std.specs.Int.RustNames.{int_lt, int_le}
use Rattle.std.specs.Ordering.{int_eq}
use Rattle.rls_ident.specs.declared.tuple.Tuple.{Tuple}
use Rattle.rls_ident.specs.Tuples.{replica_of, seq_of, offset_of}
use Rattle.rls_ident.specs.Identifiers.{last_of}
use Rattle.rls_ops.specs.declared.op.Body.{Body}
use Rattle.rls_ops.specs.declared.op.Body.TheVariants.{Insert, Delete, Rename, Leave}
use Rattle.rls_model.specs.declared.parts.Stem.{Stem}
use Rattle.rls_model.specs.History.{Accepted, Acknowledged, History, Fresh, Then}

-- the stem is that of the author and the number
abbrev pub is_stem : ℕ → ℕ → Stem → Bool
is_stem a s stem = (stem.author == a) && (stem.s0 == s)

-- the stem of the author and the number
abbrev pub stem_of : List Stem → ℕ → ℕ → Option Stem
stem_of [] a s = None
stem_of (stem ∷ stems) a s = if is_stem a s stem then Some stem else stem_of stems a s

-- the offset k of this stem was used
abbrev pub has_used : Option Stem → ℤ → Bool
has_used None k = false
has_used (Some stem) k = int_le stem.low k && int_lt k (pos stem.next)

-- a last tuple of this author, number and offset was used
abbrev pub is_used : List Stem → ℕ → ℕ → ℤ → Bool
is_used ss a s k = has_used (stem_of ss a s) k

-- the stem stands before that of the author and the number
abbrev pub stands_before : ℕ → ℕ → Stem → Bool
stands_before a s stem = nat_lt stem.author a || ((stem.author == a) && nat_lt stem.s0 s)

-- the stems with this one in its place, by author and number, in place of one of the same author and number
abbrev pub with_stem : Stem → List Stem → List Stem
with_stem new [] = new ∷ []
with_stem new (stem ∷ stems) =
    if is_stem new.author new.s0 stem then new ∷ stems
    else if stands_before new.author new.s0 stem then stem ∷ with_stem new stems
    else new ∷ stem ∷ stems

-- a stem whose first n offsets are used
abbrev pub new_stem : ℕ → ℕ → ℕ → Stem
new_stem a s n = record { author = a; s0 = s; low = pos 0; next = n }

-- the stem after n more offsets from k on were used: after its end, or else before its low
abbrev pub extended : Stem → ℤ → ℕ → Stem
extended stem k n = if int_eq k (pos stem.next) then record stem { next = stem.next + n } else record stem { low = k }

-- the stems with this one extended, where there is one
abbrev pub with_extended : Option Stem → ℤ → ℕ → List Stem → List Stem
with_extended None k n ss = ss
with_extended (Some stem) k n ss = with_stem (extended stem k n) ss

-- the stems after an insertion of n characters by a with its number s, whose first identifier ends in t
abbrev pub stems_after_insert : List Stem → ℕ → ℕ → Tuple → ℕ → List Stem
stems_after_insert ss a s t n =
    if replica_of t == a
    then (if seq_of t == s then with_stem (new_stem a s n) ss else with_extended (stem_of ss a (seq_of t)) (offset_of t) n ss)
    else ss

-- the stems after this body of an operation by a with its number s
abbrev pub stems_after : List Stem → ℕ → ℕ → Body → List Stem
stems_after ss a s (Insert first text) = stems_after_insert ss a s (last_of first) (length text)
stems_after ss a s (Delete targets) = ss
stems_after ss a s (Rename former) = with_stem (new_stem a s (length former)) ss
stems_after ss a s Leave = ss

-- the stems of a history, by author and number
abbrev pub stems : History → List Stem
stems (Fresh group me members) = []
stems (Then G (Accepted o)) = stems_after (stems G) o.author o.seq o.body
stems (Then G (Acknowledged a v)) = stems G

-- ---- who may use a last tuple

-- the next offset of a stem
abbrev pub due_of : Option Stem → Option ℕ
due_of None = None
due_of (Some stem) = Some stem.next

-- the offset that an operation by a with its number s may use next: 0 in its own stem, else the next of the tuple's stem
abbrev pub due_offset : List Stem → ℕ → ℕ → Tuple → Option ℕ
due_offset ss a s t =
    if replica_of t == a
    then (if seq_of t == s then Some 0 else due_of (stem_of ss a (seq_of t)))
    else None

-- k is this offset
abbrev pub is_due : Option ℕ → ℤ → Bool
is_due None k = false
is_due (Some n) k = int_eq k (pos n)

-- n characters from offset k on end right before the stem's low
abbrev pub ends_at_low : Option Stem → ℤ → ℕ → Bool
ends_at_low None k n = false
ends_at_low (Some stem) k n = int_eq (k +ℤ pos n) stem.low

-- an insertion of n characters by a with its number s may begin with an identifier that ends in t
abbrev pub may_use : List Stem → ℕ → ℕ → Tuple → ℕ → Bool
may_use ss a s t n =
    is_due (due_offset ss a s t) (offset_of t)
    || ((replica_of t == a) && ends_at_low (stem_of ss a (seq_of t)) (offset_of t) n)
