-- Places as words.
use Rattle.std.specs.Prelude.{ℕ, ◌+◌, ℤ, pos, ◌-ℤ◌, Bool, ◌==◌, List, [], ◌∷◌, ◌++◌, length, bytes_eq, codes, nat_lt, Option, Some, None, option_and_then, if◌then◌else◌}
use Rattle.std.specs.List.{position_or_len, before_first, after_first, slice_split}
use Rattle.std.specs.Fmt.{decimal}
use Rattle.rls_ident.specs.declared.limits.TheConstants.{GREATEST_NUMBER, OFFSETS_END}
use Rattle.rls_ident.specs.declared.tuple.Tuple.{Tuple}
use Rattle.rls_ident.specs.declared.tuple.Tuple.TheVariants.{Low, At, High}
use Rattle.rls_ident.specs.declared.epoch_name.EpochName.{EpochName}
use Rattle.rls_ident.specs.declared.epoch_name.EpochName.TheVariants.{Origin, Of}
use Rattle.rls_ident.specs.Identifiers.{first_fault}
use Rattle.rls_script.specs.Scripts.{number_up_to}
use Rattle.rls_report.specs.Texts.{ident_text}
use Rattle.rls_anchor.specs.declared.anchor.Anchor.{Anchor}
use Rattle.rls_anchor.specs.declared.anchor.Anchor.TheVariants.{Beginning, After, Before}

-- ---- the word of a place

-- `origin`, or two numbers with a point between
abbrev pub epoch_word : EpochName → List ℕ
epoch_word Origin = codes "origin"
epoch_word (Of r s) = decimal r ++ (46 ∷ decimal s)

-- a side, an epoch and an identifier, with colons between
abbrev pub named_word : List ℕ → EpochName → List Tuple → List ℕ
named_word side e x = side ++ (58 ∷ (epoch_word e ++ (58 ∷ ident_text x)))

abbrev pub place_word : Anchor → List ℕ
place_word Beginning = codes "beginning"
place_word (After e x) = named_word (codes "after") e x
place_word (Before e x) = named_word (codes "before") e x

-- ---- what a word means

abbrev pub is_colon : ℕ → Bool
is_colon b = b == 58

abbrev pub is_point : ℕ → Bool
is_point b = b == 46

abbrev pub is_slash : ℕ → Bool
is_slash b = b == 47

-- what stands before the first such byte and after it
abbrev pub parts_by : (ℕ → Bool) → List ℕ → Option (List ℕ × List ℕ)
parts_by is_end bytes = if nat_lt (position_or_len is_end bytes) (length bytes) then Some (before_first is_end bytes, after_first is_end bytes) else None

-- a number of a member, of an operation or of a position
abbrev pub small_of : List ℕ → Option ℕ
small_of digits = number_up_to GREATEST_NUMBER digits

-- how far an offset is from 0
abbrev pub distance_of : List ℕ → Option ℕ
distance_of digits = number_up_to (OFFSETS_END + 1) digits

-- less than 0
abbrev pub below_zero : ℕ → Option ℤ
below_zero n = if nat_lt 0 n then Some (pos 0 -ℤ pos n) else None

-- or not
abbrev pub from_zero_of : List ℕ → Option ℤ
from_zero_of digits = option_and_then (λ n. Some (pos n)) (distance_of digits)

-- an offset, with a minus in front where it is less than 0
abbrev pub offset_of : List ℕ → Option ℤ
offset_of [] = None
offset_of (c ∷ digits) = if c == 45 then option_and_then below_zero (distance_of digits) else from_zero_of (c ∷ digits)

-- four numbers with points between
abbrev pub spot_of : List ℕ → Option Tuple
spot_of bytes =
    option_and_then (λ a. option_and_then (λ b. option_and_then (λ c.
    option_and_then (λ p. option_and_then (λ r. option_and_then (λ s. option_and_then (λ o. Some (At p r s o)) (offset_of c.1)) (small_of c.0)) (small_of b.0)) (small_of a.0)
    ) (parts_by is_point b.1)) (parts_by is_point a.1)) (parts_by is_point bytes)

abbrev pub tuple_of : List ℕ → Option Tuple
tuple_of bytes = if bytes_eq bytes (codes "low") then Some Low else if bytes_eq bytes (codes "high") then Some High else spot_of bytes

-- one more in front, where there are both
abbrev pub put_tuple : Option Tuple → Option (List Tuple) → Option (List Tuple)
put_tuple t ts = option_and_then (λ x. option_and_then (λ xs. Some (x ∷ xs)) ts) t

abbrev pub tuples_of_pieces : List (List ℕ) → Option (List Tuple)
tuples_of_pieces [] = Some []
tuples_of_pieces (piece ∷ pieces) = put_tuple (tuple_of piece) (tuples_of_pieces pieces)

-- tuples with a slash between two
abbrev pub tuples_of : List ℕ → Option (List Tuple)
tuples_of bytes = tuples_of_pieces (slice_split is_slash bytes)

-- these tuples, where none is out of place
abbrev pub if_none : Option ℕ → List Tuple → Option (List Tuple)
if_none None x = Some x
if_none (Some i) x = None

-- they are an identifier
abbrev pub ident_of_tuples : List Tuple → Option (List Tuple)
ident_of_tuples [] = None
ident_of_tuples (t ∷ x) = if_none (first_fault 0 (t ∷ x)) (t ∷ x)

abbrev pub ident_of : List ℕ → Option (List Tuple)
ident_of bytes = option_and_then ident_of_tuples (tuples_of bytes)

-- two numbers with a point between
abbrev pub opened_of : List ℕ → Option EpochName
opened_of bytes = option_and_then (λ a. option_and_then (λ r. option_and_then (λ s. Some (Of r s)) (small_of a.1)) (small_of a.0)) (parts_by is_point bytes)

abbrev pub epoch_of_word : List ℕ → Option EpochName
epoch_of_word bytes = if bytes_eq bytes (codes "origin") then Some Origin else opened_of bytes

-- after or before the character
abbrev pub sided : List ℕ → EpochName → List Tuple → Option Anchor
sided side e x = if bytes_eq side (codes "after") then Some (After e x) else if bytes_eq side (codes "before") then Some (Before e x) else None

-- a side, an epoch and an identifier
abbrev pub named_of : List ℕ → Option Anchor
named_of word = option_and_then (λ a. option_and_then (λ b. option_and_then (λ e. option_and_then (λ x. sided a.0 e x) (ident_of b.1)) (epoch_of_word b.0)) (parts_by is_colon a.1)) (parts_by is_colon word)

-- the place that a word names, if it is in the grammar
unfoldable pub place_of : List ℕ → Option Anchor
place_of word = if bytes_eq word (codes "beginning") then Some Beginning else named_of word
