-- Identifiers: lists of tuples whose last is an `At`, in lexicographic order.
use Rattle.std.specs.Prelude.{◌≡◌, ℕ, ◌+◌, ℤ, ◌-ℤ◌, pos, Bool, true, false, ◌&&◌, List, [], ◌∷◌, Option, Some, None, if◌then◌else◌}
use Rattle.std.specs.declared.cmp.Ordering.{Ordering}
use Rattle.std.specs.Ordering.{is_eq, is_lt, is_le}
use Rattle.std.specs.Int.RustNames.{int_le}
use Rattle.std.specs.Cmp.Lexicographic.{slice_cmp}
use Rattle.rls_ident.specs.declared.limits.TheConstants.{LEAST_OFFSET, GREATEST_OFFSET}
use Rattle.rls_ident.specs.declared.tuple.Tuple.{Tuple}
use Rattle.rls_ident.specs.declared.tuple.Tuple.TheVariants.{Low, At}
use Rattle.rls_ident.specs.Tuples.{tuple_cmp, is_at, raised, tuple_pred}

-- the list isn't empty, and its last tuple is an `At`
abbrev pub is_ident : List Tuple → Bool
is_ident [] = false
is_ident (t ∷ []) = is_at t
is_ident (t ∷ (u ∷ x)) = is_ident (u ∷ x)

-- the same as a fact
abbrev pub IsIdent : List Tuple → Type 0
IsIdent x = is_ident x ≡ true

-- the last tuple, or `Low` where there is none
abbrev pub last_of : List Tuple → Tuple
last_of [] = Low
last_of (t ∷ []) = t
last_of (t ∷ (u ∷ x)) = last_of (u ∷ x)

-- the lexicographic order, in which a proper prefix is less
abbrev pub ident_cmp : List Tuple → List Tuple → Ordering
ident_cmp = slice_cmp tuple_cmp

-- x is y
abbrev pub ident_eq : List Tuple → List Tuple → Bool
ident_eq x y = is_eq (ident_cmp x y)

-- x is less than y
abbrev pub ident_lt : List Tuple → List Tuple → Bool
ident_lt x y = is_lt (ident_cmp x y)

-- x is at most y
abbrev pub ident_le : List Tuple → List Tuple → Bool
ident_le x y = is_le (ident_cmp x y)

-- the identifier with its last offset raised by k
abbrev pub shifted : ℤ → List Tuple → List Tuple
shifted k [] = []
shifted k (t ∷ []) = raised k t ∷ []
shifted k (t ∷ (u ∷ x)) = t ∷ shifted k (u ∷ x)

-- the identifier with its last offset less one
abbrev pub pred : List Tuple → List Tuple
pred [] = []
pred (t ∷ []) = tuple_pred t ∷ []
pred (t ∷ (u ∷ x)) = t ∷ pred (u ∷ x)

-- y has the base of x and the next offset
abbrev pub follows : List Tuple → List Tuple → Bool
follows y x = ident_eq y (shifted (pos 1) x)

-- the least offset of a last tuple in the program
abbrev pub least_offset : ℤ
least_offset = LEAST_OFFSET

-- the greatest offset in the program
abbrev pub greatest_offset : ℤ
greatest_offset = GREATEST_OFFSET

-- the least offset of an inner tuple in the program
abbrev pub least_inner : ℤ
least_inner = LEAST_OFFSET -ℤ pos 1

-- a last tuple has an offset of the program
abbrev pub is_last_bounded : Tuple → Bool
is_last_bounded (At p r s o) = int_le least_offset o && int_le o greatest_offset
is_last_bounded _ = false

-- any other tuple has one
abbrev pub is_inner_bounded : Tuple → Bool
is_inner_bounded (At p r s o) = int_le least_inner o && int_le o greatest_offset
is_inner_bounded _ = true

-- each offset is in the range that the program has
abbrev pub is_bounded : List Tuple → Bool
is_bounded [] = true
is_bounded (t ∷ []) = is_last_bounded t
is_bounded (t ∷ (u ∷ x)) = is_inner_bounded t && is_bounded (u ∷ x)

-- the place of the first tuple that may not stand where it stands, where the first of these stands at place i
abbrev pub first_fault : ℕ → List Tuple → Option ℕ
first_fault i [] = None
first_fault i (t ∷ []) = if is_last_bounded t then None else Some i
first_fault i (t ∷ (u ∷ x)) = if is_inner_bounded t then first_fault (i + 1) (u ∷ x) else Some i
