-- Up to which numbers deletions name identifiers.
use Rattle.std.specs.Prelude.{◌≡◌, ℕ, ◌≤◌, ℤ, ◌+ℤ◌, pos, List, Option, Some, None, false}
use Rattle.std.specs.Option.{IsSome}
use Rattle.std.specs.Map.{lookup}
use Rattle.std.specs.BTreeMap.{is_at}
use Rattle.std.specs.declared.cmp.Ordering.{Ordering}
use Rattle.std.specs.declared.cmp.Ordering.TheVariants.{Less}
use Rattle.std.specs.Ordering.{nat_cmp, int_cmp, ordering_then, is_gt, is_lt}
use Rattle.rls_ident.specs.declared.tuple.Tuple.{Tuple}
use Rattle.rls_ident.specs.declared.tuple.Tuple.TheVariants.{At}
use Rattle.rls_ident.specs.Identifiers.{last_of}
use Rattle.rls_replica.specs.declared.marks.Mark.{Mark}
use Rattle.rls_replica.specs.declared.bounds.Edge.{Edge}

-- ---- marks

-- the mark of an identifier that ends so
abbrev pub mark_in : Tuple → Mark
mark_in (At p r s o) = record { replica = r; seq = s; offset = o }
mark_in t = record { replica = 0; seq = 0; offset = pos 0 }

-- the mark with its offset raised by k
abbrev pub later : ℤ → Mark → Mark
later k m = record { replica = m.replica; seq = m.seq; offset = m.offset +ℤ k }

-- by replica, by number, and then by offset
abbrev pub mark_cmp : Mark → Mark → Ordering
mark_cmp a b = ordering_then (nat_cmp a.replica b.replica) (ordering_then (nat_cmp a.seq b.seq) (int_cmp a.offset b.offset))

-- ---- edges

-- by author first
abbrev pub edge_cmp : Edge → Edge → Ordering
edge_cmp a b = ordering_then (nat_cmp a.author b.author) (mark_cmp a.mark b.mark)

abbrev pub IsUpTo : Edge → Edge → Type 0
IsUpTo a b = is_gt (edge_cmp a b) ≡ false

abbrev pub IsBetween : Edge → Edge → Edge → Type 0
IsBetween a b e = (edge_cmp a e ≡ Less) × (edge_cmp e b ≡ Less)

-- the edge at an identifier's mark
abbrev pub edge_of : ℕ → List Tuple → Edge
edge_of a x = record { author = a; mark = mark_in (last_of x) }

-- ---- numbers at edges

abbrev pub number_in : List (Edge × ℕ) → Edge → Option ℕ
number_in es e = lookup (is_at (edge_cmp e)) es

-- the number at the last edge up to this one
abbrev pub IsFloor : List (Edge × ℕ) → Edge → Option ℕ → Type 0
IsFloor es e None = (p : Edge) → IsUpTo p e → number_in es p ≡ None
IsFloor es e (Some n) = (k : Edge) × (number_in es k ≡ Some n) × IsUpTo k e × ((p : Edge) → IsUpTo p e → IsSome (number_in es p) → is_lt (edge_cmp k p) ≡ false)

-- the number at the last edge up to this one is at least q
abbrev pub IsBounded : List (Edge × ℕ) → Edge → ℕ → Type 0
IsBounded es e q = (k : Edge) × (n : ℕ) × (number_in es k ≡ Some n) × IsUpTo k e × ((p : Edge) → edge_cmp k p ≡ Less → IsUpTo p e → number_in es p ≡ None) × (q ≤ n)
