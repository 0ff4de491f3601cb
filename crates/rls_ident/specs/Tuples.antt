-- Tuples and their order.
use Rattle.std.specs.Prelude.{ℕ, ℤ, pos, ◌+ℤ◌, ◌-ℤ◌, Bool, true, false}
use Rattle.std.specs.declared.cmp.Ordering.{Ordering}
use Rattle.std.specs.declared.cmp.Ordering.TheVariants.{Less, Equal, Greater}
use Rattle.std.specs.Ordering.{nat_cmp, int_cmp, ordering_then, is_eq}
use Rattle.rls_ident.specs.declared.tuple.Spot.{Spot}
use Rattle.rls_ident.specs.declared.tuple.Tuple.{Tuple}
use Rattle.rls_ident.specs.declared.tuple.Tuple.TheVariants.{Low, At, High}

-- what an `At` tuple holds
abbrev pub spot : ℕ → ℕ → ℕ → ℤ → Spot
spot p r s o = record { pos = p; replica = r; seq = s; offset = o }

-- by pos, replica, seq and offset in this order
unfoldable pub spot_cmp : Spot → Spot → Ordering
spot_cmp a b = ordering_then (nat_cmp a.pos b.pos) (ordering_then (nat_cmp a.replica b.replica) (ordering_then (nat_cmp a.seq b.seq) (int_cmp a.offset b.offset)))

-- `Low` is less than each `At`, and each `At` is less than `High`
unfoldable pub tuple_cmp : Tuple → Tuple → Ordering
tuple_cmp Low Low = Equal
tuple_cmp Low (At q u m k) = Less
tuple_cmp Low High = Less
tuple_cmp (At p r s o) Low = Greater
tuple_cmp (At p r s o) (At q u m k) = spot_cmp (spot p r s o) (spot q u m k)
tuple_cmp (At p r s o) High = Less
tuple_cmp High Low = Greater
tuple_cmp High (At q u m k) = Greater
tuple_cmp High High = Equal

-- whether two tuples are equal
abbrev pub tuple_eq : Tuple → Tuple → Bool
tuple_eq x y = is_eq (tuple_cmp x y)

-- whether the tuple is an `At`
abbrev pub is_at : Tuple → Bool
is_at (At p r s o) = true
is_at _ = false

-- the pos of an `At`, else 0
abbrev pub pos_of : Tuple → ℕ
pos_of (At p r s o) = p
pos_of _ = 0

-- the replica of an `At`, else 0
abbrev pub replica_of : Tuple → ℕ
replica_of (At p r s o) = r
replica_of _ = 0

-- the seq of an `At`, else 0
abbrev pub seq_of : Tuple → ℕ
seq_of (At p r s o) = s
seq_of _ = 0

-- the offset of an `At`, else 0
abbrev pub offset_of : Tuple → ℤ
offset_of (At p r s o) = o
offset_of _ = pos 0

-- the `At` with a spot's pos, replica and seq, and with this offset
abbrev pub at_offset : Spot → ℤ → Tuple
at_offset s o = At s.pos s.replica s.seq o

-- the `At` with its offset raised by k
abbrev pub raised : ℤ → Tuple → Tuple
raised k (At p r s o) = At p r s (o +ℤ k)
raised k t = t

-- the `At` with its offset less one
abbrev pub tuple_pred : Tuple → Tuple
tuple_pred Low = Low
tuple_pred (At p r s o) = At p r s (o -ℤ pos 1)
tuple_pred High = High

-- the `At` with what the spot holds
abbrev pub at_spot : Spot → Tuple
at_spot s = At s.pos s.replica s.seq s.offset
