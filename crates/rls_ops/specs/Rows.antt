-- What a member knows of what each member has accepted, and who has left.
-- Why: docs/DECISIONS.md, 89.
use Rattle.std.specs.Prelude.{◌≡◌, ℕ, zero, suc, ◌<◌, Bool, true, false, not, ◌&&◌, ◌||◌, List, [], ◌∷◌, ◌++◌, ◌==◌, nat_le, length, slice_index, slice_set, get_or, replicate, filter, if◌then◌else◌}
use Rattle.rls_ident.specs.Vectors.{at_most, join, meet, raise}
use Rattle.rls_ops.specs.declared.op.Op.{Op}

-- ---- vectors and operations

-- member by member, the least count of a vector and these
abbrev pub least_of : List ℕ → List (List ℕ) → List ℕ
least_of v [] = v
least_of v (w ∷ ws) = least_of (meet v w) ws

-- the number is at most the vector's count of the author
abbrev pub covers : List ℕ → ℕ → ℕ → Bool
covers v a q = nat_le q (slice_index v a)

-- the vector covers the operation
abbrev pub is_covered : List ℕ → Op → Bool
is_covered v o = covers v o.author o.seq

-- the operations that a vector doesn't cover
abbrev pub missing_for : List ℕ → List Op → List Op
missing_for v os = filter (λ o. not (is_covered v o)) os

-- ---- rows

-- the own number, the own row, the rows of the others, and who has left
pub record AcksSeen : Type 0 where
  pub me : ℕ
  pub mine : List ℕ
  -- one for each member; the own place isn't used
  pub others : List (List ℕ)
  -- one for each member
  pub left : List Bool

-- nothing was acknowledged, and none has left
abbrev pub starting_at : ℕ → List ℕ → AcksSeen
starting_at me mine = record {
  me = me;
  mine = mine;
  others = replicate (length mine) (replicate (length mine) 0);
  left = replicate (length mine) false;
}

-- a member's row
abbrev pub row_of : AcksSeen → ℕ → List ℕ
row_of acks a = if a == acks.me then acks.mine else get_or acks.others a []

-- the member has left
abbrev pub left : AcksSeen → ℕ → Bool
left acks a = get_or acks.left a false

-- the member's row is waited for
abbrev pub awaits : AcksSeen → ℕ → Bool
awaits acks a = (a == acks.me) || not (left acks a)

-- the awaited rows of the members below n
abbrev pub awaited : AcksSeen → ℕ → List (List ℕ)
awaited acks zero = []
awaited acks (suc n) = awaited acks n ++ (if awaits acks n then row_of acks n ∷ [] else [])

-- member by member, the least count of the own row and the rows of all other members that haven't left
unfoldable pub stable_of : AcksSeen → List ℕ
stable_of acks = least_of acks.mine (awaited acks (length acks.mine))

-- a member's acknowledgement is news, by the own number and by what was accepted of it and from it: it is another member's, tells no more of that member than
-- was accepted, and tells something new
abbrev pub is_news : ℕ → ℕ → List ℕ → ℕ → List ℕ → Bool
is_news me accepted row a v = not (a == me) && nat_le (slice_index v a) accepted && not (at_most v row)

-- an acknowledgement counts
abbrev pub counts : AcksSeen → ℕ → List ℕ → Bool
counts acks a v = is_news acks.me (slice_index acks.mine a) (row_of acks a) a v

-- ---- changes

-- one more operation of the member was accepted
abbrev pub raised : AcksSeen → ℕ → AcksSeen
raised acks a = record { me = acks.me; mine = raise acks.mine a; others = acks.others; left = acks.left }

-- the member has left now
abbrev pub parted : AcksSeen → ℕ → AcksSeen
parted acks a = record { me = acks.me; mine = acks.mine; others = acks.others; left = slice_set acks.left a true }

-- the acknowledgement is joined to the member's row
abbrev pub noted : AcksSeen → ℕ → List ℕ → AcksSeen
noted acks a v = record {
  me = acks.me;
  mine = acks.mine;
  others = slice_set acks.others a (join (get_or acks.others a []) v);
  left = acks.left;
}

-- the rows after an acknowledgement arrived
abbrev pub acknowledged : AcksSeen → ℕ → List ℕ → AcksSeen
acknowledged acks a v = if counts acks a v then noted acks a v else acks

-- ---- what holds of them

-- each vector has n counts
abbrev pub HaveLength : ℕ → List (List ℕ) → Type 0
HaveLength n [] = Unit {0}
HaveLength n (v ∷ vs) = (length v ≡ n) × HaveLength n vs

-- there is a row and a mark for each member, and a count for each member in each row
pub record AreRows (acks : AcksSeen) : Type 0 where
  pub member : acks.me < length acks.mine
  pub rows : length acks.others ≡ length acks.mine
  pub counts_are : HaveLength (length acks.mine) acks.others
  pub marks : length acks.left ≡ length acks.mine
