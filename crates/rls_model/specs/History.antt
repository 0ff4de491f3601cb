-- What happened at one replica, event by event.
use Rattle.std.specs.Prelude.{ℕ, Bool, true, false, ◌&&◌, ◌||◌, List, [], ◌∷◌, ◌++◌, ◌==◌, slice_index, replicate, if◌then◌else◌}
use Rattle.rls_ident.specs.Vectors.{join, raise}
use Rattle.rls_ops.specs.declared.op.Op.{Op}
use Rattle.rls_ops.specs.declared.op.Body.{Body}
use Rattle.rls_ops.specs.declared.op.Body.TheVariants.{Insert, Delete, Rename, Leave}

-- an operation was accepted, or an acknowledgement of a member was counted
pub data Entry : Type 0 where
  Accepted : (o : Op) → Entry
  Acknowledged : (from : ℕ) → (counts : List ℕ) → Entry

-- nothing, at a fresh replica with its group, its own number and the count of members; or a history and then one more entry
pub data History : Type 0 where
  Fresh : (group me members : ℕ) → History
  Then : (before : History) → (entry : Entry) → History

-- the group
abbrev pub group_of : History → ℕ
group_of (Fresh group me members) = group
group_of (Then G e) = group_of G

-- the replica's own number
abbrev pub me_of : History → ℕ
me_of (Fresh group me members) = me
me_of (Then G e) = me_of G

-- the count of members
abbrev pub members_of : History → ℕ
members_of (Fresh group me members) = members
members_of (Then G e) = members_of G

-- the accepted operations, in order
abbrev pub ops : History → List Op
ops (Fresh group me members) = []
ops (Then G (Accepted o)) = ops G ++ o ∷ []
ops (Then G (Acknowledged a v)) = ops G

-- how many operations of each member were accepted
abbrev pub count : History → List ℕ
count (Fresh group me members) = replicate members 0
count (Then G (Accepted o)) = raise (count G) o.author
count (Then G (Acknowledged a v)) = count G

-- how many operations of the member were accepted
abbrev pub count_of : History → ℕ → ℕ
count_of H a = slice_index (count H) a

-- the operation is a leave
abbrev pub is_leave : Body → Bool
is_leave (Insert first text) = false
is_leave (Delete targets) = false
is_leave (Rename former) = false
is_leave Leave = true

-- a leave of the member was accepted
abbrev pub has_left : History → ℕ → Bool
has_left (Fresh group me members) a = false
has_left (Then G (Accepted o)) a = has_left G a || ((o.author == a) && is_leave o.body)
has_left (Then G (Acknowledged b v)) a = has_left G a

-- the acknowledgements of a member, joined
abbrev pub acknowledged : History → ℕ → List ℕ
acknowledged (Fresh group me members) a = replicate members 0
acknowledged (Then G (Accepted o)) a = acknowledged G a
acknowledged (Then G (Acknowledged b v)) a = if a == b then join (acknowledged G a) v else acknowledged G a

-- a member's row: the own one is the count
abbrev pub row : History → ℕ → List ℕ
row H a = if a == me_of H then count H else acknowledged H a
