-- What holds of the waiting operations of one author, each kept under its number.
use Rattle.std.specs.Prelude.{◌≡◌, ℕ, suc, Bool, List, map, ◌==◌, nat_le, slice_index, IsTrue}
use Rattle.std.specs.List.{list_all}
use Rattle.std.specs.Map.{values_of}
use Rattle.rls_ops.specs.declared.op.Op.{Op}
use Rattle.rls_ops.specs.Waiting.{is_in_order}

-- the operation is this author's
abbrev pub is_by : ℕ → Op → Bool
is_by a o = o.author == a

-- its context counts all operations of its author before it
abbrev pub counts_own : Op → Bool
counts_own o = nat_le o.seq (suc (slice_index o.context o.author))

-- the operations, each with its number
abbrev pub numbered : List Op → List (ℕ × Op)
numbered W = map {B = ℕ × Op} (λ o. (o.seq, o)) W

-- each is kept under its number, one author's, and they are in order; if they are regular, each context counts all operations of its author before its own
pub record IsQueue (entries : List (ℕ × Op)) (regular : Bool) : Type 0 where
  pub author : ℕ
  pub by : IsTrue (list_all (is_by author) (values_of entries))
  pub own : entries ≡ numbered (values_of entries)
  pub order : IsTrue (is_in_order (values_of entries))
  pub counted : IsTrue regular → IsTrue (list_all counts_own (values_of entries))
