-- What holds of waiting operations, those of each author in a queue.
use Rattle.std.specs.Prelude.{◌≡◌, ℕ, Bool, List, [], ◌∷◌, ◌++◌, length, nat_eq, IsTrue}
use Rattle.std.specs.List.{list_all, IsDistinct}
use Rattle.std.specs.List.Sorted.{IsSorted}
use Rattle.std.specs.Map.{keys_of, values_of}
use Rattle.std.specs.Ordering.{nat_cmp}
use Rattle.rls_ops.specs.declared.op.Op.{Op}
use Rattle.rls_ops.specs.Waiting.{is_in_order}
use Rattle.rls_causal.specs.Queued.{is_by}

-- the queues, one after another
abbrev pub joined : List (List Op) → List Op
joined [] = []
joined (W ∷ Ws) = W ++ joined Ws

-- the queue has operations of its author alone
abbrev pub is_own : ℕ × List Op → Bool
is_own e = list_all (is_by e.0) e.1

-- each author has one queue, of operations of its own; the authors are in order, and so are all operations
pub record AreQueues (es : List (ℕ × List Op)) : Type 0 where
  pub own : IsTrue (list_all is_own es)
  pub sorted : IsSorted nat_cmp (keys_of es)
  pub apart : IsDistinct nat_eq (keys_of es)
  pub order : IsTrue (is_in_order (joined (values_of es)))

-- the queues, and how many operations they have
pub record IsHeld (es : List (ℕ × List Op)) (count : ℕ) : Type 0 where
  pub queues : AreQueues es
  pub len : count ≡ length (joined (values_of es))
