use Rattle.std.proofs.Common.{◌≡◌, ◌∷◌, take}
use Rattle.rls_epoch.specs.Marks.{kept_names}
use Rattle.rls_epoch.proofs.tree.Tree.list_kept.Given as goal

-- those in front of the index were looked at
abbrev pub invariant-loop-place : goal.invariant-loop-place
invariant-loop-place l = l.names.items ≡ l.fn.first ∷ kept_names l.self.nodes.placed l.marks (take l.place-index l.self.order.items)
