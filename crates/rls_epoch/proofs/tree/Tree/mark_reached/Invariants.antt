use Rattle.std.proofs.Common.{◌≡◌, ◌++◌, List, ℕ, false, length}
use Rattle.rls_ident.specs.declared.epoch_name.EpochName.{EpochName}
use Rattle.rls_ident.specs.EpochNames.{is_within}
use Rattle.rls_ident.specs.Lists.{IsIn}
use Rattle.rls_epoch.specs.Sorted.{names_at}
use Rattle.rls_epoch.proofs.Needed.{ArePassed}
use Rattle.rls_epoch.proofs.tree.Tree.mark_reached.Given as goal

-- none of those that were passed is within the vector, and they are marked
abbrev pub invariant-loop-place : goal.invariant-loop-place
invariant-loop-place l = (later : List ℕ) × (l.self.order.items ≡ l.rest ++ later) × ((e : EpochName) → IsIn e (names_at l.self.nodes.placed later) → is_within e l.v ≡ false) × ArePassed l.fn.marks l.marks later

abbrev pub decreases-loop-place : goal.decreases-loop-place
decreases-loop-place l = length l.rest
