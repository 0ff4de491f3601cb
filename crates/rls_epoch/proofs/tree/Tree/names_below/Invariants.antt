use Rattle.std.proofs.Common.{◌≡◌, ◌<◌, ◌≤◌, ◌-◌, Some, length}
use Rattle.std.specs.Prelude.{slice_get}
use Rattle.std.specs.declared.cmp.Ordering.TheVariants.{Less}
use Rattle.rls_ident.specs.declared.epoch_name.EpochName.{EpochName}
use Rattle.rls_epoch.specs.Climbing.{name_cmp}
use Rattle.rls_epoch.specs.Sorted.{names_at}
use Rattle.rls_epoch.proofs.tree.Tree.names_below.Given as goal

-- the one before the lower end is less, and the one at the upper end isn't
abbrev pub invariant-loop-low : goal.invariant-loop-low
invariant-loop-low l = record {
  order : l.low ≤ l.high;
  in_range : l.high ≤ length l.self.by_name.items;
  below : (f : EpochName) → 0 < l.low → slice_get (names_at l.self.nodes.placed l.self.by_name.items) (l.low - 1) ≡ Some f → name_cmp f l.name ≡ Less;
  above : (f : EpochName) → slice_get (names_at l.self.nodes.placed l.self.by_name.items) l.high ≡ Some f → name_cmp f l.name ≡ Less → ⊥;
}

abbrev pub decreases-loop-low : goal.decreases-loop-low
decreases-loop-low l = l.high - l.low
