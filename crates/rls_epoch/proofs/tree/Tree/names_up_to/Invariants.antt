use Rattle.std.proofs.Common.{◌≡◌, ◌<◌, ◌≤◌, ◌-◌, ℕ, length}
use Rattle.std.specs.declared.cmp.Ordering.TheVariants.{Less}
use Rattle.rls_epoch.specs.Climbing.{name_cmp}
use Rattle.rls_epoch.specs.Maxima.{name_in}
use Rattle.rls_epoch.proofs.tree.Tree.names_up_to.Given as goal

-- none of those before the lower end is greater, and those from the upper end on are
abbrev pub invariant-loop-low : goal.invariant-loop-low
invariant-loop-low l = record {
  order : l.low ≤ l.high;
  in_range : l.high ≤ length l.self.by_name.items;
  below : (a : ℕ) → a < l.low → name_cmp l.name (name_in l.self.nodes.placed l.self.by_name.items a) ≡ Less → ⊥;
  above : (a : ℕ) → l.high ≤ a → a < length l.self.by_name.items → name_cmp l.name (name_in l.self.nodes.placed l.self.by_name.items a) ≡ Less;
}

abbrev pub decreases-loop-low : goal.decreases-loop-low
decreases-loop-low l = l.high - l.low
