use Rattle.std.proofs.Common.{◌-◌, ◌≡◌, ◌<◌, ◌≤◌, pos, ◌+◌}
use Rattle.rls_ident.specs.Tuples.{tuple_cmp}
use Rattle.rls_ident.specs.Maps.{under}
use Rattle.rls_ident.specs.Identifiers.{shifted}
use Rattle.rls_rename.proofs.stretch.Stretch.side_end.Given as goal

-- the place low is on the side; the next place that is looked at lies between low and high, where there is one
abbrev pub invariant-loop-low : goal.invariant-loop-low
invariant-loop-low l = record {
  order : l.low < l.high;
  within : l.high ≤ l.self.len;
  above : l.low + 1 < l.high → l.low < l.middle;
  below : l.low + 1 < l.high → l.middle < l.high;
  same : under tuple_cmp (shifted (pos l.low) l.self.first) l.pattern ≡ l.is_under;
}

abbrev pub decreases-loop-low : goal.decreases-loop-low
decreases-loop-low l = l.high - l.low
