use Rattle.std.proofs.Common.{◌≡◌, ◌||◌, map, drop}
use Rattle.rls_ident.specs.declared.epoch_name.EpochName.{EpochName}
use Rattle.rls_ops.specs.Rows.{missing_for}
use Rattle.rls_epoch.specs.Seen.{is_marked}
use Rattle.rls_replica.proofs.counting.mark_unstable.Given as goal

-- those from the index on are still to be marked
abbrev pub invariant-loop-i : goal.invariant-loop-i
invariant-loop-i l = record {
  epochs : l.epochs.epochs ≡ l.fn.epochs.epochs;
  marks : (e : EpochName) → (is_marked (map (λ o. o.epoch) (missing_for l.stable (drop l.i l.log))) e || is_marked l.epochs.marks e) ≡ is_marked (map (λ o. o.epoch) (missing_for l.stable l.log)) e;
}
