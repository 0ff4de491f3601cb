use Rattle.std.proofs.Common.{◌≡◌, length, take}
use Rattle.rls_ident.specs.declared.epoch_name.EpochName.{EpochName}
use Rattle.rls_epoch.specs.Jumps.{AreJumps}
use Rattle.rls_epoch.specs.Seen.{AreLaid}
use Rattle.rls_epoch.proofs.jumps.renew_jumps.Given as goal

-- those of the first nodes are made
abbrev pub invariant-loop-i : goal.invariant-loop-i
invariant-loop-i l = record {
  whole : length l.jumps.items ≡ length l.nodes;
  made : (top : EpochName) → AreLaid top l.nodes → AreJumps top l.nodes (take l.i l.jumps.items);
}
