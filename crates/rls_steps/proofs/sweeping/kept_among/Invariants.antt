use Rattle.std.proofs.Common.{◌≡◌, ◌-◌, ◌≤◌, ◌++◌, length, take}
use Rattle.std.specs.Prelude.{filter, reverse}
use Rattle.rls_seen.specs.Seen.{idents_over}
use Rattle.rls_steps.specs.NameRuns.{names_in}
use Rattle.rls_steps.specs.Sweeping.{is_kept}
use Rattle.rls_steps.proofs.sweeping.kept_among.Given as goal

-- those of the first ones that are kept
abbrev pub invariant-names : goal.invariant-names
invariant-names l = record {
  within : l.i ≤ length l.names;
  kept : l.kept ++ names_in l.last ≡ filter (is_kept (idents_over l.replica) l.labels (reverse l.names)) (take l.i l.names);
}

abbrev pub decreases-names : goal.decreases-names
decreases-names l = length l.names - l.i
