use Rattle.std.proofs.Common.{◌≡◌, ◌+◌, ◌-◌, ◌^◌, ◌≤◌, min, drop, sum_by}
use Rattle.rls_model.specs.Parts.{epoch_part, epoch_parts, node_of}
use Rattle.rls_fields.specs.FieldSizes.{epoch_size}
use Rattle.std.specs.Prelude.{map}
use Rattle.rls_fields.proofs.write_epochs.kept_epochs_len.Given as goal

abbrev pub invariant-loop-name : goal.invariant-loop-name
invariant-loop-name l = record {
  size : min (l.total + sum_by epoch_size (drop l.name-index (map (λ e. epoch_part l.places e (node_of l.epochs.epochs.nodes e)) l.others))) (2 ^ 64 - 1) ≡ min (sum_by epoch_size (epoch_parts l.epochs.epochs.nodes l.places)) (2 ^ 64 - 1);
  fits : l.total ≤ 2 ^ 64 - 1;
}
