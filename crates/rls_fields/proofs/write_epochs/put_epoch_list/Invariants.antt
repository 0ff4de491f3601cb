use Rattle.std.proofs.Common.{◌≡◌, ◌^◌, ◌<◌, ◌++◌, drop, sum_by}
use Rattle.std.specs.List.{flat_map}
use Rattle.rls_model.specs.Parts.{epoch_part, epoch_parts, node_of}
use Rattle.rls_fields.specs.Fields.{epoch_bytes}
use Rattle.rls_fields.specs.FieldSizes.{epoch_size}
use Rattle.std.specs.Prelude.{map, All}
use Rattle.rls_fields.specs.Written.{FitsFormer}
use Rattle.rls_fields.proofs.write_epochs.put_epoch_list.Given as goal

abbrev pub invariant-loop-name : goal.invariant-loop-name
invariant-loop-name l = record {
  bytes : l.out.items ++ flat_map epoch_bytes (drop l.name-index (map (λ e. epoch_part l.places e (node_of l.epochs.epochs.nodes e)) l.others)) ≡ l.fn.out.items ++ flat_map epoch_bytes (epoch_parts l.epochs.epochs.nodes l.places);
  fits : All FitsFormer (drop l.name-index (map (λ e. epoch_part l.places e (node_of l.epochs.epochs.nodes e)) l.others)) → All FitsFormer (epoch_parts l.epochs.epochs.nodes l.places);
  small : sum_by epoch_size (drop l.name-index (map (λ e. epoch_part l.places e (node_of l.epochs.epochs.nodes e)) l.others)) < 2 ^ 32;
}
