use Rattle.std.proofs.Common.{◌≡◌, ◌++◌, map, drop}
use Rattle.rls_model.specs.Parts.{epoch_part, epoch_parts, node_of}
use Rattle.rls_parts.proofs.kept_epochs.epoch_parts.Given as goal

-- those from the index on are still to come
abbrev pub invariant-loop-name : goal.invariant-loop-name
invariant-loop-name l = l.parts ++ map (λ e. epoch_part l.names e (node_of l.epochs.epochs.nodes e)) (drop l.name-index l.others) ≡ epoch_parts l.epochs.epochs.nodes l.names
